-- `statement_text::entry_line` meets its contract: only a contact has a line.
-- Assumes nothing.
use mathlib.Core.Path.{ap}
use native.Mathlib.Omega.{arith}
use lib.ListN.{length}
use Rattle.statement_text.proofs.Rows.{part-short, contact-entry, other-entry}
use Rattle.statement_text.proofs.entry_line.Goals as goal

pub row_line-requires : goal.row_line-requires
row_line-requires c =
    let a = c.args in
    omega (arith, ap length c.part_of-row.ensures, part-short a.run.now a.e, c.requires)

pub returns-then-e-eq-CONTACT : goal.returns-then-e-eq-CONTACT
returns-then-e-eq-CONTACT c =
    let a = c.args in
    contact-entry a.run.now a.e a.queued c.if-e-eq-CONTACT.true c.part_of-row.ensures c.row_line.ensures

pub returns : goal.returns
returns c =
    let a = c.args in
    other-entry a.run.now a.e a.queued c.if-e-eq-CONTACT.false

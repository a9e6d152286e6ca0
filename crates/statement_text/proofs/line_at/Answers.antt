-- `statement_text::line_at` meets its contract: queued rows are counted for contacts only.
-- Assumes nothing.
use mathlib.Core.Path.{refl}
use Rattle.store.specs.Line.{queued_of}
use Rattle.sheet_entries.specs.Table.{entries_from}
use Rattle.statement_text.proofs.Rows.{other-entry, entry-is}
use Rattle.statement_text.proofs.line_at.Goals as goal

pub returns-then-e-eq-CONTACT : goal.returns-then-e-eq-CONTACT
returns-then-e-eq-CONTACT c =
    let a = c.args in
    entry-is a.run.now (entries_from a.n a.records.now) c.entry_from-e.ensures c.queued_in-queued.ensures c.entry_line.ensures

pub returns : goal.returns
returns c =
    let a = c.args in
    let es = entries_from a.n a.records.now in
    entry-is a.run.now es c.entry_from-e.ensures refl
    (other-entry a.run.now c.entry_from-e.result (queued_of c.entry_from-e.result.id es) c.if-e-eq-CONTACT.false)

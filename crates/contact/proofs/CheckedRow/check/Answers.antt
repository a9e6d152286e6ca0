-- `contact::CheckedRow::check` meets its contract: what stands at the places that the check answers was read.
use Rattle.std.proofs.Common.{rules, ◌≡◌, Err}
use mathlib.Core.Path.{sym, subst}
use Rattle.layout.specs.Layout.{accepted, read_row}
use Rattle.layout.specs.Says.{made}
use Rattle.layout.proofs.At.{typed}
use Rattle.rows.specs.Rows.{contact}
use Rattle.rows.proofs.RoundTrip.{three}
use Rattle.contact.specs.Check.{contact_at}
use Rattle.contact.proofs.Placed.{placed, unplaced}
use Rattle.contact.proofs.CheckedRow.check.Goals as goal

pub returns-in_err-at : goal.returns-in_err-at
returns-in_err-at c =
    let no : c.from_residual.result ≡ Err c.in_err-at.field-0.0 = search rules in
    rw no (sym (unplaced c.args.row.now (typed c.args.row.now c.type_inv.row) c.args.version c.in_err-at.ensures))

-- only version 3 is read
pub invariant_of-result : goal.invariant_of-result
invariant_of-result c =
    let row = c.args.row.now in
    let at = c.in_ok-at.at in
    let by = typed row c.type_inv.row in
    let its = placed row by c.args.version c.in_ok-at.ensures in
    record {
      bytes = by;
      read = subst (λ version. accepted at ≡ made (contact_at version) (read_row (contact version) row)) (three _ c.args.version row its.0) c.in_ok-at.ensures;
    }

pub returns : goal.returns
returns c = sym (placed c.args.row.now (typed c.args.row.now c.type_inv.row) c.args.version c.in_ok-at.ensures).0

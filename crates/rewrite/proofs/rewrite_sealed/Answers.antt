-- `rewrite::rewrite_sealed` meets its contract: the reader's answer says whether the row was refused, and what `row` leaves is the row stored.
use Rattle.std.proofs.Common.{rules, ◌≡◌, Err}
use Rattle.layout.proofs.At.{typed}
use Rattle.rewrite.proofs.Again.{refused-row, granted-row}
use Rattle.rewrite.proofs.rewrite_sealed.Goals as goal

pub returns-in_err-sealed_at : goal.returns-in_err-sealed_at
returns-in_err-sealed_at g c =
    let no : c.from_residual.result ≡ Err c.in_err-sealed_at.field-0.0 = search rules in
    rw no (refused-row _ (g.R.SealedRow.layout c.args.version) c.args.row.now c.args.out.now c.in_err-sealed_at.ensures)

pub returns : goal.returns
returns g c =
    let a = c.args in
    let it = c.in_ok-sealed_at in
    let stored = g.met.R.ReadBack.read_write a.version a.row.now (typed a.row.now c.type_inv.row) (it.sealed_at, it.read) it.ensures a.out.now in
    granted-row _ (g.R.SealedRow.layout a.version) a.row.now a.out.now it.ensures (rw (c.sealed_text.ensures, stored) at c.row.ensures)

-- `fields::u16_at` meets its contract: a number of 2 bytes fits the narrower type.
use Rattle.std.proofs.Common.{rules, ◌≡◌, Err, arith}
use mathlib.Core.Path.{sym}
use Rattle.layout.specs.Form.{number}
use Rattle.layout.proofs.Front.{number-lawful}
use Rattle.layout.proofs.At.{typed, fits-at}
use Rattle.fields.proofs.u16_at.Goals as goal

pub returns-in_err-n : goal.returns-in_err-n
returns-in_err-n c = let no : c.from_residual.result ≡ Err c.in_err-n.field-0.0 = search rules in rw no c.in_err-n.ensures

pub overflow_cast-result : goal.overflow_cast-result
overflow_cast-result c =
    let a = c.args in
    let below = fits-at a.row.now a.at (number 2) (number-lawful 2) (typed a.row.now c.type_inv.row) (sym c.in_ok-n.ensures) in
    omega arith

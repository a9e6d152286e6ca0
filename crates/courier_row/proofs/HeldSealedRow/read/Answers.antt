-- `Held::read` meets its contract: what `read_courier` read, in parts.
use Rattle.std.proofs.Common.{rules, ◌≡◌, Err}
use Rattle.sealed.proofs.Made.{made-onto, made-no}
use Rattle.courier_row.specs.declared.HeldRead.{HeldRead}
use Rattle.courier_row.proofs.HeldSealedRow.read.Goals as goal

pub returns-in_err-read : goal.returns-in_err-read
returns-in_err-read c =
    let no : c.from_residual.result ≡ Err c.in_err-read.field-0.0 = search rules in
    rw no (made-no _ _ _ c.in_err-read.ensures)

pub returns : goal.returns
returns c = made-onto _ (λ (x : HeldRead). (x.sealed_at, x.held)) _ c.in_ok-read.ensures

-- `fields::mode_at` meets its contract: the byte at the position, by its table.
use Rattle.std.proofs.Common.{rules, ◌≡◌, ℕ, false, eqb, arith, Err}
use borrow.Author.Tests.{ne_eqb}
use Rattle.layout.specs.Questions.{CODE}
use Rattle.rows.specs.Rows.{mode_of, mode_byte}
use Rattle.fields.proofs.Codes.{code-yes, code-no, code-out}
use Rattle.fields.proofs.mode_at.Goals as goal

pub returns-in_err-byte : goal.returns-in_err-byte
returns-in_err-byte c =
    let no : c.from_residual.result ≡ Err c.in_err-byte.field-0.0 = search rules in
    rw no (code-out _ _ CODE mode_of mode_byte c.in_err-byte.ensures)

pub returns-in-3 : goal.returns-in-3
returns-in-3 c = code-yes _ _ CODE mode_of mode_byte c.in_ok-byte.ensures (rw c.in-3.is)

pub returns-in_default : goal.returns-in_default
returns-in_default c =
    let b : ℕ = c.in_ok-byte.byte in
    let n3 : eqb b 3 ≡ false = ne_eqb b 3 (λ e. omega arith) in
    code-no _ _ CODE mode_of mode_byte c.in_ok-byte.ensures (rw n3)

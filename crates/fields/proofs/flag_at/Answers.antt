-- `fields::flag_at` meets its contract: the byte at the position, by its table.
use Rattle.std.proofs.Common.{rules, ◌≡◌, ℕ, false, eqb, arith, Err}
use borrow.Author.Tests.{ne_eqb}
use Rattle.layout.specs.Questions.{FLAG}
use Rattle.layout.specs.Form.{flag_of, flag_byte}
use Rattle.fields.proofs.Codes.{code-yes, code-no, code-out}
use Rattle.fields.proofs.flag_at.Goals as goal

pub returns-in_err-byte : goal.returns-in_err-byte
returns-in_err-byte c =
    let no : c.from_residual.result ≡ Err c.in_err-byte.field-0.0 = search rules in
    rw no (code-out _ _ FLAG flag_of flag_byte c.in_err-byte.ensures)

pub returns-in-0 : goal.returns-in-0
returns-in-0 c = code-yes _ _ FLAG flag_of flag_byte c.in_ok-byte.ensures (rw c.in-0.is)

pub returns-in-1 : goal.returns-in-1
returns-in-1 c = code-yes _ _ FLAG flag_of flag_byte c.in_ok-byte.ensures (rw c.in-1.is)

pub returns-in_default : goal.returns-in_default
returns-in_default c =
    let b : ℕ = c.in_ok-byte.byte in
    let n0 : eqb b 0 ≡ false = ne_eqb b 0 (λ e. omega arith) in
    let n1 : eqb b 1 ≡ false = ne_eqb b 1 (λ e. omega arith) in
    code-no _ _ FLAG flag_of flag_byte c.in_ok-byte.ensures (rw (n0, n1))

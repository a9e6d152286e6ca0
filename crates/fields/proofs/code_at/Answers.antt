-- `fields::code_at` meets its contract: the byte at the position, by the table of its type.
use Rattle.std.proofs.Common.{rules, ◌≡◌, Err}
use mathlib.Core.Path.{refl}
use Rattle.layout.specs.Questions.{CODE}
use Rattle.fields.proofs.Codes.{code-out, named-yes, named-no}
use Rattle.fields.proofs.code_at.Goals as goal

pub returns-in_err-byte : goal.returns-in_err-byte
returns-in_err-byte g c =
    let no : c.from_residual.result ≡ Err c.in_err-byte.field-0.0 = search rules in
    rw no (code-out _ _ CODE g.C.Code.of g.C.Code.to c.in_err-byte.ensures)

pub returns-in_err-try_from : goal.returns-in_err-try_from
returns-in_err-try_from g c =
    let no : c.from_residual-in_err-try_from.result ≡ Err c.in_err-try_from.field-0.0 = search rules in
    rw no (named-no _ _ CODE g.C.Code.of g.C.Code.to c.in_ok-byte.ensures refl (g.met.C.Code.by_table _ _ c.in_err-try_from.ensures))

pub returns : goal.returns
returns g c = named-yes _ _ CODE g.C.Code.of g.C.Code.to c.in_ok-byte.ensures (g.met.C.Code.by_table _ _ c.in_ok-try_from.ensures)

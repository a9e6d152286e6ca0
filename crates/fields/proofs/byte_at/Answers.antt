-- `fields::byte_at` meets its contract: a number of one byte.
use Rattle.std.proofs.Common.{rules, ◌≡◌, ◌<◌, ◌≤◌, Err, length, get_or, arith}
use mathlib.Core.Path.{sym}
use Rattle.layout.specs.declared.question.Question.TheVariants.{Field}
use Rattle.layout.proofs.At.{byte-in, number-out}
use Rattle.fields.proofs.byte_at.Goals as goal

pub returns-in_err-byte : goal.returns-in_err-byte
returns-in_err-byte c =
    let past : length c.args.row.now ≤ c.args.at = search rules in
    let no : c.from_residual.result ≡ Err Field = search rules in
    rw no (sym (number-out _ _ 1 (omega arith) (omega arith)))

pub returns : goal.returns
returns c =
    let inside : c.args.at < length c.args.row.now = search rules in
    let taken : get_or c.args.row.now c.args.at 0 ≡ c.in_ok-byte.byte.now = search rules in
    rw (← taken) (sym (byte-in _ _ inside))

-- The size of a chain in its place: dir and the flag decide.
use Rattle.std.proofs.Common.{rules, ◌≡◌, ◌≤◌, true, false, Err, length, drop, get_or, arith}
use mathlib.Core.Option.{some}
use mathlib.Core.Path.{sym, ap, ◌∙◌}
use lib.ListN.{length-drop}
use Rattle.layout.specs.Questions.{FLAG, CODE}
use Rattle.layout.specs.Form.{flag_of, flag_byte}
use Rattle.layout.specs.RowLaws.{Bytes}
use Rattle.layout.specs.Write.{refuses}
use Rattle.layout.proofs.At.{typed, bytes_drop}
use Rattle.rows.specs.Rows.{dir_of, dir_byte}
use Rattle.contact_lent.proofs.Sizes.{letter-yes, letter-refused, chain-no-dir, chain-no-flag, chain-sized}
use Rattle.contact_lent.proofs.ChainPlace.size.Goals as goal
use Rattle.contact_lent.proofs.ChainPlace.size.Goals.{After-code_at, In_ok-code_at}

placed : (c : After-code_at) → Bytes (drop c.args.at c.args.lent.now) × (51 ≤ length (drop c.args.at c.args.lent.now))
placed c = (bytes_drop c.args.at c.args.lent.now (typed c.args.lent.now c.type_inv.lent), rw length-drop (omega arith))

dir_is : (c : In_ok-code_at) → dir_of (get_or (drop c.args.at c.args.lent.now) 1 0) ≡ some c.in_ok-code_at.field-0.0
dir_is c = letter-yes CODE dir_of dir_byte c.args.lent.now c.args.at 1 (omega arith) (sym c.in_ok-code_at.ensures)

pub returns-in_err-code_at : goal.returns-in_err-code_at
returns-in_err-code_at c =
    let no : c.from_residual.result ≡ Err c.in_err-code_at.field-0.0 = search rules in
    let p = placed (goal.at.returns-in_err-code_at c).After-code_at in
    let bad = letter-refused CODE dir_of dir_byte c.args.lent.now c.args.at 1 (omega arith) (sym c.in_err-code_at.ensures) in
    rw no (sym (chain-no-dir _ p.0 p.1 bad.0 ∙ ap (λ q. refuses q) bad.1), tt)

pub returns-in_err-superseded : goal.returns-in_err-superseded
returns-in_err-superseded c =
    let no : c.from_residual-in_err-superseded.result ≡ Err c.in_err-superseded.field-0.0 = search rules in
    let p = placed (goal.at.returns-in_err-superseded c).After-code_at in
    let bad = letter-refused FLAG flag_of flag_byte c.args.lent.now c.args.at 42 (omega arith) (sym c.in_err-superseded.ensures) in
    rw no (sym (chain-no-flag _ p.0 p.1 (dir_is (goal.at.returns-in_err-superseded c).In_ok-code_at) bad.0 ∙ ap (λ q. refuses q) bad.1), tt)

pub returns-then-superseded : goal.returns-then-superseded
returns-then-superseded c =
    let p = placed (goal.at.returns-then-superseded c).After-code_at in
    let yes = letter-yes FLAG flag_of flag_byte c.args.lent.now c.args.at 42 (omega arith) (sym c.in_ok-superseded.ensures) in
    (sym (chain-sized _ p.0 p.1 true (dir_is (goal.at.returns-then-superseded c).In_ok-code_at) (yes ∙ ap some c.if-superseded.true)), omega arith)

pub returns : goal.returns
returns c =
    let p = placed (goal.at.returns c).After-code_at in
    let yes = letter-yes FLAG flag_of flag_byte c.args.lent.now c.args.at 42 (omega arith) (sym c.in_ok-superseded.ensures) in
    (sym (chain-sized _ p.0 p.1 false (dir_is (goal.at.returns c).In_ok-code_at) (yes ∙ ap some c.if-superseded.false)), omega arith)

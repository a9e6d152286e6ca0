-- The size of a skipped key in its place: dir decides.
use Rattle.std.proofs.Common.{rules, ◌≡◌, ◌≤◌, Err, length, drop, arith}
use mathlib.Core.Path.{sym, ap, ◌∙◌}
use lib.ListN.{length-drop}
use Rattle.layout.specs.Questions.{CODE}
use Rattle.layout.specs.RowLaws.{Bytes}
use Rattle.layout.specs.Write.{refuses}
use Rattle.layout.proofs.At.{typed, bytes_drop}
use Rattle.rows.specs.Rows.{dir_of, dir_byte}
use Rattle.contact_lent.proofs.Sizes.{letter-yes, letter-refused, skipped-no-dir, skipped-sized}
use Rattle.contact_lent.proofs.SkippedPlace.size.Goals as goal
use Rattle.contact_lent.proofs.SkippedPlace.size.Goals.{After-code_at}

placed : (c : After-code_at) → Bytes (drop c.args.at c.args.lent.now) × (46 ≤ length (drop c.args.at c.args.lent.now))
placed c = (bytes_drop c.args.at c.args.lent.now (typed c.args.lent.now c.type_inv.lent), rw length-drop (omega arith))

pub returns-in_err-code_at : goal.returns-in_err-code_at
returns-in_err-code_at c =
    let no : c.from_residual.result ≡ Err c.in_err-code_at.field-0.0 = search rules in
    let p = placed (goal.at.returns-in_err-code_at c).After-code_at in
    let bad = letter-refused CODE dir_of dir_byte c.args.lent.now c.args.at 1 (omega arith) (sym c.in_err-code_at.ensures) in
    rw no (sym (skipped-no-dir _ p.0 p.1 bad.0 ∙ ap (λ q. refuses q) bad.1), tt)

pub returns : goal.returns
returns c =
    let p = placed (goal.at.returns c).After-code_at in
    let yes = letter-yes CODE dir_of dir_byte c.args.lent.now c.args.at 1 (omega arith) (sym c.in_ok-code_at.ensures) in
    (sym (skipped-sized _ p.0 p.1 yes), omega arith)

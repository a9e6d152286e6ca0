-- `Outgoing::size` meets its contract: question 13, and then the sum of the fields' lengths.
use Rattle.std.proofs.Common.{rules, ◌≡◌, ◌+◌, ◌≤◌, ℕ, List, true, length, arith}
use mathlib.Core.Path.{sym, ap, ◌∙◌}
use Rattle.layout.specs.Form.{leb_print}
use Rattle.layout.specs.Write.{wrote}
use Rattle.rows.specs.Checks.{sealed_queued}
use Rattle.data.proofs.Leb.{few-printed}
use Rattle.sealed.proofs.Buckets.{queued-few}
use Rattle.queued_row.specs.Row.{own_image}
use Rattle.queued_row.proofs.Image.{whole, bad-length, length-image, own-absent, length-present}
use Rattle.queued_row.proofs.OutgoingSealedRow.size.Goals as goal
use Rattle.queued_row.proofs.OutgoingSealedRow.size.Goals.{in-None, in-Some}

few : (idx : ℕ) (sealed : List ℕ) → sealed_queued (length sealed) ≡ true → length (leb_print 4 idx) + length sealed ≤ 4069
few idx sealed fit = omega (arith, queued-few (length sealed) fit, few-printed 4 idx)

pub returns-then-not-sealed_queued : goal.returns-then-not-sealed_queued
returns-then-not-sealed_queued c = sym (bad-length c.args.self c.typed.ensures c.args.sealed.now (search rules))

pub overflow_add-result-2 : goal.overflow_add-result-2
overflow_add-result-2 c =
    let own : c.match-self.own_len ≤ 39 = elim c.match-self.branch [ in-None w ↦ omega arith | in-Some w ↦ omega arith ] in
    omega (arith, few c.args.self.idx c.args.sealed.now (search rules), c.leb128_len.ensures)

pub overflow_add-result-3 : goal.overflow_add-result-3
overflow_add-result-3 c =
    let own : c.match-self.own_len ≤ 39 = elim c.match-self.branch [ in-None w ↦ omega arith | in-Some w ↦ omega arith ] in
    omega (arith, few c.args.self.idx c.args.sealed.now (search rules), c.leb128_len.ensures)

pub returns : goal.returns
returns c =
    let q = c.args.self in
    let own : length (own_image c.args.self) ≡ c.match-self.own_len = elim c.match-self.branch [
      | in-None w ↦ ap length (own-absent c.args.self w.in-None.is) ∙ sym w.own_len-is
      | in-Some w ↦ length-present c.args.self c.typed.ensures w.in-Some.is ∙ sym w.own_len-is
    ] in
    sym (whole q c.typed.ensures c.args.sealed.now (search rules) ∙ ap wrote (omega (arith, length-image q c.typed.ensures c.args.sealed.now, own, c.leb128_len.ensures)))

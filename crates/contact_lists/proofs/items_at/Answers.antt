-- `contact_lists::items_at` meets its contract. The invariant: what is left of the items ends as the whole does.
use Rattle.std.proofs.Common.{rules, ◌≡◌, ◌-◌, Err, arith}
use mathlib.Core.Path.{refl, sym, ◌∙◌}
use Rattle.contact_lists.specs.Walked as walked
use Rattle.contact_lists.proofs.Ends.{one_end}
use Rattle.contact_lists.proofs.items_at.Goals as goal

pub returns-in_err-next : goal.returns-in_err-next
returns-in_err-next g c =
    let no : c.from_residual-in_err-next.result ≡ Err c.in_err-next.field-0.0 = search rules in
    rw (no, ← c.in_ok-count.ensures, ← c.loop.invariant, one_end (g.I.Item.ends c.args.row.now) c.in_ok-count.count c.loop.counter c.loop.next c.loop-test.true, ← c.in_err-next.ensures) refl

pub loop-preserved : goal.loop-preserved
loop-preserved g c = sym (one_end (g.I.Item.ends c.args.row.now) c.in_ok-count.count c.loop.counter c.loop.next c.loop-test.true ∙ rw (← c.in_ok-next.ensures) refl) ∙ c.loop.invariant

pub returns : goal.returns
unfolding walked.end_of
returns g c =
    let none_left : c.in_ok-count.count - c.loop.counter ≡ 0 = omega arith in
    let same : c.from.result ≡ c.in_ok-count.count = search rules in
    rw (← c.in_ok-count.ensures, ← c.loop.invariant, none_left, same) refl

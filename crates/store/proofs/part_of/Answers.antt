-- `store::part_of` meets its contract: a row that is within the run ends there, and its part is as long as the entry says.
use Prim.Native.Nat.{◌+◌, ◌-◌, ◌≤◌}
use mathlib.Core.Path.{◌≡◌, sym, ◌∙◌}
use native.Mathlib.Omega.{arith}
use lib.ListN.{length}
use borrow.Author.Tests.{leb-true}
use Rattle.store.proofs.part_of.Goals as goal
use Rattle.store.proofs.part_of.Goals.{Then-is_within}

ends : (c : Then-is_within) → c.args.e.start + c.args.e.len ≤ length c.args.run.now
ends c = leb-true _ _ (sym c.is_within.ensures ∙ c.if-is_within.true)

pub overflow_add-end : goal.overflow_add-end
overflow_add-end c = omega (arith, ends (goal.at.overflow_add-end c).Then-is_within)

pub slice_bounds-result-end : goal.slice_bounds-result-end
slice_bounds-result-end c = omega (arith, ends (goal.at.slice_bounds-result-end c).Then-is_within)

pub returns-then-is_within : goal.returns-then-is_within
returns-then-is_within c =
    let long : c.args.e.start + c.args.e.len - c.args.e.start ≡ c.args.e.len = omega arith in
    rw (sym c.is_within.ensures ∙ c.if-is_within.true, long)

pub returns : goal.returns
returns c = rw (sym c.is_within.ensures ∙ c.if-is_within.false)

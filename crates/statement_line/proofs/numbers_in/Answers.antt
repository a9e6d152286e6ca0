-- A turn counts one range. A count above the ranges that there are counts as these.
use Prim.Native.Nat.{ℕ, ◌/◌, min}
use mathlib.Core.Bool.{Bool, true, false}
use mathlib.Core.List.{List}
use mathlib.Core.Path.{◌≡◌, refl, ap, ◌∙◌}
use native.Mathlib.Omega.{arith}
use lib.ListN.{length}
use lib.Dec.{leb}
use borrow.Author.Tests.{leb-true, leb-false}
use Rattle.numbers.specs.Sets.{size_from}
use Rattle.received.specs.Lent.{pairs}
use Rattle.received.proofs.Pairs.{drop-pairs, drop-pairs-all, pairs-lent}
use Rattle.statement_line.proofs.Numbers.{counted_capped, all_capped}
use Rattle.statement_line.proofs.numbers_in.Goals as goal

held-pairs : (k h : ℕ) (l : List ℕ) → h ≡ min k (length l / 2) → pairs h l ≡ pairs k l
held-pairs k h l e = go (leb k (length l / 2)) refl
  where
    go : (t : Bool) → leb k (length l / 2) ≡ t → pairs h l ≡ pairs k l
    go true t = let same : h ≡ k = omega (arith, e, leb-true k (length l / 2) t) in ap (λ (n : ℕ). pairs n l) same
    go false t =
        let less = leb-false k (length l / 2) t in
        let same : h ≡ length l / 2 = omega (arith, e, less) in
        ap (λ (n : ℕ). pairs n l) same ∙ pairs-lent k l (omega (arith, less))

pub loop-i-preserved : goal.loop-i-preserved
loop-i-preserved c =
    let next = drop-pairs c.args.list.now c.min-held.result c.loop-i.i c.loop-i-test.true (omega arith) in (
      omega arith,
      omega arith,
      counted_capped c.args.lowest c.loop-i.sum _ c.loop-i.invariant.2 next c.size_from-n.ensures.0 c.saturating_add-sum.ensures,
    )

pub returns : goal.returns
returns c =
    let same = ap (size_from c.args.lowest) (held-pairs c.args.count c.min-held.result c.args.list.now c.min-held.ensures) in
    let capped = all_capped c.args.lowest c.loop-i.sum _ c.loop-i.invariant.1 c.loop-i.invariant.2 (drop-pairs-all c.args.list.now c.min-held.result c.loop-i.i c.loop-i-test.false (omega arith)) in
    (rw (← same) capped, λ h. rw (← same) (omega (arith, capped)))

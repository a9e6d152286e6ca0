-- `received::below` meets its contract: the first range that does not end below has as many before it.
use Rattle.std.proofs.Common.{ℕ, ◌≡◌, List, ◌+◌, ◌<◌, ◌≤◌, get_or, length, refl, rules, arith, tests}
use Rattle.std.specs.Option.{unwrap_or}
use Rattle.std.proofs.lemmas.Iterator.{YieldsList-from_slice, IsFirst-from_position, index_from_first}
use borrow.Author.Tests.{lt-ltb, le-ltb}
use Rattle.numbers.specs.Ranges.{below}
use Rattle.received.specs.Lent.{ranges_of}
use Rattle.received.proofs.Pairs.{length-ranges}
use Rattle.received.proofs.Changes.{below-few}
use Rattle.received.proofs.below.Goals as goal

pub returns : goal.returns
returns c =
    let f = c.args.from in
    let ps = c.args.ranges.now in
    let found = IsFirst-from_position _ _ c.position.result (λ p. f ≤ get_or p 1 0 + 1) (λ p. get_or p 1 0 + 1 < f) c.position.ensures.ran (YieldsList-from_slice ps cc) (λ x q k. search (rules, tests)) (λ x q k. search (rules, tests)) in
    let is : below f (ranges_of ps) ≡ unwrap_or c.position.result (length ps) =
    index_from_first (λ (qs : List (List ℕ)). below f (ranges_of qs)) (λ (p : List ℕ). f ≤ get_or p 1 0 + 1) (λ (p : List ℕ). get_or p 1 0 + 1 < f) refl (λ x xs h. rw (le-ltb _ _ h)) (λ x xs h. rw (lt-ltb _ _ h) (omega arith)) ps c.position.result found in
    let same : c.unwrap_or.result ≡ below f (ranges_of ps) = cc in
    (same, omega (arith, same, below-few f (ranges_of ps), length-ranges ps))

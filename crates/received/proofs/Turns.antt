-- What a turn of each loop over the ranges does.
-- Assumes nothing.
use Rattle.std.proofs.Common.{ℕ, ◌+◌, ◌-◌, ◌≤◌, ◌<◌, min, max, List, [], get_or, length, drop, ◌≡◌, sym, ap, ◌∙◌, arith, length-drop, drop_of_length-le}
use borrow.Author.Tests.{lt-ltb, le-ltb}
use Rattle.numbers.specs.Ranges as ranges
use Rattle.numbers.specs.Ranges.{range, Merged, merged, uncovered}
use Rattle.received.specs.Lent.{ranges_of}
use Rattle.received.proofs.Pairs.{drop-ranges, length-ranges}

module _ (ps : List (List ℕ)) (i : ℕ) (h : i < length ps) where
  -- the i-th range starts above t, or is merged
  pub merged-stop : (f t : ℕ) (m : Merged) → merged f t (drop i (ranges_of ps)) ≡ m → t + 1 < get_or (get_or ps i []) 0 0
      → (m.range ≡ range f t) × (length m.behind ≡ length ps - i)
  merged-stop f t m e p =
      let s : m ≡ record { range = range f t; behind = drop i (ranges_of ps) } = sym e ∙ rw (drop-ranges ps i h, lt-ltb _ _ p) in
      (rw s, rw s (length-drop i (ranges_of ps) ∙ rw (length-ranges ps)))

  pub merged_on : (f t : ℕ) (m : Merged) → merged f t (drop i (ranges_of ps)) ≡ m → get_or (get_or ps i []) 0 0 ≤ t + 1
      → merged (min f (get_or (get_or ps i []) 0 0)) (max t (get_or (get_or ps i []) 1 0)) (drop (i + 1) (ranges_of ps)) ≡ m
  merged_on f t m e p = sym (rw (drop-ranges ps i h, le-ltb _ _ p)) ∙ e

  -- the i-th range is passed: so many lie before it
  pub uncovered-on : (at t found n start : ℕ) → found + uncovered at t (drop i (ranges_of ps)) ≡ n → start ≡ max at (min (t + 1) (get_or (get_or ps i []) 0 0))
      → found + (start - at) + uncovered (max start (get_or (get_or ps i []) 1 0 + 1)) t (drop (i + 1) (ranges_of ps)) ≡ n
  unfolding ranges.uncovered
  uncovered-on at t found n start e is = rw is (omega (arith, ap (uncovered at t) (drop-ranges ps i h)))

pub uncovered-end : (ps : List (List ℕ)) (i : ℕ) → length ps ≤ i → (at t found n : ℕ) → found + uncovered at t (drop i (ranges_of ps)) ≡ n → found + (t + 1 - at) ≡ n
unfolding ranges.uncovered
uncovered-end ps i h at t found n e = omega (arith, ap (uncovered at t) (drop_of_length-le (ranges_of ps) {i = i} (rw (length-ranges ps) h)))

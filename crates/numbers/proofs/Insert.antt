-- Insertion in its two cases, by whether f..t reaches 1..contiguous.
-- Assumes nothing.
use Prim.Native.Nat.{ℕ, ◌+◌, ◌≤◌, ◌<◌, min, max}
use mathlib.Core.List.{◌∷◌}
use mathlib.Core.Path.{◌≡◌}
use native.Mathlib.Omega.{arith}
use borrow.Author.Tests.{lt-ltb, le-ltb}
use Rattle.numbers.specs.Ranges.{Received, range, merged, merged_at, insert, all_ranges}

module _ (v : Received) (f t : ℕ) where
  pub merged-joined : f ≤ v.contiguous + 1 → merged_at f t (all_ranges v) ≡ merged 0 (max t v.contiguous) v.above
  merged-joined h =
      let z : min f 0 ≡ 0 = omega arith in
      rw (le-ltb (v.contiguous + 1) f h, le-ltb (t + 1) 0 (omega arith), z)

  pub insert-joined : f ≤ v.contiguous + 1
      → insert f t (all_ranges v) ≡ (merged 0 (max t v.contiguous) v.above).range ∷ (merged 0 (max t v.contiguous) v.above).behind
  unfolding insert
  insert-joined h = rw (← merged-joined h, le-ltb (v.contiguous + 1) f h)

  pub insert-apart : v.contiguous + 1 < f → insert f t (all_ranges v) ≡ range 0 v.contiguous ∷ insert f t v.above
  unfolding insert
  insert-apart h = rw (lt-ltb (v.contiguous + 1) f h)

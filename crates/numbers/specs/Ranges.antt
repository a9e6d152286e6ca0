-- The covered numbers as a contact row holds them, 1..contiguous and ranges above, and what a cover does to them. Defined on every list of ranges.
-- Assumes nothing.
use Rattle.std.specs.Prelude.{ℕ, suc, ◌+◌, ◌-◌, min, max, List, [], ◌∷◌, ◌++◌, Bool, cond, ◌&&◌, ◌||◌, leb, ltb, take, drop}
use Rattle.rows.specs.Values.{Range}
use Rattle.rows.specs.Checks.{any}

pub record Received : Type 0 where
  pub contiguous : ℕ
  pub above : List Range

abbrev pub received : ℕ → List Range → Received
received c rs = record { contiguous = c; above = rs }

-- the numbers from f to t, both included
abbrev pub range : ℕ → ℕ → Range
range f t = record { from = f; to = t }

-- 37
abbrev pub is_range : (from to : ℕ) → Bool
is_range f t = leb 1 f && leb f t

-- ---- contains, covers
-- all of f..t lies in the range
abbrev pub inside : ℕ → ℕ → Range → Bool
inside f t r = leb r.from f && leb t r.to

abbrev pub covers : Received → ℕ → ℕ → Bool
covers v f t = leb t v.contiguous || any (inside f t) v.above

abbrev pub contains : Received → ℕ → Bool
contains v n = leb 1 n && covers v n n

-- ---- insert
-- how many ranges at the front end below f, without touching it
abbrev pub below : ℕ → List Range → ℕ
below f [] = 0
below f (r ∷ rs) = cond (ltb (r.to + 1) f) (suc (below f rs)) 0

pub record Merged : Type 0 where
  pub range : Range
  pub behind : List Range

-- f..t made one with the ranges at the front that it touches or overlaps, and the ranges behind it
abbrev pub merged : ℕ → ℕ → List Range → Merged
merged f t [] = record { range = range f t; behind = [] }
merged f t (r ∷ rs) =
    cond (ltb (t + 1) r.from) (record { range = range f t; behind = r ∷ rs })
    (merged (min f r.from) (max t r.to) rs)

-- the same behind the ranges that end below f
abbrev pub merged_at : ℕ → ℕ → List Range → Merged
merged_at f t rs = merged f t (drop (below f rs) rs)

-- f..t added to rising ranges: those below it stay, those that it touches or overlaps become one with it, the others stay behind it
unfoldable pub insert : ℕ → ℕ → List Range → List Range
insert f t rs = take (below f rs) rs ++ (merged_at f t rs).range ∷ (merged_at f t rs).behind

-- 1..contiguous counts as the first range, as 0..contiguous: so a range that starts at 1 touches it also where contiguous is 0
abbrev pub all_ranges : Received → List Range
all_ranges v = range 0 v.contiguous ∷ v.above

abbrev pub from_ranges : List Range → Received
from_ranges [] = received 0 []
from_ranges (r ∷ rs) = received r.to rs

unfoldable pub inserted : Received → ℕ → ℕ → Received
inserted v f t = from_ranges (insert f t (all_ranges v))

-- ---- how many numbers an insert adds (document 02's A2)
-- how many of at..t lie in none of these ranges, if these rise. The list is gone through once, and `at` only moves up: so on any list no number counts twice
unfoldable pub uncovered : (at t : ℕ) → List Range → ℕ
uncovered at t [] = t + 1 - at
uncovered at t (r ∷ rs) =
    let here = max at (min (t + 1) r.from) in
    here - at + uncovered (max here (r.to + 1)) t rs

-- how many of f..t are not covered; 0 is no message number, and never counts, since 0..contiguous holds it
abbrev pub added : Received → ℕ → ℕ → ℕ
added v f t = uncovered f t (all_ranges v)

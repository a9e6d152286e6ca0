-- How many numbers from `lowest` on ranges hold, a range at a time.
-- Assumes nothing.
use Prim.Native.Nat.{ℕ, ◌+◌, ◌-◌, ◌≤◌, min, max}
use mathlib.Core.List.{List, [], ◌∷◌}
use mathlib.Core.Path.{◌≡◌, ap}
use native.Mathlib.Omega.{arith}
use Rattle.rows.specs.Values.{Range}
use Rattle.numbers.specs.Sets.{size_from}

-- the sum, and what these ranges hold, are the total: the first range is counted, and the end
module _ (lowest sum : ℕ) {total : ℕ} {rs : List Range} (e : sum + size_from lowest rs ≡ total) where
  pub counted : {n : ℕ} {r : Range} {rest : List Range} → rs ≡ r ∷ rest → n ≡ r.to + 1 - max r.from lowest → sum + n + size_from lowest rest ≡ total
  counted {r = r} {rest = rest} is w = let d : size_from lowest rs ≡ r.to + 1 - max r.from lowest + size_from lowest rest = ap (size_from lowest) is in omega arith

  pub all-counted : rs ≡ [] → sum ≡ total
  all-counted is = let d : size_from lowest rs ≡ 0 = ap (size_from lowest) is in omega arith

-- the same of a sum that stays at the most that it can be
pub counted_capped : (lowest sum most : ℕ) {next n total : ℕ} {rs rest : List Range} {r : Range} → min (sum + size_from lowest rs) most ≡ total → rs ≡ r ∷ rest
    → n ≡ r.to + 1 - max r.from lowest → next ≡ min (sum + n) most → min (next + size_from lowest rest) most ≡ total
counted_capped lowest sum most {rs = rs} {rest = rest} {r = r} e is w capped =
    let d : size_from lowest rs ≡ r.to + 1 - max r.from lowest + size_from lowest rest = ap (size_from lowest) is in omega arith

pub all_capped : (lowest sum most : ℕ) {total : ℕ} {rs : List Range} → sum ≤ most → min (sum + size_from lowest rs) most ≡ total → rs ≡ [] → sum ≡ total
all_capped lowest sum most {rs = rs} h e is = let d : size_from lowest rs ≡ 0 = ap (size_from lowest) is in omega arith

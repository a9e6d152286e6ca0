-- A search that goes on: where p does not hold of the i-th index, the first that it holds of is that of those behind it.
-- Assumes nothing.
use Rattle.std.proofs.Common.{◌≡◌, ℕ, suc, ◌+◌, ◌-◌, ◌<◌, Bool, false, refl, arith, add-one}
use Rattle.store.specs.Find.{first_where}

pub passed : (p : ℕ → Bool) (i upto : ℕ) → i < upto → p i ≡ false → first_where p (i + 1) (upto - (i + 1)) ≡ first_where p i (upto - i)
passed p i upto l e = let left : upto - i ≡ suc (upto - (i + 1)) = omega arith in rw (left, e, add-one) refl

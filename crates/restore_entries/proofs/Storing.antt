-- What is stored past a list's end changes nothing.
-- Assumes nothing.
use Rattle.std.proofs.Common.{◌≡◌, ℕ, zero, suc, ◌≤◌, List, [], ◌∷◌, length, set, refl, ap, arith}

pub set_past : {A : Type 0} (l : List A) (i : ℕ) (x : A) → length l ≤ i → l ≡ set l i x
set_past [] i x p = refl
set_past (y ∷ l) zero x p = absurd (omega arith)
set_past (y ∷ l) (suc i) x p = ap (λ m. y ∷ m) (set_past l i x (omega arith))

-- A list that is laid over the front of another, an element at a time.
-- Assumes nothing.
use Prim.Native.Nat.{ℕ, zero, suc, ◌<◌, min}
use native.Mathlib.Omega.{arith}
use native.Mathlib.Nat.{not-suc-le-zero, le_of_suc-le-suc}
use mathlib.Core.List.{List, [], ◌∷◌}
use mathlib.Core.Path.{◌≡◌, refl, ap}
use lib.ListN.{length, get_or, set, take}
use lib.Seq.{take-nil}
use Rattle.sheet_entries.specs.Table as over
use Rattle.sheet_entries.specs.Table.{overlaid}

module _ {A : Type 0} where
  pub none-laid : (l : List A) → l ≡ overlaid l []
  unfolding over.overlaid
  none-laid [] = refl
  none-laid (y ∷ l) = refl

  pub laid_next : (d : A) (l xs : List A) (i : ℕ) → i < length xs → set (overlaid l (take i xs)) i (get_or xs i d) ≡ overlaid l (take (suc i) xs)
  unfolding over.overlaid
  laid_next d l [] i p = absurd (not-suc-le-zero p)
  laid_next d [] (x ∷ xs) i p = refl
  laid_next d (y ∷ l) (x ∷ xs) zero p = ap (λ m. x ∷ m) (none-laid l)
  laid_next d (y ∷ l) (x ∷ xs) (suc i) p = ap (λ m. x ∷ m) (laid_next d l xs i (le_of_suc-le-suc p))

  -- behind the shorter one's end nothing is laid
  pub laid-all : (l xs : List A) (n : ℕ) → n ≡ min (length xs) (length l) → overlaid l (take n xs) ≡ overlaid l xs
  unfolding over.overlaid
  laid-all [] xs n e = refl
  laid-all (y ∷ l) [] n e = rw (take-nil n)
  laid-all (y ∷ l) (x ∷ xs) zero e = absurd (omega arith)
  laid-all (y ∷ l) (x ∷ xs) (suc n) e = ap (λ m. x ∷ m) (laid-all l xs n (omega arith))

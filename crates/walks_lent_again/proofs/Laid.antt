-- What is stored over a list's front: one element more in each turn.
-- Assumes nothing.
use Rattle.std.proofs.Common.{◌≡◌, ℕ, zero, suc, ◌+◌, ◌≤◌, ◌<◌, min, List, [], ◌∷◌, length, get_or, set, take, refl, sym, ◌∙◌, ap, arith, add-one, lt-ltb, le-ltb}
use native.Mathlib.Decide.{dec_le}
use Rattle.std.proofs.lemmas.List.{set_past}
use Rattle.restore_entries.specs.Next.{next_in}
use Rattle.sheet_entries.specs.Table as over
use Rattle.sheet_entries.specs.Table.{overlaid}

module _ {A : Type 0} where
  pub nothing_laid : (l : List A) → l ≡ overlaid l []
  unfolding over.overlaid
  nothing_laid [] = refl
  nothing_laid (y ∷ l) = refl

  laid-suc : (d : A) (l xs : List A) (i : ℕ) → i < length xs → set (overlaid l (take i xs)) i (get_or xs i d) ≡ overlaid l (take (suc i) xs)
  unfolding over.overlaid
  laid-suc d l [] i h = absurd (omega arith)
  laid-suc d [] (x ∷ xs) i h = refl
  laid-suc d (y ∷ l) (x ∷ xs) zero h = ap (λ m. x ∷ m) (nothing_laid l)
  laid-suc d (y ∷ l) (x ∷ xs) (suc i) h = ap (λ m. x ∷ m) (laid-suc d l xs i (omega arith))

  pub laid_next : (d : A) (l xs held : List A) (i : ℕ) → i < length xs → held ≡ overlaid l (take i xs) → set held i (get_or xs i d) ≡ overlaid l (take (i + 1) xs)
  laid_next d l xs held i h is = rw (is, add-one) (laid-suc d l xs i h)

  -- the place is the index, or the end
  module _ (l : List A) (i : ℕ) where
    pub set_min : (x : A) → set l (min i (length l)) x ≡ set l i x
    set_min x = go (dec_le (length l) i)
      where
        go : Dec (length l ≤ i) → set l (min i (length l)) x ≡ set l i x
        go (yes c) = set_past l (min i (length l)) x (omega arith) ∙ sym (set_past l i x c)
        go (no c) = let same : min i (length l) ≡ i = omega arith in rw same

    pub next_min : next_in l (min i (length l)) ≡ min (i + 1) (length l)
    next_min = go (dec_le (length l) i)
      where
        go : Dec (length l ≤ i) → next_in l (min i (length l)) ≡ min (i + 1) (length l)
        go (yes c) = rw (le-ltb (min i (length l)) (length l) (omega arith)) (omega arith)
        go (no c) = rw (lt-ltb (min i (length l)) (length l) (omega arith)) (omega arith)

-- The search by halves in numbers that rise.
-- Assumes nothing.
use Prim.Native.Nat.{ℕ, zero, suc, ◌+◌, ◌≤◌, ◌<◌}
use mathlib.Core.List.{List, [], ◌∷◌}
use mathlib.Core.Bool.{Bool, true, false, ◌&&◌, ◌||◌}
use mathlib.Core.Path.{◌≡◌, refl}
use native.Mathlib.Omega.{arith}
use native.Mathlib.Decide.{dec_le}
use lib.ListN.{length, get_or}
use lib.Dec.{T, leb, eqb, leb→le}
use borrow.Author.Tests.{eq-eqb, ne_eqb}
use Rattle.rows.specs.Checks.{any, rising}
use Rattle.store.proofs.Tests.{both}

-- ---- a number among others, by their places
or-true : (b : Bool) → true ≡ b || true
or-true true = refl
or-true false = refl

pub among : (n : ℕ) (xs : List ℕ) (k : ℕ) → k < length xs → n ≡ get_or xs k 0 → true ≡ any (eqb n) xs
among n [] k h e = absurd (omega arith)
among n (x ∷ xs) zero h e = rw (eq-eqb n x e)
among n (x ∷ xs) (suc k) h e = rw (← among n xs k (omega arith) e) (or-true (eqb n x))

not-among : (n : ℕ) (xs : List ℕ) → ((k : ℕ) → k < length xs → n ≡ get_or xs k 0 → ⊥) → false ≡ any (eqb n) xs
not-among n [] never = refl
not-among n (x ∷ xs) never = rw (ne_eqb n x (never 0 (omega arith))) (not-among n xs (λ k h. never (suc k) (omega arith)))

-- ---- rising numbers are in order
rest : (lo hi x : ℕ) (xs : List ℕ) → T (rising lo hi (x ∷ xs)) → (lo ≤ x) × T (rising (x + 1) hi xs)
rest lo hi x xs r =
    let t = both (leb lo x && leb x hi) (rising (x + 1) hi xs) r in
    (leb→le lo x (both (leb lo x) (leb x hi) t.0).0, t.1)

least : (lo hi : ℕ) (xs : List ℕ) → T (rising lo hi xs) → (k : ℕ) → k < length xs → lo ≤ get_or xs k 0
least lo hi [] r k h = absurd (omega arith)
least lo hi (x ∷ xs) r zero h = (rest lo hi x xs r).0
least lo hi (x ∷ xs) r (suc k) h =
    let t = rest lo hi x xs r in
    let next = least (x + 1) hi xs t.1 k (omega arith) in
    omega arith

pub in_order : (lo hi : ℕ) (xs : List ℕ) → T (rising lo hi xs) → (j k : ℕ) → j < k → k < length xs → get_or xs j 0 < get_or xs k 0
in_order lo hi [] r j k below h = absurd (omega arith)
in_order lo hi (x ∷ xs) r j zero below h = absurd (omega arith)
in_order lo hi (x ∷ xs) r zero (suc k) below h =
    let next = least (x + 1) hi xs (rest lo hi x xs r).1 k (omega arith) in
    omega arith
in_order lo hi (x ∷ xs) r (suc j) (suc k) below h = in_order (x + 1) hi xs (rest lo hi x xs r).1 j k (omega arith) (omega arith)

-- ---- n may stand from low on and below high only
pub record Halved (n : ℕ) (xs : List ℕ) (low high : ℕ) : Type 0 where
  pub below : (k : ℕ) → k < low → get_or xs k 0 < n
  pub above : (k : ℕ) → high ≤ k → k < length xs → n < get_or xs k 0

pub whole : (n : ℕ) (xs : List ℕ) (high : ℕ) → length xs ≡ high → Halved n xs 0 high
whole n xs high e = record { below = λ k h. absurd (omega arith); above = λ k h l. absurd (omega arith) }

module _ {n : ℕ} {xs : List ℕ} {low high : ℕ} (halved : Halved n xs low high) where
  pub nowhere : high ≤ low → false ≡ any (eqb n) xs
  nowhere h = not-among n xs (λ k l e. go k l e (dec_le low k))
    where
      go : (k : ℕ) → k < length xs → n ≡ get_or xs k 0 → Dec (low ≤ k) → ⊥
      go k l e (yes p) = omega (arith, halved.above k (omega arith) l)
      go k l e (no p) = omega (arith, halved.below k (omega arith))

  module _ (lo hi : ℕ) (r : T (rising lo hi xs)) (mid : ℕ) (h : mid < length xs) where
    pub upper : get_or xs mid 0 < n → Halved n xs (mid + 1) high
    upper s = record { below = λ k l. go k l (dec_le mid k); above = halved.above }
      where
        go : (k : ℕ) → k < mid + 1 → Dec (mid ≤ k) → get_or xs k 0 < n
        go k l (yes p) = let same : k ≡ mid = omega arith in rw same s
        go k l (no p) = omega (arith, in_order lo hi xs r k mid (omega arith) h)

    pub lower : n < get_or xs mid 0 → Halved n xs low mid
    lower s = record { below = halved.below; above = λ k l m. go k l m (dec_le k mid) }
      where
        go : (k : ℕ) → mid ≤ k → k < length xs → Dec (k ≤ mid) → n < get_or xs k 0
        go k l m (yes p) = let same : k ≡ mid = omega arith in rw same s
        go k l m (no p) = omega (arith, in_order lo hi xs r mid k (omega arith) m)

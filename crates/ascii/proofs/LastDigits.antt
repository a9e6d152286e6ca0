-- The loops that count and store digits. `last_digits` are what the writer's loop has still to store.
-- Assumes nothing.
use Prim.Native.Nat.{ℕ, zero, suc, ◌+◌, ◌-◌, ◌/◌, ◌%◌, ◌*◌, ◌^◌, ◌≤◌, ◌<◌, max}
use mathlib.Core.List.{List, [], ◌∷◌, ◌++◌}
use mathlib.Core.Path.{◌≡◌, refl, sym}
use native.Mathlib.Omega.{arith}
use native.Mathlib.Nat.{pow-suc}
use lib.ListN.{length, set, length-append}
use Rattle.put.specs.Put.{put}
use Rattle.put.specs.Put as storing
use Rattle.put.proofs.Put.{put-append, put-set}
use Rattle.numbers.specs.Decimal.{digit, decimal}
use Rattle.numbers.proofs.Decimal.{decimal-one, decimal-more, of-decimal}

-- ---- one digit more than the power of ten below
digits-counted : (k n : ℕ) → 10 ^ k ≤ n → n < 10 * 10 ^ k → length (decimal n) ≡ k + 1
digits-counted zero n h g = rw (decimal-one n (omega arith))
digits-counted (suc k) n h g =
    let low : 10 ^ k * 10 ≤ n = rw pow-suc at h in
    let high : n < 10 * (10 ^ k * 10) = rw pow-suc at g in
    let some : 1 ≤ 10 ^ k = one-pow k in
    rw (decimal-more n (omega arith), length-append) (omega (arith, digits-counted k (n / 10) (omega arith) (omega arith)))
  where
    one-pow : (j : ℕ) → 1 ≤ 10 ^ j
    one-pow zero = omega arith
    one-pow (suc j) = rw pow-suc (omega (arith, one-pow j))

pub digits-of : (k n : ℕ) → 10 ^ k ≤ max n 1 → max n 1 < 10 * 10 ^ k → k + 1 ≡ length (decimal n)
digits-of k zero h g = sym (rw (decimal-one 0 (omega arith)) (rw (decimal-one 1 (omega arith)) at (digits-counted k 1 h g)))
digits-of k (suc n) h g = let same : max (suc n) 1 ≡ suc n = omega arith in sym (digits-counted k (suc n) (rw same at h) (rw same at g))

-- ---- the loop that stores digits, the last first
-- the last k digits of n, zeros where it has fewer
unfoldable pub last_digits : ℕ → ℕ → List ℕ
last_digits zero n = []
last_digits (suc k) n = last_digits k (n / 10) ++ (digit (n % 10) ∷ [])

pub length_last : (k n : ℕ) → length (last_digits k n) ≡ k
unfolding last_digits
length_last zero n = refl
length_last (suc k) n = rw length-append (omega (arith, length_last k (n / 10)))

pub all-last : (n : ℕ) → last_digits (length (decimal n)) n ≡ decimal n
unfolding last_digits
all-last = of-decimal (λ n ds. last_digits (length ds) n ≡ ds) (λ n h. let e : n % 10 ≡ n = omega arith in rw e) step
  where
    step : (n : ℕ) (ds : List ℕ) → 10 ≤ n → last_digits (length ds) (n / 10) ≡ ds → last_digits (length (ds ++ (digit (n % 10) ∷ []))) n ≡ ds ++ (digit (n % 10) ∷ [])
    step n ds h p = let e : length (ds ++ (digit (n % 10) ∷ [])) ≡ suc (length ds) = rw length-append (omega arith) in rw (e, p)

pub digit-turn : (l : List ℕ) (at i n : ℕ) → 0 < i → put (set l (at + (i - 1)) (digit (n % 10))) at (last_digits (i - 1) (n / 10)) ≡ put l at (last_digits i n)
unfolding last_digits storing.put
digit-turn l at zero n h = absurd (omega arith)
digit-turn l at (suc i) n h =
    let e : suc i - 1 ≡ i = omega arith in
    let long : length (last_digits i (n / 10)) ≡ i = length_last i (n / 10) in
    rw (e, put-set l at (last_digits i (n / 10)) (at + i) (digit (n % 10)) (omega arith), put-append, long)

-- The laws of the table of buckets, and how long an allowed sealed text is at most.
-- Assumes nothing.
use Prim.Native.Nat.{ℕ, ◌+◌, ◌-◌, ◌≤◌, ◌<◌}
use mathlib.Core.List.{List, [], ◌∷◌}
use mathlib.Core.Bool.{Bool, true, false, ◌&&◌, ◌||◌, true≢false}
use mathlib.Core.Path.{◌≡◌, refl, sym, ap, ap₂, ◌∙◌}
use native.Mathlib.Omega.{arith}
use lib.Dec.{leb, eqb}
use borrow.Author.Tests.{eq-eqb, ne_eqb, eqb-true, eqb-false, leb-true, le-leb}
use Rattle.rows.specs.Checks.{any, all, INNER_BUCKETS, sealed_queued, sealed_carried}

-- ---- a search of a list
module _ {A : Type 0} (p : A → Bool) where
  pub any_same : (q : A → Bool) (xs : List A) → ((x : A) → p x ≡ q x) → any p xs ≡ any q xs
  any_same q [] e = refl
  any_same q (x ∷ xs) e = ap₂ ◌||◌ (e x) (any_same q xs e)

  pub any_none : (xs : List A) → ((x : A) → p x ≡ false) → any p xs ≡ false
  any_none [] e = refl
  any_none (x ∷ xs) e = ap₂ ◌||◌ (e x) (any_none xs e)

-- ---- a bucket that the tag makes longer
module _ (n : ℕ) where
  with_tag : 16 ≤ n → (bucket : ℕ) → eqb n (bucket + 16) ≡ eqb (n - 16) bucket
  with_tag h bucket = go (eqb (n - 16) bucket) refl
    where
      go : (t : Bool) → eqb (n - 16) bucket ≡ t → eqb n (bucket + 16) ≡ t
      go true e = eq-eqb n (bucket + 16) (omega (arith, eqb-true (n - 16) bucket e))
      go false e = ne_eqb n (bucket + 16) (λ s. eqb-false (n - 16) bucket e (omega arith))

  without-tag : n < 16 → (bucket : ℕ) → eqb n (bucket + 16) ≡ false
  without-tag h bucket = ne_eqb n (bucket + 16) (λ s. omega arith)

  pub queued-short : n < 16 → sealed_queued n ≡ false
  queued-short h = any_none (λ bucket. eqb n (bucket + 16)) INNER_BUCKETS (without-tag h)

  pub queued-is : 16 ≤ n → sealed_queued n ≡ any (λ bucket. eqb (n - 16) bucket) INNER_BUCKETS
  queued-is h = any_same (λ bucket. eqb n (bucket + 16)) (λ bucket. eqb (n - 16) bucket) INNER_BUCKETS (with_tag h)

  abbrev carries : ℕ → Bool
  carries bucket = leb bucket 2048 && eqb n (bucket + 16)

  and-false : (t : Bool) → t && false ≡ false
  and-false true = refl
  and-false false = refl

  pub carried-short : n < 16 → sealed_carried n ≡ false
  carried-short h = any_none carries INNER_BUCKETS (λ bucket. ap (λ (t : Bool). leb bucket 2048 && t) (without-tag h bucket) ∙ and-false (leb bucket 2048))

  pub carried-long : 2048 < n - 16 → sealed_carried n ≡ false
  carried-long h = any_none carries INNER_BUCKETS (λ bucket. go bucket (leb bucket 2048) refl)
    where
      go : (bucket : ℕ) (t : Bool) → leb bucket 2048 ≡ t → t && eqb n (bucket + 16) ≡ false
      go bucket true e = ne_eqb n (bucket + 16) (λ s. omega (arith, leb-true bucket 2048 e))
      go bucket false e = refl

  pub carried-is : 16 ≤ n → n - 16 ≤ 2048 → sealed_carried n ≡ any (λ bucket. eqb (n - 16) bucket) INNER_BUCKETS
  carried-is h few = any_same carries (λ bucket. eqb (n - 16) bucket) INNER_BUCKETS (λ bucket. go bucket (eqb (n - 16) bucket) refl)
    where
      go : (bucket : ℕ) (t : Bool) → eqb (n - 16) bucket ≡ t → carries bucket ≡ t
      go bucket true e =
          let same = eqb-true (n - 16) bucket e in
          rw (le-leb bucket 2048 (omega arith)) (with_tag h bucket ∙ e)
      go bucket false e = ap (λ (t : Bool). leb bucket 2048 && t) (with_tag h bucket ∙ e) ∙ and-false (leb bucket 2048)

-- ---- the table's rule, computed over the whole table: no bucket is above 4,048
module _ (n : ℕ) where
  abbrev fills : ℕ → Bool
  fills bucket = eqb n (bucket + 16)

  found-short : (xs : List ℕ) → all (λ bucket. leb bucket 4048) xs ≡ true → any fills xs ≡ true → n ≤ 4064
  found-short [] few e = absurd (true≢false (sym e))
  found-short (x ∷ xs) few e = go (leb x 4048) (fills x) refl refl (found-short xs) few e
    where
      go : (s t : Bool) → leb x 4048 ≡ s → fills x ≡ t → (all (λ bucket. leb bucket 4048) xs ≡ true → any fills xs ≡ true → n ≤ 4064)
          → s && all (λ bucket. leb bucket 4048) xs ≡ true → t || any fills xs ≡ true → n ≤ 4064
      go true true p q later a b = omega (arith, leb-true x 4048 p, eqb-true n (x + 16) q)
      go true false p q later a b = later a b
      go false t p q later a b = absurd (true≢false (sym a))

  -- what a courier carries a queued row may hold too
  carried-found : (xs : List ℕ) → any (carries n) xs ≡ true → any fills xs ≡ true
  carried-found [] e = e
  carried-found (x ∷ xs) e = go (leb x 2048) (fills x) (carried-found xs) e
    where
      go : (s t : Bool) → (any (carries n) xs ≡ true → any fills xs ≡ true) → (s && t) || any (carries n) xs ≡ true → t || any fills xs ≡ true
      go s true later e = refl
      go true false later e = later e
      go false false later e = later e

  pub queued-few : sealed_queued n ≡ true → n ≤ 4064
  queued-few e = found-short INNER_BUCKETS refl e

  pub carried-few : sealed_carried n ≡ true → n ≤ 4064
  carried-few e = queued-few (carried-found INNER_BUCKETS e)

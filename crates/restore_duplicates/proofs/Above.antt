-- Entries each of which is above the one before it have no duplicates.
-- Assumes nothing.
use Rattle.std.proofs.Common.{◌≡◌, ℕ, zero, suc, ◌-◌, ◌<◌, ◌≤◌, Bool, true, false, cond, T, eqb, ltb, ◌⊎◌, List, refl, ◌∙◌, inl, inr, arith, eqb→eq, ltb→lt}
use native.Mathlib.Decide.{dec_le}
use lib.Dec.{eqb-suc-zero}
use Rattle.store.specs.declared.Entry.{Entry}
use Rattle.store.specs.Kinds.{kind_of}
use Rattle.store.specs.Store.{entry_at, any_below}
use Rattle.store.specs.Find.{is_wanted}
use Rattle.store.specs.Duplicates.{duplicate_of, asks_new, has_duplicate}
use Rattle.store.proofs.Tests.{truth, both, any_found}
use Rattle.restore_duplicates.specs.Above.{msgno_of, is_above, is_stop_at}
use Rattle.restore_duplicates.proofs.Keys.{duplicate-key}

-- ---- above, by the kind, the contact or slot, and the message
abbrev IdsLess : (b e : Entry) → Type 0
IdsLess b e = (b.id < e.id) ⊎ ((b.id ≡ e.id) × (msgno_of b < msgno_of e))

abbrev Less : (b e : Entry) → Type 0
Less b e = (b.kind < e.kind) ⊎ ((b.kind ≡ e.kind) × IdsLess b e)

above-less : (b e : Entry) → T (is_above b e) → Less b e
above-less b e t = kinds (ltb b.kind e.kind) (eqb b.kind e.kind) refl refl t
  where
    ids : (l s : Bool) → ltb b.id e.id ≡ l → eqb b.id e.id ≡ s → T (cond l true (cond s (ltb (msgno_of b) (msgno_of e)) false)) → IdsLess b e
    ids true s is-l is-s u = inl (ltb→lt b.id e.id (truth (ltb b.id e.id) is-l))
    ids false true is-l is-s u = inr (eqb→eq b.id e.id (truth (eqb b.id e.id) is-s), ltb→lt (msgno_of b) (msgno_of e) u)
    ids false false is-l is-s u = absurd u

    kinds : (l s : Bool) → ltb b.kind e.kind ≡ l → eqb b.kind e.kind ≡ s
        → T (cond l true (cond s (cond (ltb b.id e.id) true (cond (eqb b.id e.id) (ltb (msgno_of b) (msgno_of e)) false)) false)) → Less b e
    kinds true s is-l is-s u = inl (ltb→lt b.kind e.kind (truth (ltb b.kind e.kind) is-l))
    kinds false true is-l is-s u = inr (eqb→eq b.kind e.kind (truth (eqb b.kind e.kind) is-s), ids (ltb b.id e.id) (eqb b.id e.id) refl refl u)
    kinds false false is-l is-s u = absurd u

ids-trans : (a b c : Entry) → IdsLess a b → IdsLess b c → IdsLess a c
ids-trans a b c (inl x) (inl y) = inl (omega arith)
ids-trans a b c (inl x) (inr y) = inl (omega (arith, y.0))
ids-trans a b c (inr x) (inl y) = inl (omega (arith, x.0))
ids-trans a b c (inr x) (inr y) = inr (x.0 ∙ y.0, omega (arith, x.1, y.1))

less-trans : (a b c : Entry) → Less a b → Less b c → Less a c
less-trans a b c (inl x) (inl y) = inl (omega arith)
less-trans a b c (inl x) (inr y) = inl (omega (arith, y.0))
less-trans a b c (inr x) (inl y) = inl (omega (arith, x.0))
less-trans a b c (inr x) (inr y) = inr (x.0 ∙ y.0, ids-trans a b c x.1 y.1)

less_other : (b e : Entry) → Less b e → b.kind ≡ e.kind → b.id ≡ e.id → msgno_of b ≡ msgno_of e → ⊥
less_other b e (inl x) k i m = omega arith
less_other b e (inr (s, inl x)) k i m = omega arith
less_other b e (inr (s, inr (t, x))) k i m = omega arith

-- ---- each of the first n is above the one before it
module _ (es : List Entry) (n : ℕ) (rises : (m : ℕ) → m < n → T (is_stop_at es m) → ⊥) where
  one_less : (i : ℕ) → suc i < n → Less (entry_at es i) (entry_at es (suc i))
  one_less i l = above-less (entry_at es i) (entry_at es (suc i)) (go (is_above (entry_at es i) (entry_at es (suc i))) refl)
    where
      before : suc i - 1 ≡ i
      before = omega arith

      go : (t : Bool) → is_above (entry_at es i) (entry_at es (suc i)) ≡ t → T t
      go true is = tt
      go false is = absurd (rises (suc i) l (rw (before, eqb-suc-zero i, is) tt))

  all-less : (i j : ℕ) → j < i → i < n → Less (entry_at es j) (entry_at es i)
  all-less zero j b l = absurd (omega arith)
  all-less (suc i) j b l = go (dec_le i j) (λ c. all-less i j c (omega arith))
    where
      go : Dec (i ≤ j) → (j < i → Less (entry_at es j) (entry_at es i)) → Less (entry_at es j) (entry_at es (suc i))
      go (yes a) ih = let same : j ≡ i = omega arith in rw same (one_less i l)
      go (no a) ih = less-trans (entry_at es j) (entry_at es i) (entry_at es (suc i)) (ih (omega arith)) (one_less i l)

  pub none-twice : (i : ℕ) → i < n → T (has_duplicate es i) → ⊥
  none-twice i l t =
      let e = entry_at es i in
      let found = any_found i (λ j. is_wanted (duplicate_of e) (entry_at es j)) (both (asks_new (kind_of e.kind)) (any_below i (λ j. is_wanted (duplicate_of e) (entry_at es j))) t).1 in
      let key = duplicate-key e (entry_at es found.0) found.2 in
      less_other (entry_at es found.0) e (all-less i found.0 found.1 l) key.kind key.id key.msgno

-- "q at p" is answered exactly if it is the first no, of all entries and at one.
-- Assumes nothing.
use Prim.Native.Nat.{ℕ, zero, suc, ◌<◌}
use mathlib.Core.List.{List, [], ◌∷◌}
use mathlib.Core.Bool.{Bool, true, false, cond, not}
use mathlib.Core.Option.{some}
use mathlib.Core.Logic.{◌⊎◌, inl, inr, ◌↔◌}
use mathlib.Core.Path.{◌≡◌, refl, sym, ap, ◌∙◌}
use native.Mathlib.Omega.{arith}
use lib.ListN.{length}
use lib.Dec.{eqb, T, eqb-suc-zero}
use Rattle.layout.specs.Questions.{ORDER}
use Rattle.store.specs.Rounds.{Asked, Going, Refused, Question, first_no, Round, rounds, FirstIn, First}
use Rattle.store.specs.Store.{Store, all_rounds, asked}
use Rattle.store.specs.Accepted.{NoEntries, FirstNo}
use Rattle.store.proofs.Rounds.{some≢none, refused-first, first-refused, rounds-refused}

module _ (rs : List Round) (q p : ℕ) where
  abbrev start : ℕ → Asked
  start n = cond (eqb n 0) (Refused ORDER 0) Going

  abbrev Stated : ℕ → Type 0
  Stated n = NoEntries n q p ⊎ ((0 < n) × First rs n q p)

  answered : (n : ℕ) → rounds rs n (start n) ≡ Refused q p → Stated n
  answered zero e = let x : Refused ORDER 0 ≡ Refused q p = sym (rounds-refused rs 0 ORDER 0) ∙ e in inl (record { none = refl; number = cc; place = cc })
  answered (suc n) e = inr (omega arith, refused-first rs (suc n) q p (rw (eqb-suc-zero n) at e))

  answers : (n : ℕ) → Stated n → rounds rs n (start n) ≡ Refused q p
  answers zero (inl h) = rw (h.number, h.place) (rounds-refused rs 0 ORDER 0)
  answers zero (inr h) = absurd (omega (arith, h.0))
  answers (suc n) (inl h) = absurd (omega (arith, h.none))
  answers (suc n) (inr h) = rw (eqb-suc-zero n) (first-refused rs (suc n) q p h.1)

pub refused-exactly : (s : Store) (q p : ℕ) → asked s ≡ Refused q p ↔ FirstNo s q p
refused-exactly s q p = (answered (all_rounds s) q p (length s.entries), answers (all_rounds s) q p (length s.entries))

-- ---- of one entry
pub first-in : (qs : List Question) (n : ℕ) → first_no qs ≡ some n ↔ FirstIn qs n
first-in [] n = ((λ e. some≢none (sym e)), (λ h. absurd h))
first-in (q ∷ qs) n = go q.yes (first-in qs n)
  where
    go : (t : Bool) → (first_no qs ≡ some n ↔ FirstIn qs n) → (cond t (first_no qs) (some q.number) ≡ some n) ↔ ((T (not t) × (q.number ≡ n)) ⊎ (T t × FirstIn qs n))
    go true ih = ((λ e. inr (tt, ih.0 e)), (λ h. back h))
      where
        back : ((⊥ × (q.number ≡ n)) ⊎ (Unit {0} × FirstIn qs n)) → first_no qs ≡ some n
        back (inl h) = absurd h.0
        back (inr h) = ih.1 h.1
    go false ih = ((λ e. inl (tt, cc)), (λ h. back h))
      where
        back : ((Unit {0} × (q.number ≡ n)) ⊎ (⊥ × FirstIn qs n)) → some q.number ≡ some n
        back (inl h) = ap some h.1
        back (inr h) = absurd h.0

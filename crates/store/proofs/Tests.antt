-- Tests and what they say: of two at once, of the first no, of searches.
-- Assumes nothing.
use Prim.Native.Nat.{ℕ, zero, suc, ◌≤◌, ◌<◌}
use mathlib.Core.List.{List, [], ◌∷◌}
use mathlib.Core.Bool.{Bool, true, false, cond, ◌&&◌, ◌||◌, not}
use mathlib.Core.Option.{none, some}
use mathlib.Core.Path.{◌≡◌, refl, sym, ap, ◌∙◌, subst}
use native.Mathlib.Omega.{arith}
use native.Mathlib.Decide.{dec_le}
use lib.Dec.{eqb, T, eqb→eq, eqb_refl, not_T, T_not}
use Rattle.rows.specs.Checks.{any}
use Rattle.store.specs.declared.Entry.{Entry}
use Rattle.store.specs.Rounds.{Question, first_no}
use Rattle.store.specs.Store.{is_of, any_below}
use Rattle.store.specs.Accepted.{NotIn}
use Rattle.store.proofs.Rounds.{some≢none}

-- ---- truth
pub truth : (t : Bool) → t ≡ true → T t
truth t e = subst (λ (b : Bool). T b) (sym e) tt

pub holds : (t : Bool) → T t → t ≡ true
holds true h = refl
holds false h = absurd h

pub false-not : (t : Bool) → t ≡ false → T (not t)
false-not t e = subst (λ (b : Bool). T (not b)) (sym e) tt

pub not-false : (t : Bool) → T (not t) → t ≡ false
not-false true h = absurd h
not-false false h = refl

pub both : (a b : Bool) → T (a && b) → T a × T b
both true true h = (tt, tt)
both true false h = absurd h
both false b h = absurd h

pub pair : (a b : Bool) → T a → T b → T (a && b)
pair true true g h = tt
pair true false g h = absurd h
pair false b g h = absurd g

pub same : (a b : Bool) → (T a → T b) → (T b → T a) → a ≡ b
same true true f g = refl
same true false f g = absurd (f tt)
same false true f g = absurd (g tt)
same false false f g = refl

-- ---- the first no is none exactly if all are yes
abbrev pub AllYes : List Question → Type 0
AllYes [] = Unit {0}
AllYes (q ∷ qs) = T q.yes × AllYes qs

pub all_yes : (qs : List Question) → first_no qs ≡ none → AllYes qs
all_yes [] e = tt
all_yes (q ∷ qs) e = go q.yes e (all_yes qs)
  where
    go : (t : Bool) → cond t (first_no qs) (some q.number) ≡ none → (first_no qs ≡ none → AllYes qs) → T t × AllYes qs
    go true e₁ ih = (tt, ih e₁)
    go false e₁ ih = absurd (some≢none e₁)

pub yes-all : (qs : List Question) → AllYes qs → first_no qs ≡ none
yes-all [] h = refl
yes-all (q ∷ qs) h = rw (holds q.yes h.0) (yes-all qs h.1)

-- ---- searches
pub any_found : (i : ℕ) (p : ℕ → Bool) → T (any_below i p) → (j : ℕ) × (j < i) × T (p j)
any_found zero p h = absurd h
any_found (suc i) p h = go (p i) refl h (any_found i p)
  where
    go : (t : Bool) → p i ≡ t → T (t || any_below i p) → (T (any_below i p) → (j : ℕ) × (j < i) × T (p j)) → (j : ℕ) × (j < suc i) × T (p j)
    go true e g ih = (i, omega arith, truth (p i) e)
    go false e g ih = let r = ih g in (r.0, omega (arith, r.1), r.2)

pub found-any : (i : ℕ) (p : ℕ → Bool) (j : ℕ) → j < i → T (p j) → T (any_below i p)
found-any zero p j b h = absurd (omega arith)
found-any (suc i) p j b h = go (p i) refl (dec_le i j) (found-any i p j)
  where
    go : (t : Bool) → p i ≡ t → Dec (i ≤ j) → (j < i → T (p j) → T (any_below i p)) → T (t || any_below i p)
    go true e d ih = tt
    go false e (yes a) ih = let same : j ≡ i = omega arith in absurd (rw (same, e) at h)
    go false e (no a) ih = ih (omega arith) h

pub never : (i : ℕ) (p : ℕ → Bool) → T (not (any_below i p)) → (j : ℕ) → j < i → T (p j) → ⊥
never i p h j b g = T_not (any_below i p) h (found-any i p j b g)

pub nowhere : (i : ℕ) (p : ℕ → Bool) → ((j : ℕ) → j < i → T (p j) → ⊥) → T (not (any_below i p))
nowhere i p h = not_T (any_below i p) (λ g. let r = any_found i p g in h r.0 r.1 r.2)

pub not_in : (n : ℕ) (xs : List ℕ) → T (not (any (eqb n) xs)) → NotIn n xs
not_in n [] h = tt
not_in n (x ∷ xs) h = go (eqb n x) refl h (not_in n xs)
  where
    go : (t : Bool) → eqb n x ≡ t → T (not (t || any (eqb n) xs)) → (T (not (any (eqb n) xs)) → NotIn n xs) → (n ≡ x → ⊥) × NotIn n xs
    go true e g ih = absurd g
    go false e g ih = ((λ s. subst (λ (b : Bool). T b) (ap (λ (y : ℕ). eqb n y) s ∙ e) (eqb_refl n)), ih g)

pub in-not : (n : ℕ) (xs : List ℕ) → NotIn n xs → T (not (any (eqb n) xs))
in-not n [] h = tt
in-not n (x ∷ xs) h = go (eqb n x) refl (in-not n xs h.1)
  where
    go : (t : Bool) → eqb n x ≡ t → T (not (any (eqb n) xs)) → T (not (t || any (eqb n) xs))
    go true e g = absurd (h.0 (eqb→eq n x (truth (eqb n x) e)))
    go false e g = g

-- ---- entries of a kind and a contact or slot
pub eq→eqb : (m n : ℕ) → m ≡ n → T (eqb m n)
eq→eqb m n e = subst (λ (x : ℕ). T (eqb m x)) e (eqb_refl m)

pub is-of : (k id : ℕ) (e : Entry) → T (is_of k id e) → (e.kind ≡ k) × (e.id ≡ id)
is-of k id e h = let b = both (eqb e.kind k) (eqb e.id id) h in (eqb→eq e.kind k b.0, eqb→eq e.id id b.1)

pub of_is : (k id : ℕ) (e : Entry) → e.kind ≡ k → e.id ≡ id → T (is_of k id e)
of_is k id e g h = pair (eqb e.kind k) (eqb e.id id) (eq→eqb e.kind k g) (eq→eqb e.id id h)

-- Keys from the last on: those behind one of them, and a filter that has these.
-- Assumes nothing.
use Prim.Native.Nat.{ℕ, zero, suc, ◌+◌, ◌-◌, ◌≤◌, ◌<◌}
use mathlib.Core.List.{List, [], ◌∷◌, map}
use mathlib.Core.Bool.{Bool, true, false, not, ◌&&◌, ◌||◌}
use mathlib.Core.Path.{◌≡◌, refl, sym, ap, subst, ◌∙◌}
use native.Mathlib.Omega.{arith}
use lib.ListN.{length, get_or, drop}
use lib.Dec.{T, eqb}
use borrow.Author.Tests.{eqb-true}
use Rattle.rows.specs.Checks.{any, distinct}
use Rattle.filter.specs.Filter.{mixed, is_set, added}
use Rattle.filter.proofs.Filter.{set-added, stays-set}
use Rattle.contact_checks.specs.Cells.{key_number}
use Rattle.contact_checks.proofs.Keys.{one-before}

-- ---- where those behind one are not distinct, all are not
distinct-on : (k : ℕ) (xs : List ℕ) → distinct eqb (drop k xs) ≡ false → distinct eqb xs ≡ false
distinct-on zero xs e = e
distinct-on (suc k) [] e = e
distinct-on (suc k) (x ∷ xs) e = rw (distinct-on k xs e) (go (any (eqb x) xs))
  where
    go : (b : Bool) → (not b && false) ≡ false
    go true = refl
    go false = refl

-- ---- a filter that has these numbers
abbrev pub Has : (bits : List ℕ) → List ℕ → Type 0
Has bits [] = Unit {0}
Has bits (n ∷ ns) = T (is_set bits (mixed n)) × Has bits ns

stays : (bits : List ℕ) (h : ℕ) (ns : List ℕ) → Has bits ns → Has (added bits h) ns
stays bits h [] has = tt
stays bits h (n ∷ ns) has = (stays-set bits h (mixed n) has.0, stays bits h ns has.1)

has_more : (bits : List ℕ) (x : ℕ) (ns : List ℕ) → Has bits ns → Has (added bits (mixed x)) (x ∷ ns)
has_more bits x ns has = (set-added bits (mixed x), stays bits (mixed x) ns has)

-- one that is clear is none of them
pub is-new : (bits : List ℕ) (x : ℕ) (ns : List ℕ) → is_set bits (mixed x) ≡ false → Has bits ns → any (eqb x) ns ≡ false
is-new bits x [] clear has = refl
is-new bits x (n ∷ ns) clear has = go (eqb x n) refl (is-new bits x ns clear has.1)
  where
    go : (t : Bool) → eqb x n ≡ t → any (eqb x) ns ≡ false → (t || any (eqb x) ns) ≡ false
    go true e none = absurd (subst T (ap (λ (m : ℕ). is_set bits (mixed m)) (sym (eqb-true x n e)) ∙ clear) has.0)
    go false e none = none

-- ---- the last but `left` of the keys, whose number is x
module _ (keys : List (List ℕ)) (left x : ℕ) (some : 0 < left) (few : left ≤ length keys) (is : x ≡ key_number (get_or keys (left - 1) [])) where
  abbrev behind : List ℕ
  behind = drop left (map key_number keys)

  here : drop (left - 1) (map key_number keys) ≡ x ∷ behind
  here = let next : left - 1 + 1 ≡ left = omega arith in rw is (rw next at (one-before keys (left - 1) (omega arith)))

  -- it comes again
  pub not-distinct : any (eqb x) behind ≡ true → distinct eqb (map key_number keys) ≡ false
  not-distinct again = distinct-on (left - 1) (map key_number keys) (rw (here, again))

  -- it is new
  pub goes_on : (bits : List ℕ) → any (eqb x) behind ≡ false → distinct eqb behind ≡ true → Has bits behind
      → (distinct eqb (drop (left - 1) (map key_number keys)) ≡ true) × Has (added bits (mixed x)) (drop (left - 1) (map key_number keys))
  goes_on bits new apart has = rw here (rw (new, apart), has_more bits x behind has)

-- Ranges in another order, by the library's `Perm`: each stands in both lists as often.
-- Assumes nothing.
use Prim.Native.Nat.{suc}
use mathlib.Core.List.{List, [], ◌∷◌, Perm, count, perm_iff_count}
use mathlib.Core.Bool.{true, false, cond, true≢false}
use mathlib.Core.Logic.{◌↔◌, if_pos, if_neg}
use mathlib.Core.Path.{◌≡◌, refl, sym, ap, ◌∙◌}
use native.Mathlib.Bridge.{to_ℕ, from_ℕ, to_ℕ-from_ℕ}
use lib.Dec.{eqb}
use borrow.Author.Tests.{eq-eqb, eqb-true}
use Rattle.rows.specs.Values.{Range}
use Rattle.rows.proofs.Tests.{either, and_both, both-and}
use Rattle.ledger.specs.Orders.{same_range, how_often}

-- ---- ranges are the same, or not
same-is : (s r : Range) → same_range s r ≡ true → s ≡ r
same-is s r e =
    let both = and_both (eqb s.from r.from) (eqb s.to r.to) e in
    λ i. record { from = eqb-true s.from r.from both.0 i; to = eqb-true s.to r.to both.1 i }

is_same : (s r : Range) → s ≡ r → same_range s r ≡ true
is_same s r e =
    both-and (eqb s.from r.from) (eqb s.to r.to)
    (eq-eqb s.from r.from (ap (λ (x : Range). x.from) e)) (eq-eqb s.to r.to (ap (λ (x : Range). x.to) e))

is-other : (s r : Range) → same_range s r ≡ false → s ≡ r → ⊥
is-other s r e p = true≢false (sym (is_same s r p) ∙ e)

dec : (s r : Range) → Dec (s ≡ r)
dec s r = either (same_range s r) (λ _. Dec (s ≡ r)) (λ e. yes (same-is s r e)) (λ e. no (is-other s r e))

-- ---- the library counts as we do, in numbers of its own
counts : (r : Range) (rs : List Range) → from_ℕ (count dec r rs) ≡ how_often r rs
counts r [] = refl
counts r (s ∷ rs) =
    either (same_range s r) (λ b. from_ℕ (count dec r (s ∷ rs)) ≡ cond b (suc (how_often r rs)) (how_often r rs))
    (λ e. ap from_ℕ (if_pos (dec s r) (same-is s r e) _ _) ∙ ap suc (counts r rs))
    (λ e. ap from_ℕ (if_neg (dec s r) (is-other s r e) _ _) ∙ counts r rs)

pub as-often : (rs ss : List Range) → Perm rs ss ↔ ((r : Range) → how_often r rs ≡ how_often r ss)
as-often rs ss = (
  λ p r. sym (counts r rs) ∙ ap from_ℕ ((perm_iff_count dec).0 p r) ∙ counts r ss,
  λ h. (perm_iff_count dec).1 (λ r. sym (to_ℕ-from_ℕ (count dec r rs)) ∙ ap to_ℕ (counts r rs ∙ h r ∙ sym (counts r ss)) ∙ to_ℕ-from_ℕ (count dec r ss)),
)

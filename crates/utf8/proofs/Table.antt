-- The table of first bytes is RFC 3629's: an equation that the checker computes over the whole table, and what it says of each entry.
-- Assumes nothing.
use Prim.Native.Nat.{ℕ, zero, suc, ◌≤◌, ◌<◌}
use mathlib.Core.List.{List, [], ◌∷◌, map}
use mathlib.Core.Bool.{Bool, true, false, cond}
use mathlib.Core.Option.{Option, none, some}
use mathlib.Core.Path.{◌≡◌, refl, sym, ap, ◌∙◌}
use native.Mathlib.Nat.{not-suc-le-zero, le_of_suc-le-suc}
use lib.ListN.{get_or, get_or-map}
use borrow.Author.Rules.{rules}
use Rattle.rows.specs.Utf8.{Limits, is_in, Shape, shapes, choose, following}
use Rattle.rows.specs.Utf8 as utf
use Rattle.utf8.specs.declared.Lead.{Lead}
use Rattle.utf8.specs.Lead.{lead, lead_of, limits_of, unpacked, leads, TableLaws}
use Rattle.utf8.specs.Lead as table

-- ---- every entry
-- the first n answers of a rule
abbrev answers : {A : Type 0} → ℕ → (ℕ → A) → List A
answers zero f = []
answers (suc n) f = f 0 ∷ answers n (λ k. f (suc k))

answer : {A : Type 0} (n : ℕ) (f : ℕ → A) (k : ℕ) (d : A) → k < n → get_or (answers n f) k d ≡ f k
answer zero f k d h = absurd (not-suc-le-zero h)
answer (suc n) f zero d h = refl
answer (suc n) f (suc k) d h = answer n (λ j. f (suc j)) k d (le_of_suc-le-suc h)

computed : map unpacked leads ≡ answers 256 (λ b. lead_of (following b))
unfolding table.leads utf.following
computed = refl

every-entry : (b : ℕ) → b < 256 → unpacked (get_or leads b 0) ≡ lead_of (following b)
every-entry b h =
    sym (get_or-map unpacked leads b 0)
    ∙ ap (λ (ls : List Lead). get_or ls b (lead 0 0 0)) computed
    ∙ answer 256 (λ k. lead_of (following k)) b (lead 0 0 0) h

-- ---- what holds of each alternative of the grammar, and of none, holds of the one chosen
abbrev Each : (Option (List Limits) → Type 0) → List Shape → Type 0
Each P [] = P none
Each P (s ∷ ss) = P (some s.more) × Each P ss

either : (P : Option (List Limits) → Type 0) (t : Bool) {a b : Option (List Limits)} → P a → P b → P (cond t a b)
either P true p q = p
either P false p q = q

chosen : (P : Option (List Limits) → Type 0) (ss : List Shape) → Each P ss → (b : ℕ) → P (choose ss b)
chosen P [] p b = p
chosen P (s ∷ ss) p b = either P (is_in s.first b) p.0 (chosen P ss p.1 b)

enough : (b : ℕ) → limits_of (lead_of (following b)) ≡ following b
unfolding utf.following
enough b = chosen (λ o. limits_of (lead_of o) ≡ o) shapes (search depth 11) b

pub longest : (b : ℕ) → (lead_of (following b)).len ≤ 4
unfolding utf.following
longest b = chosen (λ o. (lead_of o).len ≤ 4) shapes (search rules) b

pub table-laws : TableLaws
table-laws = record { every-entry = every-entry; enough = enough }

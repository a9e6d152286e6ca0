-- The text of an answer by its tag.
-- Assumes nothing.
use Prim.Native.Nat.{ℕ, ◌-◌}
use mathlib.Core.List.{List, ◌∷◌, ◌++◌}
use mathlib.Core.Path.{◌≡◌, sym, ap, ◌∙◌}
use lib.ListN.{take}
use borrow.Author.Tests.{eq-eqb, ne_eqb}
use Rattle.numbers.specs.Decimal.{decimal}
use Rattle.ascii.specs.Words.{SPACE}
use Rattle.ascii.specs.Hex.{hex_of}
use Rattle.calls_code.specs.Encoding.{YES, ADVANCED, TRUTH, NUMBER, WROTE, SAID, NO}
use Rattle.replay_answer.specs.Transcript.{false_text, true_text, truth_text, added_text, place_text, answer_text}

-- ---- a truth as a number
pub is_false : (a : ℕ) → a ≡ 0 → false_text ≡ truth_text a
is_false a z = rw (eq-eqb a 0 z)

pub is_true : (a : ℕ) → (a ≡ 0 → ⊥) → true_text ≡ truth_text a
is_true a z = rw (ne_eqb a 0 z)

-- ... and how many numbers are new
pub with-added : {text : List ℕ} (a n : ℕ) → text ≡ truth_text a → text ++ (SPACE ∷ decimal n) ≡ added_text a n
with-added a n e = ap (λ (t : List ℕ). t ++ (SPACE ∷ decimal n)) e

-- ---- by the tag
module _ (a b : ℕ) (out : List ℕ) {tag : ℕ} where
  pub of-tag : {k : ℕ} → tag ≡ k → answer_text k a b out ≡ answer_text tag a b out
  of-tag e = ap (λ (t : ℕ). answer_text t a b out) (sym e)

  pub is_row : {row : List ℕ} → tag ≡ WROTE → row ≡ take a out → hex_of row ≡ answer_text tag a b out
  unfolding answer_text
  is_row e r = ap hex_of r ∙ of-tag e

  pub is_said : {n : ℕ} {text : List ℕ} → tag ≡ SAID → n ≡ a - 1 → text ≡ take n out → text ≡ answer_text tag a b out
  unfolding answer_text
  is_said e p q = q ∙ ap (λ (k : ℕ). take k out) p ∙ of-tag e

  pub is-other : (tag ≡ YES → ⊥) → (tag ≡ ADVANCED → ⊥) → (tag ≡ TRUTH → ⊥) → (tag ≡ NUMBER → ⊥) → (tag ≡ WROTE → ⊥) → (tag ≡ SAID → ⊥) → (tag ≡ NO → ⊥)
      → place_text a b ≡ answer_text tag a b out
  unfolding answer_text
  is-other y m t n w s r =
      rw (ne_eqb tag YES y, ne_eqb tag ADVANCED m, ne_eqb tag TRUTH t, ne_eqb tag NUMBER n, ne_eqb tag WROTE w, ne_eqb tag SAID s, ne_eqb tag NO r)

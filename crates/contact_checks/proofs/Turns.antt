-- What a turn of each loop does. xs is what is left of a list, and b what the whole answers.
-- Assumes nothing.
use Prim.Native.Nat.{ℕ, suc, ◌+◌, ◌≤◌, ◌<◌}
use mathlib.Core.List.{List, [], ◌∷◌}
use mathlib.Core.Bool.{Bool, true, false, cond, not, ◌&&◌}
use mathlib.Core.Path.{◌≡◌, refl, sym, ◌∙◌}
use native.Mathlib.Omega.{arith}
use lib.ListN.{get_or, set}
use borrow.Author.Tests.{le-leb, lt-leb}
use Rattle.rows.specs.Values.{Range}
use Rattle.rows.specs.Checks.{count, rising, canonical, none_above}
use Rattle.contact_checks.specs.Cells.{ascending, one_current}
use Rattle.contact_checks.proofs.Distinct.{fresh}

-- ---- 22
pub record Rises (lo hi : ℕ) (xs : List ℕ) (b : Bool) : Type 0 where
  pub so : rising lo hi xs ≡ b

module _ {lo hi n : ℕ} {xs ys : List ℕ} {b : Bool} (left : Rises lo hi xs b) (here : xs ≡ n ∷ ys) where
  pub rising-low : n < lo → false ≡ b
  rising-low p = sym (rw (here, lt-leb lo n p)) ∙ left.so

  pub rising-high : lo ≤ n → hi < n → false ≡ b
  rising-high p q = sym (rw (here, le-leb lo n p, lt-leb n hi q)) ∙ left.so

  pub rising-on : lo ≤ n → n ≤ hi → Rises (n + 1) hi ys b
  rising-on p q = record { so = sym (rw (here, le-leb lo n p, le-leb n hi q)) ∙ left.so }

pub rising-end : {lo hi : ℕ} {xs : List ℕ} {b : Bool} → Rises lo hi xs b → xs ≡ [] → true ≡ b
rising-end left none = sym (rw none) ∙ left.so

-- ---- 23 and 24
pub record Ordered (lo hi : ℕ) (rs : List Range) (b : Bool) : Type 0 where
  pub so : canonical lo rs && none_above hi rs ≡ b

module _ {lo hi : ℕ} {r : Range} {rs ss : List Range} {b : Bool} (left : Ordered lo hi rs b) (here : rs ≡ r ∷ ss) where
  pub ordered-turned : r.to < r.from → false ≡ b
  ordered-turned p = sym (rw (here, lt-leb r.from r.to p)) ∙ left.so

  module _ (p : r.from ≤ r.to) where
    pub ordered-low : r.from < lo → false ≡ b
    ordered-low q = sym (rw (here, le-leb r.from r.to p, lt-leb lo r.from q)) ∙ left.so

    module _ (q : lo ≤ r.from) where
      pub ordered-high : hi < r.to → false ≡ b
      ordered-high h = sym (rw (here, le-leb r.from r.to p, le-leb lo r.from q, lt-leb r.to hi h) (no (canonical (r.to + 2) ss))) ∙ left.so
        where
          no : (a : Bool) → a && false ≡ false
          no true = refl
          no false = refl

      pub ordered-on : r.to ≤ hi → Ordered (r.to + 2) hi ss b
      ordered-on h = record { so = sym (rw (here, le-leb r.from r.to p, le-leb lo r.from q, le-leb r.to hi h)) ∙ left.so }

pub ordered_end : {lo hi : ℕ} {rs : List Range} {b : Bool} → Ordered lo hi rs b → rs ≡ [] → true ≡ b
ordered_end left none = sym (rw none) ∙ left.so

-- ---- 19: rising numbers
pub record Ascends (lo : ℕ) (xs : List ℕ) (b : Bool) : Type 0 where
  pub so : ascending lo xs ≡ b

module _ {lo n : ℕ} {xs ys : List ℕ} {b : Bool} (left : Ascends lo xs b) (here : xs ≡ n ∷ ys) where
  pub ascends-low : n < lo → false ≡ b
  ascends-low p = sym (rw (here, lt-leb lo n p)) ∙ left.so

  pub ascends-on : lo ≤ n → Ascends (n + 1) ys b
  ascends-on p = record { so = sym (rw (here, le-leb lo n p)) ∙ left.so }

pub ascends-end : {lo : ℕ} {xs : List ℕ} {b : Bool} → Ascends lo xs b → xs ≡ [] → true ≡ b
ascends-end left none = sym (rw none) ∙ left.so

-- ---- 17: k is 1 for a chain that is not superseded
pub record Currents (found : ℕ) (ss : List Bool) (b : Bool) : Type 0 where
  pub so : one_current found ss ≡ b

module _ {found k : ℕ} {s : Bool} {ss ts : List Bool} {b : Bool} (left : Currents found ss b) (here : ss ≡ s ∷ ts) (is : k ≡ cond s 0 1) where
  pub currents-on : Currents (found + k) ts b
  currents-on = record { so = sym (rw (here, is) (go s)) ∙ left.so }
    where
      go : (t : Bool) → one_current found (t ∷ ts) ≡ one_current (found + cond t 0 1) ts
      go true = let e : found + count not ts ≡ found + 0 + count not ts = omega arith in rw e
      go false = let e : found + suc (count not ts) ≡ found + 1 + count not ts = omega arith in rw e

  pub currents-two : 1 < found + k → false ≡ b
  currents-two h = sym (lt-leb (found + k + count not ts) 1 (omega arith)) ∙ currents-on.so

pub currents-end : {found : ℕ} {ss : List Bool} {b : Bool} → Currents found ss b → found ≤ 1 → ss ≡ [] → true ≡ b
currents-end {found} left h none = sym (rw none (le-leb (found + 0) 1 (omega arith))) ∙ left.so

-- ---- 18: a table of what was seen
pub record Unseen (seen : List Bool) (xs : List ℕ) (b : Bool) : Type 0 where
  pub so : fresh seen xs ≡ b

module _ {seen : List Bool} {n : ℕ} {xs ys : List ℕ} {b : Bool} (left : Unseen seen xs b) (here : xs ≡ n ∷ ys) where
  pub unseen-again : get_or seen n false ≡ true → false ≡ b
  unseen-again p = sym (rw (here, p)) ∙ left.so

  pub unseen-on : get_or seen n false ≡ false → Unseen (set seen n true) ys b
  unseen-on p = record { so = sym (rw (here, p)) ∙ left.so }

pub unseen-end : {seen : List Bool} {xs : List ℕ} {b : Bool} → Unseen seen xs b → xs ≡ [] → true ≡ b
unseen-end left none = sym (rw none) ∙ left.so

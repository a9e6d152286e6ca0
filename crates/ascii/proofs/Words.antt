-- Words, a byte at a time, for the loops of the readers.
-- Assumes nothing.
use Prim.Native.Nat.{ℕ, zero, suc, ◌+◌, ◌-◌, ◌≤◌, ◌<◌}
use mathlib.Core.List.{List, [], ◌∷◌}
use mathlib.Core.Bool.{Bool, true, false, cond}
use mathlib.Core.Path.{◌≡◌, refl, sym, ap, ◌∙◌}
use native.Mathlib.Omega.{arith}
use native.Mathlib.Numerals.{add-one}
use lib.ListN.{length, get_or, take, drop, length-drop, drop_of_length-le}
use lib.Seq.{drop-drop, take_all, take-nil}
use Rattle.std.specs.List.{filter}
use lib.Dec.{eqb}
use borrow.Author.Tests.{eq-eqb, ne_eqb}
use Rattle.ascii.specs.Words as words
use Rattle.ascii.specs.Words.{before, behind, in_front, parted}
use Rattle.ascii.proofs.Parts.{Some, some-part, some-parts}

-- ---- before and behind a byte
module _ (stop : ℕ) where
  take-before : (text : List ℕ) → take (length (before stop text)) text ≡ before stop text
  unfolding words.before
  take-before [] = refl
  take-before (b ∷ bs) = go (take-before bs) (eqb b stop)
    where
      go : take (length (before stop bs)) bs ≡ before stop bs → (t : Bool) → take (length (cond t [] (b ∷ before stop bs))) (b ∷ bs) ≡ cond t [] (b ∷ before stop bs)
      go e true = refl
      go e false = ap (λ (l : List ℕ). b ∷ l) e

  drop-behind : (text : List ℕ) → drop (suc (length (before stop text))) text ≡ behind stop text
  unfolding words.before words.behind
  drop-behind [] = refl
  drop-behind (b ∷ bs) = go (drop-behind bs) (eqb b stop)
    where
      go : drop (suc (length (before stop bs))) bs ≡ behind stop bs → (t : Bool) → drop (suc (length (cond t [] (b ∷ before stop bs)))) (b ∷ bs) ≡ cond t bs (behind stop bs)
      go e true = refl
      go e false = e

  pub before-short : (text : List ℕ) → length (before stop text) ≤ length text
  unfolding words.before
  before-short [] = omega arith
  before-short (b ∷ bs) = go (before-short bs) (eqb b stop)
    where
      go : length (before stop bs) ≤ length bs → (t : Bool) → length (cond t [] (b ∷ before stop bs)) ≤ suc (length bs)
      go h true = omega arith
      go h false = omega arith

  -- ---- the next byte
  pub none_before : length (before stop []) ≡ 0
  unfolding words.before
  none_before = refl

  pub stops : (b : ℕ) (bs : List ℕ) → b ≡ stop → length (before stop (b ∷ bs)) ≡ 0
  unfolding words.before
  stops b bs e = rw (eq-eqb b stop e)

  pub goes_on : (b : ℕ) (bs : List ℕ) → (b ≡ stop → ⊥) → length (before stop (b ∷ bs)) ≡ length (before stop bs) + 1
  unfolding words.before
  goes_on b bs e = rw (ne_eqb b stop e, add-one)

-- ---- a part of a line
module _ (stop : ℕ) (text : List ℕ) {n : ℕ} (e : n ≡ length (before stop text)) where
  pub first_field : take n text ≡ before stop text
  first_field = rw e (take-before stop text)

  other-fields : take (length text - (n + 1)) (drop (n + 1) text) ≡ behind stop text
  other-fields =
      rw (take_all (length text - (n + 1)) (drop (n + 1) text) (simp length-drop (omega arith)), add-one, e) (drop-behind stop text)

  no_fields : length text ≤ n → take (length text - n) (drop n text) ≡ behind stop text
  no_fields h =
      let all : drop n text ≡ [] = drop_of_length-le text {i = n} h in
      let past : drop (suc n) text ≡ [] = drop_of_length-le text {i = suc n} (omega arith) in
      rw (all, take-nil) (sym past ∙ rw e (drop-behind stop text))

-- ---- how many words
front_length : (b : ℕ) (ps : List (List ℕ)) → length (in_front b ps) ≡ length ps
front_length b [] = refl
front_length b (p ∷ ps) = refl

pub words-counted : (m : ℕ) (t : List ℕ) → suc (length (filter (λ b. eqb b m) t)) ≡ length (parted m t)
unfolding words.parted
words-counted m [] = refl
words-counted m (b ∷ bs) = go (eqb b m) (words-counted m bs)
  where
    go : (s : Bool) → suc (length (filter (λ b. eqb b m) bs)) ≡ length (parted m bs)
        → suc (length (cond s (b ∷ filter (λ b. eqb b m) bs) (filter (λ b. eqb b m) bs))) ≡ length (cond s ([] ∷ parted m bs) (in_front b (parted m bs)))
    go true e = ap suc e
    go false e = e ∙ sym (front_length b (parted m bs))

-- ---- the i-th word
front-first : (b : ℕ) (ps : List (List ℕ)) → Some ps → get_or (in_front b ps) 0 [] ≡ b ∷ get_or ps 0 []
front-first b (p ∷ ps) some-part = refl
front-first b [] x' = elim x' [ ]

pub first_word : (m : ℕ) (t : List ℕ) → get_or (parted m t) 0 [] ≡ before m t
unfolding words.parted words.before
first_word m [] = refl
first_word m (b ∷ bs) = go (eqb b m) (first_word m bs)
  where
    go : (s : Bool) → get_or (parted m bs) 0 [] ≡ before m bs → get_or (cond s ([] ∷ parted m bs) (in_front b (parted m bs))) 0 [] ≡ cond s [] (b ∷ before m bs)
    go true e = refl
    go false e = front-first b (parted m bs) (some-parts m bs) ∙ ap (λ (l : List ℕ). b ∷ l) e

front-later : (b : ℕ) (ps : List (List ℕ)) (j : ℕ) → get_or (in_front b ps) (suc j) [] ≡ get_or ps (suc j) []
front-later b [] j = refl
front-later b (p ∷ ps) j = refl

no_word : (j : ℕ) → get_or {A = List ℕ} ([] ∷ []) j [] ≡ []
no_word zero = refl
no_word (suc j) = refl

pub later-word : (m : ℕ) (t : List ℕ) (j : ℕ) → get_or (parted m t) (suc j) [] ≡ get_or (parted m (behind m t)) j []
unfolding words.parted words.behind
later-word m [] j = sym (no_word j)
later-word m (b ∷ bs) j = go (eqb b m) (later-word m bs j)
  where
    go : (s : Bool) → get_or (parted m bs) (suc j) [] ≡ get_or (parted m (behind m bs)) j []
        → get_or (cond s ([] ∷ parted m bs) (in_front b (parted m bs))) (suc j) [] ≡ get_or (parted m (cond s bs (behind m bs))) j []
    go true e = refl
    go false e = front-later b (parted m bs) j ∙ e

pub next-left : (m : ℕ) (t : List ℕ) (left : ℕ) → 0 < left → get_or (parted m t) left [] ≡ get_or (parted m (behind m t)) (left - 1) []
next-left m t zero h = absurd (omega arith)
next-left m t (suc j) h = let less : suc j - 1 ≡ j = omega arith in rw less (later-word m t j)

-- ---- the part of a line from a place on
pub whole-rest : (t : List ℕ) (at : ℕ) → take (length t - at) (drop at t) ≡ drop at t
whole-rest t at = take_all (length t - at) (drop at t) (simp length-drop (omega arith))

module _ (m : ℕ) (t : List ℕ) (at n : ℕ) (e : n ≡ length (before m (take (length t - at) (drop at t)))) where
  count-is : n ≡ length (before m (drop at t))
  count-is = rw (whole-rest t at) at e

  pub behind-space : drop (at + n + 1) t ≡ behind m (drop at t)
  behind-space =
      let sum : at + (n + 1) ≡ at + n + 1 = omega arith in
      rw (← sum, ← drop-drop (n + 1) at t) (sym (whole-rest (drop at t) (n + 1)) ∙ other-fields m (drop at t) count-is)

  pub no-space : length (take (length t - at) (drop at t)) ≤ n → drop (length t) t ≡ behind m (drop at t)
  no-space h =
      let past : length (drop at t) ≤ n = rw (whole-rest t at) at h in
      rw (drop_of_length-le t {i = length t} (omega arith)) (sym (drop_of_length-le (drop at t) {i = n} past) ∙ sym (whole-rest (drop at t) n) ∙ no_fields m (drop at t) count-is past)

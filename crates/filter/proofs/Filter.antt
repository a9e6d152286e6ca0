-- What a filter knows: a number that is added is set, and so is every one that was set before.
-- Assumes nothing.
use Rattle.std.proofs.Common.{◌≡◌, ℕ, zero, suc, ◌+◌, ◌-◌, ◌*◌, ◌/◌, ◌%◌, ◌<◌, ◌≤◌, max, Bool, true, false, T, eqb, List, [], ◌∷◌, length, get_or, set, sym, refl, ap, ◌∙◌, le_trans, le_antisymm, arith, eqb→eq, length-set, eqb-true}
use native.Mathlib.Nat.{le-max_left, le-max_right, max-le}
use lib.Arith.{bin_ind, digits_div, digits_mod}
use lib.Bits.{bit_or, or_step, or_comm, or_self, and_le_r}
use lib.Dec.{eqb_refl, eqb-suc-zero}
use borrow.Author.Tests.{eqb-false}
use Rattle.filter.specs.Filter.{mask_of, index_of, word_of, is_set, added}

-- ---- `or` of three
max-three : (a b c : ℕ) → max (max a b) c ≡ max a (max b c)
max-three a b c = le_antisymm
    (max-le (max-le (le-max_left a (max b c)) (le_trans (le-max_left b c) (le-max_right a (max b c)))) (le_trans (le-max_right b c) (le-max_right a (max b c))))
    (max-le (le_trans (le-max_left a b) (le-max_left (max a b) c)) (max-le (le_trans (le-max_right a b) (le-max_left (max a b) c)) (le-max_right (max a b) c)))

odd-lt : (a b : ℕ) → max (a % 2) (b % 2) < 2
odd-lt a b = let low : max (a % 2) (b % 2) ≤ 1 = max-le (omega arith) (omega arith) in omega arith

or-half : (a b : ℕ) → bit_or a b / 2 ≡ bit_or (a / 2) (b / 2)
or-half a b = ap (λ (x : ℕ). x / 2) (or_step a b) ∙ digits_div (bit_or (a / 2) (b / 2)) (odd-lt a b)

or-odd : (a b : ℕ) → bit_or a b % 2 ≡ max (a % 2) (b % 2)
or-odd a b = ap (λ (x : ℕ). x % 2) (or_step a b) ∙ digits_mod (bit_or (a / 2) (b / 2)) (odd-lt a b)

pub or_assoc : (a b c : ℕ) → bit_or (bit_or a b) c ≡ bit_or a (bit_or b c)
or_assoc = bin_ind (λ (n : ℕ). (b c : ℕ) → bit_or (bit_or n b) c ≡ bit_or n (bit_or b c)) (λ b c. refl) (λ n ih b c.
    or_step (bit_or n b) c
    ∙ (λ k. bit_or (or-half n b k) (c / 2) * 2 + max (or-odd n b k) (c % 2))
    ∙ (λ k. ih (b / 2) (c / 2) k * 2 + max-three (n % 2) (b % 2) (c % 2) k)
    ∙ sym ((λ k. bit_or (n / 2) (or-half b c k) * 2 + max (n % 2) (or-odd b c k)))
    ∙ sym (or_step n (bit_or b c)))

-- ---- bits of a word
or-known : (w m : ℕ) → bit_or (bit_or w m) m ≡ bit_or w m
or-known w m = or_assoc w m m ∙ ap (bit_or w) (or_self m)

or-stays : (w m n : ℕ) → bit_or w n ≡ w → bit_or (bit_or w m) n ≡ bit_or w m
or-stays w m n known = or_assoc w m n ∙ ap (bit_or w) (or_comm m n) ∙ sym (or_assoc w n m) ∙ ap (λ (x : ℕ). bit_or x m) known

-- ---- an element after a store
at_set : (l : List ℕ) (i x : ℕ) → i < length l → get_or (set l i x) i 0 ≡ x
at_set [] i x h = absurd (omega arith)
at_set (y ∷ l) zero x h = refl
at_set (y ∷ l) (suc i) x h = at_set l i x (omega arith)

past-set : (l : List ℕ) (i j x : ℕ) → (i ≡ j → ⊥) → get_or (set l i x) j 0 ≡ get_or l j 0
past-set [] i j x h = refl
past-set (y ∷ l) zero zero x h = absurd (h refl)
past-set (y ∷ l) zero (suc j) x h = refl
past-set (y ∷ l) (suc i) zero x h = refl
past-set (y ∷ l) (suc i) (suc j) x h = past-set l i j x (λ e. h (ap suc e))

-- ---- a filter
pub index-inside : (words h : ℕ) → 0 < words → index_of words h < words
index-inside words h some = omega (arith, and_le_r (h / 262144) (words - 1))

-- the words, of which there is one at least, with h added: what is known of g is what its word says
module _ (bits : List ℕ) (h : ℕ) (some : 0 < length bits) where
  abbrev here : ℕ
  here = index_of (length bits) h

  abbrev word : ℕ
  word = bit_or (word_of bits h) (mask_of h)

  word_after : (g : ℕ) (t : Bool) → eqb here (index_of (length bits) g) ≡ t → bit_or (word_of bits g) (mask_of g) ≡ word_of bits g
      → bit_or (get_or (added bits h) (index_of (length bits) g) 0) (mask_of g) ≡ get_or (added bits h) (index_of (length bits) g) 0
  word_after g true is known =
      let same : index_of (length bits) g ≡ here = sym (eqb-true here (index_of (length bits) g) is) in
      rw (same, at_set bits here word (index-inside (length bits) h some)) (or-stays (word_of bits h) (mask_of h) (mask_of g) (rw same at known))
  word_after g false is known =
      rw (past-set bits here (index_of (length bits) g) word (eqb-false here (index_of (length bits) g) is)) known

  word-own : bit_or (get_or (added bits h) here 0) (mask_of h) ≡ get_or (added bits h) here 0
  word-own = rw (at_set bits here word (index-inside (length bits) h some)) (or-known (word_of bits h) (mask_of h))

-- what a word says is what is known
known_so : (bits : List ℕ) (g : ℕ) → (0 < length bits → bit_or (word_of bits g) (mask_of g) ≡ word_of bits g) → T (is_set bits g)
known_so [] g said = tt
known_so (x ∷ bits) g said = rw (eqb-suc-zero (length bits), said (omega arith)) (eqb_refl (word_of (x ∷ bits) g))

so-known : (bits : List ℕ) (g : ℕ) → T (is_set bits g) → 0 < length bits → bit_or (word_of bits g) (mask_of g) ≡ word_of bits g
so-known [] g known some = absurd (omega arith)
so-known (x ∷ bits) g known some = eqb→eq (bit_or (word_of (x ∷ bits) g) (mask_of g)) (word_of (x ∷ bits) g) (rw (eqb-suc-zero (length bits)) at known)

long : (bits : List ℕ) (h : ℕ) → length (added bits h) ≡ length bits
long bits h = length-set bits (index_of (length bits) h) (bit_or (word_of bits h) (mask_of h))

pub set-added : (bits : List ℕ) (h : ℕ) → T (is_set (added bits h) h)
set-added bits h = known_so (added bits h) h (λ some. rw (long bits h) (word-own bits h (rw (long bits h) at some)))

pub stays-set : (bits : List ℕ) (h g : ℕ) → T (is_set bits g) → T (is_set (added bits h) g)
stays-set bits h g known = known_so (added bits h) g (λ some. let so = rw (long bits h) at some in
    rw (long bits h) (word_after bits h so g (eqb (index_of (length bits) h) (index_of (length bits) g)) refl (so-known bits g known so)))

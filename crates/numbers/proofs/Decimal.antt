-- Decimal text: a digit at a time, how many digits there are, and its laws.
-- Assumes nothing.
use Prim.Native.Nat.{ℕ, zero, suc, ◌+◌, ◌-◌, ◌*◌, ◌/◌, ◌%◌, ◌^◌, ◌≤◌, ◌<◌}
use mathlib.Core.List.{List, [], ◌∷◌, ◌++◌}
use mathlib.Core.Bool.{Bool, true, false, ◌&&◌}
use mathlib.Core.Path.{◌≡◌, refl, sym, ◌∙◌}
use native.Mathlib.Omega.{arith}
use native.Mathlib.Decide.{dec_lt}
use native.Mathlib.Nat.{pow-suc}
use lib.ListN.{length, get_or, length-append}
use borrow.Author.Tests.{lt-ltb, le-ltb, le-leb}
use Rattle.rows.specs.Checks.{all}
use Rattle.numbers.specs.Decimal as specs
use Rattle.numbers.specs.Decimal.{digit, digits_of, decimal, number_from, is_digit, DecimalLaws}

-- ---- the last digit, and those before it
one-digit : (most n : ℕ) → n < 10 → digits_of most n ≡ digit n ∷ []
unfolding specs.digits_of
one-digit zero n h = let e : n % 10 ≡ n = omega arith in rw e
one-digit (suc m) n h = rw (lt-ltb n 10 h)

more-digits : (most n : ℕ) → 10 ≤ n → digits_of (suc most) n ≡ digits_of most (n / 10) ++ (digit (n % 10) ∷ [])
unfolding specs.digits_of
more-digits m n h = rw (le-ltb n 10 h)

same_digits : (a b n : ℕ) → n ≤ a → n ≤ b → digits_of a n ≡ digits_of b n
same_digits zero b n h k = one-digit 0 n (omega arith) ∙ sym (one-digit b n (omega arith))
same_digits (suc a) zero n h k = one-digit (suc a) n (omega arith) ∙ sym (one-digit 0 n (omega arith))
same_digits (suc a) (suc b) n h k =
    elim (dec_lt n 10) [
      | yes l ↦ one-digit (suc a) n l ∙ sym (one-digit (suc b) n l)
      | no l ↦ rw (more-digits a n (omega arith), more-digits b n (omega arith), same_digits a b (n / 10) (omega arith) (omega arith))
    ]

pub decimal-one : (n : ℕ) → n < 10 → decimal n ≡ digit n ∷ []
decimal-one n h = one-digit n n h

pub decimal-more : (n : ℕ) → 10 ≤ n → decimal n ≡ decimal (n / 10) ++ (digit (n % 10) ∷ [])
decimal-more zero h = absurd (omega arith)
decimal-more (suc n) h = more-digits n (suc n) h ∙ rw (same_digits n (suc n / 10) (suc n / 10) (omega arith) (omega arith))

-- what holds of the text of each number below 10, and of a text if it holds of all but its last digit, holds of every text
module _ (P : ℕ → List ℕ → Type 0) (one : (n : ℕ) → n < 10 → P n (digit n ∷ []))
    (more : (n : ℕ) (ds : List ℕ) → 10 ≤ n → P (n / 10) ds → P n (ds ++ (digit (n % 10) ∷ []))) where
  of-digits : (most n : ℕ) → n ≤ most → P n (digits_of most n)
  of-digits zero n h = rw (one-digit 0 n (omega arith)) (one n (omega arith))
  of-digits (suc m) n h =
      elim (dec_lt n 10) [
        | yes l ↦ rw (one-digit (suc m) n l) (one n l)
        | no l ↦ rw (more-digits m n (omega arith)) (more n (digits_of m (n / 10)) (omega arith) (of-digits m (n / 10) (omega arith)))
      ]

  pub of-decimal : (n : ℕ) → P n (decimal n)
  of-decimal n = of-digits n n (omega arith)

-- ---- its length
pub some-digits : (n : ℕ) → 1 ≤ length (decimal n)
some-digits = of-decimal (λ n ds. 1 ≤ length ds) (λ n h. omega arith) (λ n ds h p. rw length-append (omega arith))

pub few-digits : (k n : ℕ) → n < 10 ^ suc k → length (decimal n) ≤ suc k
few-digits k n = of-decimal (λ n ds. (k : ℕ) → n < 10 ^ suc k → length ds ≤ suc k) (λ n h k l. omega arith) step n k
  where
    step : (n : ℕ) (ds : List ℕ) → 10 ≤ n → ((k : ℕ) → n / 10 < 10 ^ suc k → length ds ≤ suc k) → (k : ℕ) → n < 10 ^ suc k → length (ds ++ (digit (n % 10) ∷ [])) ≤ suc k
    step n ds h p zero l = absurd (omega arith)
    step n ds h p (suc k) l = rw length-append (omega (arith, p k (omega (arith, rw (pow-suc 10 (suc k)) at l))))

-- of a number of 64 bits, and of one of 32
pub digits-64 : (n : ℕ) → n < 2 ^ 64 → length (decimal n) ≤ 20
digits-64 n h = few-digits 19 n (omega arith)

-- ---- its laws
number_append : (a : ℕ) (ds : List ℕ) (d : ℕ) → number_from a (ds ++ (d ∷ [])) ≡ number_from a ds * 10 + (d - 0x30)
number_append a [] d = refl
number_append a (e ∷ ds) d = number_append (a * 10 + (e - 0x30)) ds d

pub decimal-value : (n : ℕ) → number_from 0 (decimal n) ≡ n
decimal-value = of-decimal (λ n ds. number_from 0 ds ≡ n) (λ n h. omega arith) (λ n ds h p. number_append 0 ds (digit (n % 10)) ∙ omega arith)

is_digit_lem : (d : ℕ) → d < 10 → is_digit (digit d) ≡ true
is_digit_lem d h = rw (le-leb 0x30 (0x30 + d) (omega arith), le-leb (0x30 + d) 0x39 (omega arith))

all_append : (ds es : List ℕ) → all is_digit ds ≡ true → all is_digit es ≡ true → all is_digit (ds ++ es) ≡ true
all_append [] es p q = q
all_append (d ∷ ds) es p q = go (is_digit d) p (λ r. all_append ds es r q)
  where
    go : (b : Bool) → (b && all is_digit ds) ≡ true → (all is_digit ds ≡ true → all is_digit (ds ++ es) ≡ true) → (b && all is_digit (ds ++ es)) ≡ true
    go true p k = k p
    go false p k = p

pub decimal-digits : (n : ℕ) → all is_digit (decimal n) ≡ true
decimal-digits =
    of-decimal (λ n ds. all is_digit ds ≡ true) (λ n h. rw (is_digit_lem n h)) (λ n ds h p. all_append ds (digit (n % 10) ∷ []) p (rw (is_digit_lem (n % 10) (omega arith))))

-- the first digit of a number above 0 is no zero
record Leads (n : ℕ) (ds : List ℕ) : Type 0 where
  some : 1 ≤ length ds
  zero-only : get_or ds 0 0 ≡ 0x30 → n ≡ 0

first-append : (ds es : List ℕ) → 1 ≤ length ds → get_or (ds ++ es) 0 0 ≡ get_or ds 0 0
first-append [] es h = absurd (omega arith)
first-append (d ∷ ds) es h = refl

decimal-leads : (n : ℕ) → Leads n (decimal n)
decimal-leads = of-decimal Leads (λ n h. record { some = omega arith; zero-only = λ e. omega arith }) step
  where
    step : (n : ℕ) (ds : List ℕ) → 10 ≤ n → Leads (n / 10) ds → Leads n (ds ++ (digit (n % 10) ∷ []))
    step n ds h p = record {
      some = rw length-append (omega (arith, p.some));
      zero-only = λ e. absurd (omega (arith, p.zero-only (sym (first-append ds (digit (n % 10) ∷ []) p.some) ∙ e)));
    }

pub decimal-laws : DecimalLaws
decimal-laws = record { value = decimal-value; digits = decimal-digits; leading = λ n. (decimal-leads n).zero-only }

-- Decimals: a text is read digit by digit; what is read is the number's decimal text.
-- Assumes nothing.
use Prim.Native.Nat.{ℕ, suc, ◌+◌, ◌-◌, ◌*◌, ◌/◌, ◌%◌, ◌≤◌, ◌<◌}
use mathlib.Core.List.{List, [], ◌∷◌, ◌++◌, append_assoc, append-nil}
use mathlib.Core.Bool.{Bool, true, false, cond, ◌&&◌, not}
use mathlib.Core.Option.{Option, none, some}
use mathlib.Core.Path.{◌≡◌, refl, sym, ap, ◌∙◌}
use native.Mathlib.Omega.{arith}
use native.Mathlib.Numerals.{add-one}
use lib.ListN.{length, get_or, drop, drop_of_length-le}
use lib.Seq.{drop-cons}
use lib.Dec.{leb, eqb}
use borrow.Author.Tests.{leb-true, leb-false, le-leb, lt-leb, eqb-true, eqb-false, eq-eqb, ne_eqb}
use Rattle.rows.specs.Checks.{all}
use Rattle.numbers.specs.Decimal.{decimal, number_from, is_digit}
use Rattle.numbers.proofs.Decimal.{some-digits, decimal-one, decimal-more, decimal-value, decimal-laws}
use Rattle.ascii.specs.Decimal as decimals
use Rattle.ascii.specs.Decimal.{is_decimal, decimal_in, with_digit, goes_on, says_from, DecimalsRead}
use Rattle.ascii.proofs.Never.{no_way, none-some}

-- ---- digit by digit
-- more digits make no smaller number
grows : (n : ℕ) (ds : List ℕ) → n ≤ number_from n ds
grows n [] = omega arith
grows n (d ∷ ds) = omega (arith, grows (n * 10 + (d - 0x30)) ds)

and-false : (b : Bool) → (b && false) ≡ false
and-false true = refl
and-false false = refl

and-true : (b : Bool) → (b && true) ≡ b
and-true true = refl
and-true false = refl

-- as one test of all the digits
goes_on_lem : (h n : ℕ) (ds : List ℕ) → 0 < n → n ≤ h → goes_on h n ds ≡ (all is_digit ds && leb (number_from n ds) h)
unfolding decimals.goes_on
goes_on_lem h n [] p q = sym (le-leb n h q)
goes_on_lem h n (d ∷ ds) p q = rw (ne_eqb n 0 (λ e. omega arith)) (go (is_digit d) (leb (n * 10 + (d - 0x30)) h) refl (λ l. goes_on_lem h (n * 10 + (d - 0x30)) ds (omega arith) l))
  where
    go : (i l : Bool) → leb (n * 10 + (d - 0x30)) h ≡ l → (n * 10 + (d - 0x30) ≤ h → goes_on h (n * 10 + (d - 0x30)) ds ≡ (all is_digit ds && leb (number_from (n * 10 + (d - 0x30)) ds) h))
        → (i && (l && goes_on h (n * 10 + (d - 0x30)) ds)) ≡ ((i && all is_digit ds) && leb (number_from (n * 10 + (d - 0x30)) ds) h)
    go false l f ih = refl
    go true true f ih = ih (leb-true _ _ f)
    go true false f ih =
        let over : h < number_from (n * 10 + (d - 0x30)) ds = omega (arith, leb-false (n * 10 + (d - 0x30)) h f, grows (n * 10 + (d - 0x30)) ds) in
        rw (lt-leb _ h over) (sym (and-false (all is_digit ds)))

pub digit-is : (d : ℕ) → is_digit d ≡ true → (0x30 ≤ d) × (d ≤ 0x39)
digit-is d e = go (leb 0x30 d) refl e
  where
    go : (b : Bool) → leb 0x30 d ≡ b → (b && leb d 0x39) ≡ true → (0x30 ≤ d) × (d ≤ 0x39)
    go true f g = (leb-true 0x30 d f, leb-true d 0x39 g)
    go false f g = no_way g

-- a decimal's first digit, and the others behind it
first-digit : (h d : ℕ) (ds : List ℕ)
    → (is_decimal (d ∷ ds) && leb (number_from 0 (d ∷ ds)) h) ≡ (is_digit d && (leb (0 * 10 + (d - 0x30)) h && goes_on h (0 * 10 + (d - 0x30)) ds))
unfolding decimals.goes_on
first-digit h d [] = rw (and-true (leb (0 * 10 + (d - 0x30)) h))
first-digit h d (e ∷ ds) = go (is_digit d) (eqb d 0x30) (leb (0 * 10 + (d - 0x30)) h) refl refl refl
  where
    go : (i z l : Bool) → is_digit d ≡ i → eqb d 0x30 ≡ z → leb (0 * 10 + (d - 0x30)) h ≡ l
        → ((not z && (i && all is_digit (e ∷ ds))) && leb (number_from (0 * 10 + (d - 0x30)) (e ∷ ds)) h) ≡ (i && (l && goes_on h (0 * 10 + (d - 0x30)) (e ∷ ds)))
    go false true l p q r = refl
    go false false l p q r = refl
    go true true l p q r =
        let none_yet : 0 * 10 + (d - 0x30) ≡ 0 = omega (arith, eqb-true d 0x30 q) in
        rw none_yet (sym (and-false l))
    go true false true p q r =
        let some-yet : 0 < 0 * 10 + (d - 0x30) = below (digit-is d p).0 (eqb-false d 0x30 q) in
        sym (goes_on_lem h (0 * 10 + (d - 0x30)) (e ∷ ds) some-yet (leb-true _ _ r))
      where
        below : 0x30 ≤ d → (d ≡ 0x30 → ⊥) → 0 < 0 * 10 + (d - 0x30)
        below a b = omega arith
    go true false false p q r =
        let over : h < number_from (0 * 10 + (d - 0x30)) (e ∷ ds) = omega (arith, leb-false (0 * 10 + (d - 0x30)) h r, grows (0 * 10 + (d - 0x30)) (e ∷ ds)) in
        rw (lt-leb _ h over) (and-false (all is_digit (e ∷ ds)))

-- ---- a digit, and others behind it
module _ (h n b : ℕ) (ds : List ℕ) where
  abbrev pub with_rest : Option ℕ
  with_rest = cond (is_digit b && (leb (n * 10 + (b - 0x30)) h && goes_on h (n * 10 + (b - 0x30)) ds)) (some (number_from (n * 10 + (b - 0x30)) ds)) none

  rest-none : with_digit h n b ≡ none → with_rest ≡ none
  rest-none e = go (is_digit b) (leb (n * 10 + (b - 0x30)) h) e
    where
      go : (i l : Bool) → cond (i && l) (some (n * 10 + (b - 0x30))) none ≡ none
          → cond (i && (l && goes_on h (n * 10 + (b - 0x30)) ds)) (some (number_from (n * 10 + (b - 0x30)) ds)) none ≡ none
      go false l e = refl
      go true false e = refl
      go true true e = none-some (sym e)

  rest_some : (m : ℕ) → with_digit h n b ≡ some m → with_rest ≡ says_from h m ds
  rest_some m e = go (is_digit b) (leb (n * 10 + (b - 0x30)) h) e
    where
      go : (i l : Bool) → cond (i && l) (some (n * 10 + (b - 0x30))) none ≡ some m
          → cond (i && (l && goes_on h (n * 10 + (b - 0x30)) ds)) (some (number_from (n * 10 + (b - 0x30)) ds)) none ≡ says_from h m ds
      go false l e = none-some e
      go true false e = none-some e
      go true true e = let same : n * 10 + (b - 0x30) ≡ m = cc in rw same

pub read-digits : (h d : ℕ) (ds : List ℕ) → decimal_in h (d ∷ ds) ≡ with_rest h 0 d ds
unfolding decimals.decimal_in
read-digits h d ds = rw (first-digit h d ds)

-- ---- at a place of a text
module _ (h n : ℕ) (t : List ℕ) (i : ℕ) (k : i < length t) where
  pub nothing-behind-0 : n ≡ 0 → says_from h n (drop i t) ≡ none
  unfolding decimals.goes_on
  nothing-behind-0 e = rw (drop-cons t i 0 k, eq-eqb n 0 e)

  module _ (p : n ≡ 0 → ⊥) where
    next-digit : says_from h n (drop i t) ≡ with_rest h n (get_or t i 0) (drop (suc i) t)
    unfolding decimals.goes_on
    next-digit = rw (drop-cons t i 0 k, ne_eqb n 0 p)

    pub digit-none : with_digit h n (get_or t i 0) ≡ none → says_from h n (drop i t) ≡ none
    digit-none e = next-digit ∙ rest-none h n (get_or t i 0) (drop (suc i) t) e

    pub digit-some : (m : ℕ) → with_digit h n (get_or t i 0) ≡ some m → says_from h n (drop i t) ≡ says_from h m (drop (i + 1) t)
    digit-some m e = next-digit ∙ rw add-one (rest_some h n (get_or t i 0) (drop (suc i) t) m e)

pub digits-end : (h n : ℕ) (t : List ℕ) (i : ℕ) → length t ≤ i → says_from h n (drop i t) ≡ some n
unfolding decimals.goes_on
digits-end h n t i k = rw (drop_of_length-le t {i = i} k)

-- ---- a text
pub no_text : (h : ℕ) (t : List ℕ) → length t ≡ 0 → decimal_in h t ≡ none
unfolding decimals.decimal_in
no_text h [] e = refl
no_text h (d ∷ ds) e = absurd (omega arith)

pub first-none : (h : ℕ) (t : List ℕ) → (length t ≡ 0 → ⊥) → with_digit h 0 (get_or t 0 0) ≡ none → decimal_in h t ≡ none
first-none h [] p e = absurd (p refl)
first-none h (d ∷ ds) p e = read-digits h d ds ∙ rest-none h 0 d ds e

pub first_some : (h : ℕ) (t : List ℕ) (m : ℕ) → (length t ≡ 0 → ⊥) → with_digit h 0 (get_or t 0 0) ≡ some m → decimal_in h t ≡ says_from h m (drop 1 t)
first_some h [] m p e = absurd (p refl)
first_some h (d ∷ ds) m p e = read-digits h d ds ∙ rest_some h 0 d ds m e

-- what a word says, by the answers about it
pub said : (h : ℕ) {t w : List ℕ} {s o : Option ℕ} → t ≡ w → s ≡ decimal_in h t → s ≡ o → decimal_in h w ≡ o
said h e f g = rw (← e, ← f) g

-- ---- what is read is the number's text
behind : (a : ℕ) (ds : List ℕ) → 0 < a → all is_digit ds ≡ true → decimal (number_from a ds) ≡ decimal a ++ ds
behind a [] p q = sym (append-nil (decimal a))
behind a (d ∷ ds) p q = go (is_digit d) refl q (λ r. behind (a * 10 + (d - 0x30)) ds (omega arith) r)
  where
    go : (i : Bool) → is_digit d ≡ i → (i && all is_digit ds) ≡ true → (all is_digit ds ≡ true → decimal (number_from (a * 10 + (d - 0x30)) ds) ≡ decimal (a * 10 + (d - 0x30)) ++ ds)
        → decimal (number_from (a * 10 + (d - 0x30)) ds) ≡ decimal a ++ (d ∷ ds)
    go false e r ih = no_way r
    go true e r ih =
        let within = digit-is d e in
        let up : 10 ≤ a * 10 + (d - 0x30) = omega arith in
        let most : (a * 10 + (d - 0x30)) / 10 ≡ a = omega arith in
        let last : 0x30 + (a * 10 + (d - 0x30)) % 10 ≡ d = omega arith in
        ih r ∙ rw (decimal-more (a * 10 + (d - 0x30)) up, most, last, append_assoc)

one-digit : (d : ℕ) → is_digit d ≡ true → decimal (0 * 10 + (d - 0x30)) ≡ d ∷ []
one-digit d e =
    let within = digit-is d e in
    let same : 0x30 + (0 * 10 + (d - 0x30)) ≡ d = omega arith in
    decimal-one (0 * 10 + (d - 0x30)) (omega arith) ∙ rw same

is-text : (t : List ℕ) → is_decimal t ≡ true → t ≡ decimal (number_from 0 t)
is-text [] e = no_way e
is-text (d ∷ []) e = sym (one-digit d e)
is-text (d ∷ e ∷ ds) q = go (eqb d 0x30) (is_digit d) refl refl q
  where
    go : (z i : Bool) → eqb d 0x30 ≡ z → is_digit d ≡ i → (not z && (i && all is_digit (e ∷ ds))) ≡ true → (d ∷ e ∷ ds) ≡ decimal (number_from 0 (d ∷ e ∷ ds))
    go true i f g r = no_way r
    go false false f g r = no_way r
    go false true f g r =
        let within = digit-is d g in
        let lead = eqb-false d 0x30 f in
        let up : 0 < 0 * 10 + (d - 0x30) = omega arith in
        sym (behind (0 * 10 + (d - 0x30)) (e ∷ ds) up r ∙ rw (one-digit d g))

is-decimal : (n : ℕ) (t : List ℕ) → t ≡ decimal n → is_decimal t ≡ true
is-decimal n [] e = absurd (omega (arith, some-digits n, ap length e))
is-decimal n (d ∷ []) e = go (is_digit d) (rw (← e) at (decimal-laws.digits n))
  where
    go : (i : Bool) → (i && true) ≡ true → i ≡ true
    go true f = refl
    go false f = f
is-decimal n (d ∷ x ∷ ds) e = go (eqb d 0x30) refl (rw (← e) at (decimal-laws.digits n)) (rw (← e) at (decimal-laws.leading n))
  where
    go : (z : Bool) → eqb d 0x30 ≡ z → all is_digit (d ∷ x ∷ ds) ≡ true → (d ≡ 0x30 → n ≡ 0) → (not z && all is_digit (d ∷ x ∷ ds)) ≡ true
    go false f g lead = g
    go true f g lead =
        let nought = lead (eqb-true d 0x30 f) in
        let one : d ∷ x ∷ ds ≡ 0x30 ∷ [] = e ∙ rw nought (decimal-one 0 (omega arith)) in
        absurd (omega (arith, ap length one))

reads-number : (h n : ℕ) → n ≤ h → decimal_in h (decimal n) ≡ some n
unfolding decimals.decimal_in
reads-number h n l = rw (is-decimal n (decimal n) refl, decimal-value n, le-leb n h l)

number-reads : (h n : ℕ) (t : List ℕ) → decimal_in h t ≡ some n → (t ≡ decimal n) × (n ≤ h)
unfolding decimals.decimal_in
number-reads h n t e = go (is_decimal t) (leb (number_from 0 t) h) refl refl e
  where
    go : (i l : Bool) → is_decimal t ≡ i → leb (number_from 0 t) h ≡ l → cond (i && l) (some (number_from 0 t)) none ≡ some n → (t ≡ decimal n) × (n ≤ h)
    go false l f g x = none-some x
    go true false f g x = none-some x
    go true true f g x =
        let same : number_from 0 t ≡ n = cc in
        (is-text t f ∙ ap decimal same, omega (arith, leb-true (number_from 0 t) h g))

pub decimals-read : DecimalsRead
decimals-read = record { text-reads = reads-number; reads-text = number-reads }

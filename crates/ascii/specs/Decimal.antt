-- Decimals: digits without leading zeros, up to a highest number.
-- Assumes nothing.
use Rattle.std.specs.Prelude.{ℕ, ◌+◌, ◌-◌, ◌*◌, ◌≤◌, List, [], ◌∷◌, Bool, true, false, cond, ◌&&◌, not, ◌≡◌, leb, eqb}
use Rattle.std.proofs.Math.Option.{Option, none, some}
use Rattle.rows.specs.Checks.{all}
use Rattle.numbers.specs.Decimal.{digit, decimal, number_from, is_digit}

-- the highest numbers of 32 and of 64 bits
abbrev pub U32 : ℕ
U32 = 0xFFFFFFFF

abbrev pub U64 : ℕ
U64 = 0xFFFFFFFFFFFFFFFF

-- `0` is a decimal, `00` is none, and neither is the empty text
abbrev pub is_decimal : List ℕ → Bool
is_decimal [] = false
is_decimal (d ∷ []) = is_digit d
is_decimal (d ∷ e ∷ ds) = not (eqb d (digit 0)) && all is_digit (d ∷ e ∷ ds)

-- the number that a text says, if it is a decimal and its number at most `highest`
unfoldable pub decimal_in : (highest : ℕ) → List ℕ → Option ℕ
decimal_in highest text = cond (is_decimal text && leb (number_from 0 text) highest) (some (number_from 0 text)) none

-- ---- digit by digit, which is proved to be the same (proofs/Decimals.antt) and need not be believed
-- the number n with a digit behind it
abbrev pub with_digit : (highest n b : ℕ) → Option ℕ
with_digit highest n b = cond (is_digit b && leb (n * 10 + (b - 0x30)) highest) (some (n * 10 + (b - 0x30))) none

-- digits behind the number n keep it a decimal, and at most `highest`
unfoldable pub goes_on : (highest n : ℕ) → List ℕ → Bool
goes_on h n [] = true
goes_on h n (d ∷ ds) = not (eqb n 0) && (is_digit d && (leb (n * 10 + (d - 0x30)) h && goes_on h (n * 10 + (d - 0x30)) ds))

abbrev pub says_from : (highest n : ℕ) → List ℕ → Option ℕ
says_from highest n ds = cond (goes_on highest n ds) (some (number_from n ds)) none

-- ---- what is proved of it (proofs/Decimals.antt)
pub record DecimalsRead : Type 0 where
  -- a number's text is read as the number, up to the highest
  pub text-reads : (highest n : ℕ) → n ≤ highest → decimal_in highest (decimal n) ≡ some n
  -- and no other text is
  pub reads-text : (highest n : ℕ) (text : List ℕ) → decimal_in highest text ≡ some n → (text ≡ decimal n) × (n ≤ highest)

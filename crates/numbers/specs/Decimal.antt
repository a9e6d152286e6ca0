-- Decimal text.
-- Assumes nothing.
use Rattle.std.specs.Prelude.{ℕ, zero, suc, ◌+◌, ◌-◌, ◌*◌, ◌/◌, ◌%◌, List, [], ◌∷◌, ◌++◌, Bool, true, cond, ◌&&◌, ◌≡◌, get_or, leb, ltb}
use Rattle.rows.specs.Checks.{all}

abbrev pub LF : ℕ
LF = 0x0A

abbrev pub COMMA : ℕ
COMMA = 0x2C

-- the digit d
abbrev pub digit : ℕ → ℕ
digit d = 0x30 + d

-- n in decimal, without leading zeros: the digits of n / 10, if that is not 0, and then n % 10. At most `most` digits stand before the last
unfoldable pub digits_of : (most : ℕ) → ℕ → List ℕ
digits_of zero n = digit (n % 10) ∷ []
digits_of (suc most) n = cond (ltb n 10) (digit n ∷ []) (digits_of most (n / 10) ++ (digit (n % 10) ∷ []))

-- no number has more digits before its last than it says
abbrev pub decimal : ℕ → List ℕ
decimal n = digits_of n n

-- ---- what is proved of it (proofs/Decimal.antt)
-- the number that digits say, behind a
abbrev pub number_from : ℕ → List ℕ → ℕ
number_from a [] = a
number_from a (d ∷ ds) = number_from (a * 10 + (d - 0x30)) ds

abbrev pub is_digit : ℕ → Bool
is_digit d = leb 0x30 d && leb d 0x39

pub record DecimalLaws : Type 0 where
  pub value : (n : ℕ) → number_from 0 (decimal n) ≡ n
  pub digits : (n : ℕ) → all is_digit (decimal n) ≡ true
  -- no leading zero but that of 0
  pub leading : (n : ℕ) → get_or (decimal n) 0 0 ≡ 0x30 → n ≡ 0

-- ---- lines
-- these numbers, a comma before each, and LF
abbrev pub fields_text : List ℕ → List ℕ
fields_text [] = LF ∷ []
fields_text (n ∷ ns) = COMMA ∷ (decimal n ++ fields_text ns)

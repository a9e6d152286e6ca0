-- A text is a list of Unicode scalar values; its bytes are by the table of RFC 3629, section 3.
-- Assumes nothing.
use Rattle.std.specs.Prelude.{ℕ, ◌+◌, ◌/◌, ◌%◌, ◌≤◌, List, [], ◌∷◌, ◌++◌, true, cond, ◌≡◌, leb}
use Rattle.rows.specs.Utf8.{utf8}

-- a code point that is no surrogate
pub record Scalar (n : ℕ) : Type 0 where
  pub code_point : n ≤ 0x10FFFF
  pub no_surrogate : 0xD800 ≤ n → n ≤ 0xDFFF → ⊥

abbrev pub Scalars : List ℕ → Type 0
Scalars [] = Unit
Scalars (n ∷ ns) = Scalar n × Scalars ns

-- a row of the table: the last number that it is for, and the bytes of each
pub record Row : Type 0 where
  pub last : ℕ
  pub bytes : ℕ → List ℕ

abbrev pub row : ℕ → (ℕ → List ℕ) → Row
row last bytes = record { last = last; bytes = bytes }

-- 10xxxxxx: the last six bits
abbrev pub six : ℕ → ℕ
six n = 0x80 + n % 64

abbrev pub table : List Row
table =
    row 0x7F (λ n. n ∷ [])
    ∷ row 0x7FF (λ n. (0xC0 + n / 64) ∷ six n ∷ [])
    ∷ row 0xFFFF (λ n. (0xE0 + n / 64 / 64) ∷ six (n / 64) ∷ six n ∷ [])
    ∷ row 0x10FFFF (λ n. (0xF0 + n / 64 / 64 / 64) ∷ six (n / 64 / 64) ∷ six (n / 64) ∷ six n ∷ [])
    ∷ []

-- by the first row that reaches n; no bytes past the last row
abbrev pub encode_by : List Row → ℕ → List ℕ
encode_by [] n = []
encode_by (r ∷ rs) n = cond (leb n r.last) (r.bytes n) (encode_by rs n)

unfoldable pub encode : ℕ → List ℕ
encode = encode_by table

abbrev pub encode_all : List ℕ → List ℕ
encode_all [] = []
encode_all (n ∷ ns) = encode n ++ encode_all ns

-- these bytes are a text's
pub record Text (bytes : List ℕ) : Type 0 where
  pub scalars : List ℕ
  pub valid : Scalars scalars
  pub encoded : encode_all scalars ≡ bytes

-- what is proved (proofs/Scalars.antt): the grammar accepts exactly the bytes of texts, and no bytes are two texts
pub record Utf8Laws : Type 0 where
  pub utf8-text : (bs : List ℕ) → utf8 bs ≡ true → Text bs
  pub text-utf8 : (bs : List ℕ) → Text bs → utf8 bs ≡ true
  pub one-text : (bs : List ℕ) (s t : Text bs) → s.scalars ≡ t.scalars

-- Unsigned LEB128 as DWARF 5 defines it (section 7.6): seven bits of a number to a byte, the lowest first; the top bit says that a byte follows.
-- Assumes nothing.
use Rattle.std.specs.Prelude.{ℕ, ◌+◌, ◌*◌, ◌%◌, ◌^◌, ◌≤◌, ◌<◌, List, [], ◌∷◌, ◌++◌, ◌≡◌, length}
use Rattle.layout.specs.Read.{value}
use Rattle.layout.specs.Form.{leb128}
use Rattle.layout.specs.RowLaws.{Bytes}

-- an encoding, of any length: each byte but the last has its top bit set
pub data Encoding : List ℕ → Type 0 where
  last : {b : ℕ} → b < 128 → Encoding (b ∷ [])
  more : {b : ℕ} {bs : List ℕ} → 128 ≤ b → b < 256 → Encoding bs → Encoding (b ∷ bs)

-- the number that it stands for
abbrev pub value_of : List ℕ → ℕ
value_of [] = 0
value_of (b ∷ bs) = b % 128 + 128 * value_of bs

-- no encoding of the same number is shorter
pub record Minimal (bs : List ℕ) : Type 0 where
  pub encodes : Encoding bs
  pub shortest : (cs : List ℕ) → Encoding cs → value_of cs ≡ value_of bs → length bs ≤ length cs

-- the row begins with the minimal encoding of n, a number of 32 bits, and `rest` follows it
pub record Accepted (row : List ℕ) (n : ℕ) (rest : List ℕ) : Type 0 where
  pub front : List ℕ
  pub joins : front ++ rest ≡ row
  pub minimal : Minimal front
  pub means : value_of front ≡ n
  pub below : n < 2 ^ 32

-- what is proved (proofs/Dwarf.antt): the reader accepts exactly the minimal encodings of 32-bit numbers, and the printer writes them
pub record LebLaws : Type 0 where
  pub accepted : (row : List ℕ) (n : ℕ) (rest : List ℕ) → Bytes row → leb128.read row ≡ value n rest → Accepted row n rest
  pub read_back : (row : List ℕ) (n : ℕ) (rest : List ℕ) → Accepted row n rest → leb128.read row ≡ value n rest
  pub printed : (n : ℕ) (rest : List ℕ) → n < 2 ^ 32 → Accepted (leb128.print n ++ rest) n rest
  pub one-encoding : {bs cs : List ℕ} → Minimal bs → Minimal cs → value_of bs ≡ value_of cs → bs ≡ cs

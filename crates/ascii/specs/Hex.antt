-- Hexadecimal: bytes as pairs of lowercase digits, read and written, and a field that is bytes.
-- Assumes nothing.
use Rattle.std.specs.Prelude.{ℕ, suc, ◌+◌, ◌-◌, ◌*◌, ◌/◌, ◌%◌, List, [], ◌∷◌, Bool, cond, ◌&&◌, ◌||◌, ◌≡◌, length, get_or, leb, ltb, eqb}
use Rattle.std.proofs.Math.Option.{Option, none, some}
use Rattle.layout.specs.Questions.{BLOB}
use Rattle.layout.specs.Layout.{Answer, accepted, refused_by}
use Rattle.layout.specs.RowLaws.{Bytes}
use Rattle.layout.specs.Write.{refuses, Left, stored}
use Rattle.numbers.specs.Decimal.{is_digit}

-- ---- read
-- `0` to `9`, `a` to `f`
abbrev pub is_hex : ℕ → Bool
is_hex d = is_digit d || (leb 0x61 d && leb d 0x66)

-- what such a digit says
abbrev pub hex_value : ℕ → ℕ
hex_value d = cond (leb d 0x39) (d - 0x30) (d - 0x61 + 10)

-- a byte before those of a blob that is one
abbrev pub with_byte : ℕ → Option (List ℕ) → Option (List ℕ)
with_byte b none = none
with_byte b (some bs) = some (b ∷ bs)

-- the bytes that pairs of digits are, possibly none
unfoldable pub blob_of : List ℕ → Option (List ℕ)
blob_of [] = some []
blob_of (d ∷ []) = none
blob_of (d ∷ e ∷ ds) = cond (is_hex d && is_hex e) (with_byte (hex_value d * 16 + hex_value e) (blob_of ds)) none

-- the same of digits that are known to be pairs (proofs/Blobs.antt)
unfoldable pub unpaired : List ℕ → List ℕ
unpaired [] = []
unpaired (d ∷ []) = []
unpaired (d ∷ e ∷ ds) = (hex_value d * 16 + hex_value e) ∷ unpaired ds

-- how many pairs of digits stand in front
unfoldable pub hex_pairs : List ℕ → ℕ
hex_pairs [] = 0
hex_pairs (d ∷ []) = 0
hex_pairs (d ∷ e ∷ ds) = cond (is_hex d && is_hex e) (suc (hex_pairs ds)) 0

-- ---- written
unfoldable pub hex_digit : ℕ → ℕ
hex_digit d = cond (ltb d 10) (d + 0x30) (d + 0x57)

unfoldable pub pairs_of : List ℕ → List ℕ
pairs_of [] = []
pairs_of (b ∷ bs) = hex_digit (b / 16) ∷ hex_digit (b % 16) ∷ pairs_of bs

-- `-`
abbrev pub DASH : ℕ
DASH = 0x2D

abbrev pub hex_of : List ℕ → List ℕ
hex_of bytes = cond (eqb (length bytes) 0) (DASH ∷ []) (pairs_of bytes)

-- ---- a field that is bytes
abbrev pub dash_of : List ℕ → Bool
dash_of text = eqb (length text) 1 && eqb (get_or text 0 0) DASH

abbrev pub blob_says : Option (List ℕ) → Answer (List ℕ)
blob_says none = refused_by BLOB
blob_says (some bs) = accepted bs

-- `-` is no bytes; an empty field is refused
unfoldable pub bytes_of : List ℕ → Answer (List ℕ)
bytes_of text =
    cond (eqb (length text) 0) (refused_by BLOB)
    (cond (dash_of text) (accepted []) (blob_says (blob_of text)))

abbrev pub keeps : Answer (List ℕ) → List ℕ → Left
keeps (accepted bs) out = stored bs out
keeps (refused_by q) out = record { answer = refuses q; out = out }

-- ---- what is proved of it (proofs/ReadBack.antt)
pub record HexLaws : Type 0 where
  -- what is written is read back, so that a printed row can stand in a script
  pub read_back : (bytes : List ℕ) → Bytes bytes → bytes_of (hex_of bytes) ≡ accepted bytes

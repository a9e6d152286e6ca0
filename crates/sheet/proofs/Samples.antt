-- Sheets at the edges of 41 to 44, by computation. The text of each stands before it.
-- Assumes nothing.
use Prim.Native.Nat.{ℕ}
use mathlib.Core.List.{[], ◌∷◌}
use mathlib.Core.Path.{◌≡◌, refl}
use Rattle.store.specs.declared.Entry.{Entry}
use Rattle.ascii.specs.Decimal as decimals
use Rattle.ascii.specs.Hex as blobs
use Rattle.ascii.specs.Words as words
use Rattle.sheet.specs.Sheet as sheet
use Rattle.sheet.specs.Sheet.{Room, read, refused, sheet_in, sheet_of}

-- six numbers in the order of the records
abbrev entry : (kind id start len msgno version : ℕ) → Entry
entry kind id start len msgno version = record { id = id; start = start; len = len; msgno = msgno; version = version; kind = kind }

abbrev room : (bytes lines : ℕ) → Room
room bytes lines = record { bytes = bytes; lines = lines }

-- ---- a line of each kind
-- D,3,00 LF C,1,3,ff0a LF Q,1,2,3, LF K,7,3,01 LF
kinds : sheet_of (0x44 ∷ 0x2C ∷ 0x33 ∷ 0x2C ∷ 0x30 ∷ 0x30 ∷ 0x0A ∷ 0x43 ∷ 0x2C ∷ 0x31 ∷ 0x2C ∷ 0x33 ∷ 0x2C ∷ 0x66 ∷ 0x66 ∷ 0x30 ∷ 0x61 ∷ 0x0A ∷ 0x51 ∷ 0x2C ∷ 0x31 ∷ 0x2C ∷ 0x32 ∷ 0x2C ∷ 0x33 ∷ 0x2C ∷ 0x0A ∷ 0x4B ∷ 0x2C ∷ 0x37 ∷ 0x2C ∷ 0x33 ∷ 0x2C ∷ 0x30 ∷ 0x31 ∷ 0x0A ∷ []) ≡ read (entry 0 0 0 1 0 3 ∷ entry 1 1 1 2 0 3 ∷ entry 2 1 3 0 2 3 ∷ entry 3 7 3 1 0 3 ∷ []) (0x00 ∷ 0xFF ∷ 0x0A ∷ 0x01 ∷ [])
unfolding words.parted sheet.numbers_of sheet.said_from decimals.decimal_in blobs.blob_of
kinds = refl

-- nothing
no_lines : sheet_of ([]) ≡ read ([]) ([])
unfolding words.parted sheet.numbers_of sheet.said_from decimals.decimal_in blobs.blob_of
no_lines = refl

-- ---- 41: letter, field count, LF
-- LF
empty-line : sheet_of (0x0A ∷ []) ≡ refused 41 1
unfolding words.parted sheet.numbers_of sheet.said_from decimals.decimal_in blobs.blob_of
empty-line = refl

-- D,3,00
no_end : sheet_of (0x44 ∷ 0x2C ∷ 0x33 ∷ 0x2C ∷ 0x30 ∷ 0x30 ∷ []) ≡ refused 41 1
unfolding words.parted sheet.numbers_of sheet.said_from decimals.decimal_in blobs.blob_of
no_end = refl

-- D,3,00 LF K,7,3,
later-no-end : sheet_of (0x44 ∷ 0x2C ∷ 0x33 ∷ 0x2C ∷ 0x30 ∷ 0x30 ∷ 0x0A ∷ 0x4B ∷ 0x2C ∷ 0x37 ∷ 0x2C ∷ 0x33 ∷ 0x2C ∷ []) ≡ refused 41 2
unfolding words.parted sheet.numbers_of sheet.said_from decimals.decimal_in blobs.blob_of
later-no-end = refl

-- E,3, LF
other-letter : sheet_of (0x45 ∷ 0x2C ∷ 0x33 ∷ 0x2C ∷ 0x0A ∷ []) ≡ refused 41 1
unfolding words.parted sheet.numbers_of sheet.said_from decimals.decimal_in blobs.blob_of
other-letter = refl

-- DD,3, LF
two-letters : sheet_of (0x44 ∷ 0x44 ∷ 0x2C ∷ 0x33 ∷ 0x2C ∷ 0x0A ∷ []) ≡ refused 41 1
unfolding words.parted sheet.numbers_of sheet.said_from decimals.decimal_in blobs.blob_of
two-letters = refl

-- ,3, LF
no-letter : sheet_of (0x2C ∷ 0x33 ∷ 0x2C ∷ 0x0A ∷ []) ≡ refused 41 1
unfolding words.parted sheet.numbers_of sheet.said_from decimals.decimal_in blobs.blob_of
no-letter = refl

-- D,3 LF
few-fields : sheet_of (0x44 ∷ 0x2C ∷ 0x33 ∷ 0x0A ∷ []) ≡ refused 41 1
unfolding words.parted sheet.numbers_of sheet.said_from decimals.decimal_in blobs.blob_of
few-fields = refl

-- D,1,3, LF
many-fields : sheet_of (0x44 ∷ 0x2C ∷ 0x31 ∷ 0x2C ∷ 0x33 ∷ 0x2C ∷ 0x0A ∷ []) ≡ refused 41 1
unfolding words.parted sheet.numbers_of sheet.said_from decimals.decimal_in blobs.blob_of
many-fields = refl

-- D,3,00, LF
comma-in-blob : sheet_of (0x44 ∷ 0x2C ∷ 0x33 ∷ 0x2C ∷ 0x30 ∷ 0x30 ∷ 0x2C ∷ 0x0A ∷ []) ≡ refused 41 1
unfolding words.parted sheet.numbers_of sheet.said_from decimals.decimal_in blobs.blob_of
comma-in-blob = refl

-- C,03,0 LF
before-42 : sheet_of (0x43 ∷ 0x2C ∷ 0x30 ∷ 0x33 ∷ 0x2C ∷ 0x30 ∷ 0x0A ∷ []) ≡ refused 41 1
unfolding words.parted sheet.numbers_of sheet.said_from decimals.decimal_in blobs.blob_of
before-42 = refl

-- D,03,0
at-the-end : sheet_of (0x44 ∷ 0x2C ∷ 0x30 ∷ 0x33 ∷ 0x2C ∷ 0x30 ∷ []) ≡ refused 41 1
unfolding words.parted sheet.numbers_of sheet.said_from decimals.decimal_in blobs.blob_of
at-the-end = refl

-- ---- 42: decimals
-- D,0, LF
nought : sheet_of (0x44 ∷ 0x2C ∷ 0x30 ∷ 0x2C ∷ 0x0A ∷ []) ≡ read (entry 0 0 0 0 0 0 ∷ []) ([])
unfolding words.parted sheet.numbers_of sheet.said_from decimals.decimal_in blobs.blob_of
nought = refl

-- D,, LF
no-digits : sheet_of (0x44 ∷ 0x2C ∷ 0x2C ∷ 0x0A ∷ []) ≡ refused 42 1
unfolding words.parted sheet.numbers_of sheet.said_from decimals.decimal_in blobs.blob_of
no-digits = refl

-- D,00, LF
two-noughts : sheet_of (0x44 ∷ 0x2C ∷ 0x30 ∷ 0x30 ∷ 0x2C ∷ 0x0A ∷ []) ≡ refused 42 1
unfolding words.parted sheet.numbers_of sheet.said_from decimals.decimal_in blobs.blob_of
two-noughts = refl

-- D,03, LF
leading-zero : sheet_of (0x44 ∷ 0x2C ∷ 0x30 ∷ 0x33 ∷ 0x2C ∷ 0x0A ∷ []) ≡ refused 42 1
unfolding words.parted sheet.numbers_of sheet.said_from decimals.decimal_in blobs.blob_of
leading-zero = refl

-- D,+1, LF
a-sign : sheet_of (0x44 ∷ 0x2C ∷ 0x2B ∷ 0x31 ∷ 0x2C ∷ 0x0A ∷ []) ≡ refused 42 1
unfolding words.parted sheet.numbers_of sheet.said_from decimals.decimal_in blobs.blob_of
a-sign = refl

-- D, 1, LF
a-blank : sheet_of (0x44 ∷ 0x2C ∷ 0x20 ∷ 0x31 ∷ 0x2C ∷ 0x0A ∷ []) ≡ refused 42 1
unfolding words.parted sheet.numbers_of sheet.said_from decimals.decimal_in blobs.blob_of
a-blank = refl

-- D,4294967295, LF
highest-32 : sheet_of (0x44 ∷ 0x2C ∷ 0x34 ∷ 0x32 ∷ 0x39 ∷ 0x34 ∷ 0x39 ∷ 0x36 ∷ 0x37 ∷ 0x32 ∷ 0x39 ∷ 0x35 ∷ 0x2C ∷ 0x0A ∷ []) ≡ read (entry 0 0 0 0 0 4294967295 ∷ []) ([])
unfolding words.parted sheet.numbers_of sheet.said_from decimals.decimal_in blobs.blob_of
highest-32 = refl

-- D,4294967296, LF
above-32 : sheet_of (0x44 ∷ 0x2C ∷ 0x34 ∷ 0x32 ∷ 0x39 ∷ 0x34 ∷ 0x39 ∷ 0x36 ∷ 0x37 ∷ 0x32 ∷ 0x39 ∷ 0x36 ∷ 0x2C ∷ 0x0A ∷ []) ≡ refused 42 1
unfolding words.parted sheet.numbers_of sheet.said_from decimals.decimal_in blobs.blob_of
above-32 = refl

-- K,18446744073709551615,3, LF
highest-64 : sheet_of (0x4B ∷ 0x2C ∷ 0x31 ∷ 0x38 ∷ 0x34 ∷ 0x34 ∷ 0x36 ∷ 0x37 ∷ 0x34 ∷ 0x34 ∷ 0x30 ∷ 0x37 ∷ 0x33 ∷ 0x37 ∷ 0x30 ∷ 0x39 ∷ 0x35 ∷ 0x35 ∷ 0x31 ∷ 0x36 ∷ 0x31 ∷ 0x35 ∷ 0x2C ∷ 0x33 ∷ 0x2C ∷ 0x0A ∷ []) ≡ read (entry 3 18446744073709551615 0 0 0 3 ∷ []) ([])
unfolding words.parted sheet.numbers_of sheet.said_from decimals.decimal_in blobs.blob_of
highest-64 = refl

-- K,18446744073709551616,3, LF
above-64 : sheet_of (0x4B ∷ 0x2C ∷ 0x31 ∷ 0x38 ∷ 0x34 ∷ 0x34 ∷ 0x36 ∷ 0x37 ∷ 0x34 ∷ 0x34 ∷ 0x30 ∷ 0x37 ∷ 0x33 ∷ 0x37 ∷ 0x30 ∷ 0x39 ∷ 0x35 ∷ 0x35 ∷ 0x31 ∷ 0x36 ∷ 0x31 ∷ 0x36 ∷ 0x2C ∷ 0x33 ∷ 0x2C ∷ 0x0A ∷ []) ≡ refused 42 1
unfolding words.parted sheet.numbers_of sheet.said_from decimals.decimal_in blobs.blob_of
above-64 = refl

-- Q,1,4294967295,3, LF
highest-msgno : sheet_of (0x51 ∷ 0x2C ∷ 0x31 ∷ 0x2C ∷ 0x34 ∷ 0x32 ∷ 0x39 ∷ 0x34 ∷ 0x39 ∷ 0x36 ∷ 0x37 ∷ 0x32 ∷ 0x39 ∷ 0x35 ∷ 0x2C ∷ 0x33 ∷ 0x2C ∷ 0x0A ∷ []) ≡ read (entry 2 1 0 0 4294967295 3 ∷ []) ([])
unfolding words.parted sheet.numbers_of sheet.said_from decimals.decimal_in blobs.blob_of
highest-msgno = refl

-- Q,1,4294967296,3, LF
above-msgno : sheet_of (0x51 ∷ 0x2C ∷ 0x31 ∷ 0x2C ∷ 0x34 ∷ 0x32 ∷ 0x39 ∷ 0x34 ∷ 0x39 ∷ 0x36 ∷ 0x37 ∷ 0x32 ∷ 0x39 ∷ 0x36 ∷ 0x2C ∷ 0x33 ∷ 0x2C ∷ 0x0A ∷ []) ≡ refused 42 1
unfolding words.parted sheet.numbers_of sheet.said_from decimals.decimal_in blobs.blob_of
above-msgno = refl

-- C,1,10000000000, LF
long-number : sheet_of (0x43 ∷ 0x2C ∷ 0x31 ∷ 0x2C ∷ 0x31 ∷ 0x30 ∷ 0x30 ∷ 0x30 ∷ 0x30 ∷ 0x30 ∷ 0x30 ∷ 0x30 ∷ 0x30 ∷ 0x30 ∷ 0x30 ∷ 0x2C ∷ 0x0A ∷ []) ≡ refused 42 1
unfolding words.parted sheet.numbers_of sheet.said_from decimals.decimal_in blobs.blob_of
long-number = refl

-- D,03,0 LF
before-43 : sheet_of (0x44 ∷ 0x2C ∷ 0x30 ∷ 0x33 ∷ 0x2C ∷ 0x30 ∷ 0x0A ∷ []) ≡ refused 42 1
unfolding words.parted sheet.numbers_of sheet.said_from decimals.decimal_in blobs.blob_of
before-43 = refl

-- ---- 43: digit pairs
-- D,3,000 LF
odd-digits : sheet_of (0x44 ∷ 0x2C ∷ 0x33 ∷ 0x2C ∷ 0x30 ∷ 0x30 ∷ 0x30 ∷ 0x0A ∷ []) ≡ refused 43 1
unfolding words.parted sheet.numbers_of sheet.said_from decimals.decimal_in blobs.blob_of
odd-digits = refl

-- D,3,0A LF
uppercase : sheet_of (0x44 ∷ 0x2C ∷ 0x33 ∷ 0x2C ∷ 0x30 ∷ 0x41 ∷ 0x0A ∷ []) ≡ refused 43 1
unfolding words.parted sheet.numbers_of sheet.said_from decimals.decimal_in blobs.blob_of
uppercase = refl

-- D,3,00CR  LF
a-return : sheet_of (0x44 ∷ 0x2C ∷ 0x33 ∷ 0x2C ∷ 0x30 ∷ 0x30 ∷ 0x0D ∷ 0x0A ∷ []) ≡ refused 43 1
unfolding words.parted sheet.numbers_of sheet.said_from decimals.decimal_in blobs.blob_of
a-return = refl

-- D,3,0g LF
behind-f : sheet_of (0x44 ∷ 0x2C ∷ 0x33 ∷ 0x2C ∷ 0x30 ∷ 0x67 ∷ 0x0A ∷ []) ≡ refused 43 1
unfolding words.parted sheet.numbers_of sheet.said_from decimals.decimal_in blobs.blob_of
behind-f = refl

-- ---- 44: with little room
-- D,3,00ff LF
bytes_fit : sheet_in (room 2 9) (0x44 ∷ 0x2C ∷ 0x33 ∷ 0x2C ∷ 0x30 ∷ 0x30 ∷ 0x66 ∷ 0x66 ∷ 0x0A ∷ []) ≡ read (entry 0 0 0 2 0 3 ∷ []) (0x00 ∷ 0xFF ∷ [])
unfolding words.parted sheet.numbers_of sheet.said_from decimals.decimal_in blobs.blob_of
bytes_fit = refl

-- D,3,00ff LF
bytes-over : sheet_in (room 1 9) (0x44 ∷ 0x2C ∷ 0x33 ∷ 0x2C ∷ 0x30 ∷ 0x30 ∷ 0x66 ∷ 0x66 ∷ 0x0A ∷ []) ≡ refused 44 1
unfolding words.parted sheet.numbers_of sheet.said_from decimals.decimal_in blobs.blob_of
bytes-over = refl

-- D,3,00 LF C,1,3,ff LF
sum_fits : sheet_in (room 2 9) (0x44 ∷ 0x2C ∷ 0x33 ∷ 0x2C ∷ 0x30 ∷ 0x30 ∷ 0x0A ∷ 0x43 ∷ 0x2C ∷ 0x31 ∷ 0x2C ∷ 0x33 ∷ 0x2C ∷ 0x66 ∷ 0x66 ∷ 0x0A ∷ []) ≡ read (entry 0 0 0 1 0 3 ∷ entry 1 1 1 1 0 3 ∷ []) (0x00 ∷ 0xFF ∷ [])
unfolding words.parted sheet.numbers_of sheet.said_from decimals.decimal_in blobs.blob_of
sum_fits = refl

-- D,3,00 LF C,1,3,ff00 LF
sum_over : sheet_in (room 2 9) (0x44 ∷ 0x2C ∷ 0x33 ∷ 0x2C ∷ 0x30 ∷ 0x30 ∷ 0x0A ∷ 0x43 ∷ 0x2C ∷ 0x31 ∷ 0x2C ∷ 0x33 ∷ 0x2C ∷ 0x66 ∷ 0x66 ∷ 0x30 ∷ 0x30 ∷ 0x0A ∷ []) ≡ refused 44 2
unfolding words.parted sheet.numbers_of sheet.said_from decimals.decimal_in blobs.blob_of
sum_over = refl

-- D,3,00f LF
odd-over : sheet_in (room 0 9) (0x44 ∷ 0x2C ∷ 0x33 ∷ 0x2C ∷ 0x30 ∷ 0x30 ∷ 0x66 ∷ 0x0A ∷ []) ≡ refused 43 1
unfolding words.parted sheet.numbers_of sheet.said_from decimals.decimal_in blobs.blob_of
odd-over = refl

-- D,3, LF C,1,3, LF
lines_fit : sheet_in (room 9 2) (0x44 ∷ 0x2C ∷ 0x33 ∷ 0x2C ∷ 0x0A ∷ 0x43 ∷ 0x2C ∷ 0x31 ∷ 0x2C ∷ 0x33 ∷ 0x2C ∷ 0x0A ∷ []) ≡ read (entry 0 0 0 0 0 3 ∷ entry 1 1 0 0 0 3 ∷ []) ([])
unfolding words.parted sheet.numbers_of sheet.said_from decimals.decimal_in blobs.blob_of
lines_fit = refl

-- D,3, LF C,1,3, LF
lines-over : sheet_in (room 9 1) (0x44 ∷ 0x2C ∷ 0x33 ∷ 0x2C ∷ 0x0A ∷ 0x43 ∷ 0x2C ∷ 0x31 ∷ 0x2C ∷ 0x33 ∷ 0x2C ∷ 0x0A ∷ []) ≡ refused 44 2
unfolding words.parted sheet.numbers_of sheet.said_from decimals.decimal_in blobs.blob_of
lines-over = refl

-- D,3, LF C,1,3,0 LF
over-asked-first : sheet_in (room 9 1) (0x44 ∷ 0x2C ∷ 0x33 ∷ 0x2C ∷ 0x0A ∷ 0x43 ∷ 0x2C ∷ 0x31 ∷ 0x2C ∷ 0x33 ∷ 0x2C ∷ 0x30 ∷ 0x0A ∷ []) ≡ refused 43 2
unfolding words.parted sheet.numbers_of sheet.said_from decimals.decimal_in blobs.blob_of
over-asked-first = refl

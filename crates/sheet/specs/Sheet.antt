-- The sheet: lines that end in LF, fields between commas, a line for each entry and its row.
-- `D,version,blob`, `C,contact,version,blob`, `Q,contact,msgno,version,blob`, `K,slot,version,blob`.
-- Assumes nothing.
use Rattle.std.specs.Prelude.{ℕ, zero, suc, ◌+◌, ◌-◌, List, [], ◌∷◌, ◌++◌, cond, ◌&&◌, length, get_or, drop, leb, ltb, eqb}
use Rattle.std.proofs.Math.Option.{Option, none, some}
use Rattle.layout.specs.Questions.{LINE, DECIMAL, BLOB, SHEET_SIZE}
use Rattle.numbers.specs.Decimal.{LF, COMMA}
use Rattle.ascii.specs.Decimal.{U32, U64, decimal_in}
use Rattle.ascii.specs.Hex.{blob_of}
use Rattle.ascii.specs.Words.{parted}
use Rattle.store.specs.declared.Entry.{Entry}
use Rattle.store.specs.Kinds.{DEVICE, CONTACT, QUEUED, COURIER}

-- ---- the letter
abbrev pub LETTER_D : ℕ
LETTER_D = 0x44

abbrev pub LETTER_C : ℕ
LETTER_C = 0x43

abbrev pub LETTER_Q : ℕ
LETTER_Q = 0x51

abbrev pub LETTER_K : ℕ
LETTER_K = 0x4B

-- what a line with some letter holds: an entry of this kind, and decimals up to these numbers before the blob
pub record Shape : Type 0 where
  pub kind : ℕ
  pub highest : List ℕ

abbrev pub device_line : Shape
device_line = record { kind = DEVICE; highest = U32 ∷ [] }

abbrev pub contact_line : Shape
contact_line = record { kind = CONTACT; highest = U64 ∷ U32 ∷ [] }

abbrev pub queued_line : Shape
queued_line = record { kind = QUEUED; highest = U64 ∷ U32 ∷ U32 ∷ [] }

abbrev pub courier_line : Shape
courier_line = record { kind = COURIER; highest = U64 ∷ U32 ∷ [] }

abbrev pub shape_of : (letter : List ℕ) → Option Shape
shape_of [] = none
shape_of (b ∷ c ∷ bs) = none
shape_of (b ∷ []) =
    cond (eqb b LETTER_D) (some device_line)
    (cond (eqb b LETTER_C) (some contact_line)
    (cond (eqb b LETTER_Q) (some queued_line)
    (cond (eqb b LETTER_K) (some courier_line)
    none)))

-- ---- a line
pub data LineSays : Type 0 where
  said : (kind : ℕ) → (numbers blob : List ℕ) → LineSays
  refused_by : (number : ℕ) → LineSays

-- a number before others, if all are numbers
abbrev pub and_others : Option ℕ → Option (List ℕ) → Option (List ℕ)
and_others none ns = none
and_others (some n) none = none
and_others (some n) (some ns) = some (n ∷ ns)

-- the decimals, each up to its highest number
unfoldable pub numbers_of : (highest : List ℕ) → List (List ℕ) → Option (List ℕ)
numbers_of [] fields = some []
numbers_of (h ∷ hs) [] = none
numbers_of (h ∷ hs) (f ∷ fs) = and_others (decimal_in h f) (numbers_of hs fs)

-- 43
abbrev pub ask43 : (kind : ℕ) → (numbers : List ℕ) → Option (List ℕ) → LineSays
ask43 kind numbers none = refused_by BLOB
ask43 kind numbers (some blob) = said kind numbers blob

-- 42
abbrev pub ask42 : (kind : ℕ) → (blob : List ℕ) → Option (List ℕ) → LineSays
ask42 kind blob none = refused_by DECIMAL
ask42 kind blob (some numbers) = ask43 kind numbers (blob_of blob)

-- 41: as many fields behind the letter as its decimals and the blob
abbrev pub ask41 : Option Shape → List (List ℕ) → LineSays
ask41 none fields = refused_by LINE
ask41 (some s) fields =
    cond (eqb (length fields) (suc (length s.highest)))
    (ask42 s.kind (get_or fields (length s.highest) []) (numbers_of s.highest fields))
    (refused_by LINE)

abbrev pub of_fields : List (List ℕ) → LineSays
of_fields [] = refused_by LINE
of_fields (letter ∷ fields) = ask41 (shape_of letter) fields

-- a line without its LF
abbrev pub line_of : List ℕ → LineSays
line_of line = of_fields (parted COMMA line)

-- ---- line by line
-- how many blob bytes, and how many lines, there may be
pub record Room : Type 0 where
  pub bytes : ℕ
  pub lines : ℕ

pub data SheetSays : Type 0 where
  read : List Entry → (run : List ℕ) → SheetSays
  -- the question's number, and the line's from 1
  refused : (number line : ℕ) → SheetSays

-- the entry that a line says, whose row starts here in the run. What its kind has no use for is 0
abbrev pub entry_of : (kind : ℕ) → (numbers : List ℕ) → (start len : ℕ) → Entry
entry_of kind numbers start len = record {
  id = cond (eqb kind DEVICE) 0 (get_or numbers 0 0);
  start = start;
  len = len;
  msgno = cond (eqb kind QUEUED) (get_or numbers 1 0) 0;
  version = get_or numbers (length numbers - 1) 0;
  kind = kind;
}

abbrev pub blob_in : LineSays → List ℕ
blob_in (said kind numbers blob) = blob
blob_in (refused_by q) = []

-- an entry and its row before those of later lines
abbrev pub onto : Entry → List ℕ → SheetSays → SheetSays
onto e blob (read es run) = read (e ∷ es) (blob ++ run)
onto e blob (refused q line) = refused q line

-- 44, after the questions of the line: `lines` lines with `used` blob bytes were read before it. `later` is what the lines behind it say
abbrev pub ask44 : Room → (lines used : ℕ) → LineSays → (later : SheetSays) → SheetSays
ask44 room lines used (refused_by q) later = refused q (suc lines)
ask44 room lines used (said kind numbers blob) later =
    cond (leb (used + length blob) room.bytes && ltb lines room.lines)
    (onto (entry_of kind numbers used (length blob)) blob later)
    (refused SHEET_SIZE (suc lines))

-- the part behind the last LF is no line, and must be empty
abbrev pub at_end : (lines : ℕ) → List ℕ → SheetSays
at_end lines [] = read [] []
at_end lines (b ∷ bs) = refused LINE (suc lines)

-- what lines say behind `lines` lines with `used` blob bytes
unfoldable pub said_from : Room → (lines used : ℕ) → List (List ℕ) → SheetSays
said_from room lines used [] = read [] []
said_from room lines used (l ∷ []) = at_end lines l
said_from room lines used (l ∷ m ∷ ls) =
    ask44 room lines used (line_of l) (said_from room (suc lines) (used + length (blob_in (line_of l))) (m ∷ ls))

abbrev pub sheet_in : Room → List ℕ → SheetSays
sheet_in room sheet = said_from room 0 0 (parted LF sheet)

abbrev pub BLOB_BYTES : ℕ
BLOB_BYTES = 61440

abbrev pub LINES : ℕ
LINES = 512

abbrev pub sheet_of : List ℕ → SheetSays
sheet_of sheet = sheet_in (record { bytes = BLOB_BYTES; lines = LINES }) sheet

-- ---- entries as six numbers each
abbrev pub six_of : Entry → List ℕ
six_of e = e.kind ∷ e.id ∷ e.start ∷ e.len ∷ e.msgno ∷ e.version ∷ []

unfoldable pub sixes : List Entry → List ℕ
sixes [] = []
sixes (e ∷ es) = six_of e ++ sixes es

-- the entry that six numbers are
abbrev pub entry_in : List ℕ → Entry
entry_in six = record { id = get_or six 1 0; start = get_or six 2 0; len = get_or six 3 0; msgno = get_or six 4 0; version = get_or six 5 0; kind = get_or six 0 0 }

unfoldable pub entries_in : (lines : ℕ) → (records : List ℕ) → List Entry
entries_in zero records = []
entries_in (suc lines) records = entry_in records ∷ entries_in lines (drop 6 records)

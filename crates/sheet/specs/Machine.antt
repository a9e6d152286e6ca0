-- What one byte of a sheet does to the reader's state, to the run and to the records. That the bytes of a sheet together do what the sheet says is proved
-- (Proved.antt), so this need not be believed.
-- Assumes nothing.
use Rattle.std.specs.Prelude.{ℕ, ◌+◌, ◌-◌, ◌*◌, ◌/◌, ◌%◌, min, List, [], ◌∷◌, cond, ◌&&◌, length, set, leb, ltb, eqb, Result, Ok, Err}
use Rattle.std.proofs.Math.Option.{Option, none, some}
use Rattle.layout.specs.Questions.{LINE, DECIMAL, BLOB, SHEET_SIZE}
use Rattle.numbers.specs.Decimal.{LF, COMMA}
use Rattle.put.specs.Put.{put}
use Rattle.ascii.specs.Decimal.{U32, U64, with_digit}
use Rattle.ascii.specs.Hex.{is_hex, hex_value}
use Rattle.store.specs.Kinds.{QUEUED}
use Rattle.sheet.specs.declared.State.{State}
use Rattle.sheet.specs.declared.Read.{Read}
use Rattle.sheet.specs.declared.Refusal.{Refusal}
use Rattle.sheet.specs.Sheet.{Shape, shape_of, Room, BLOB_BYTES, LINES}

-- ---- where in a line the reader stands
-- before its letter
abbrev pub START : ℕ
START = 0

-- behind its letter
abbrev pub LETTER : ℕ
LETTER = 1

-- before a decimal
abbrev pub FIRST : ℕ
FIRST = 2

-- in a decimal
abbrev pub NUMBER : ℕ
NUMBER = 3

-- in the blob, between pairs
abbrev pub HIGH : ℕ
HIGH = 4

-- in the blob, within a pair
abbrev pub LOW : ℕ
LOW = 5

-- in a line that 42 or 43 refuses, unless 41 does
abbrev pub WAIT : ℕ
WAIT = 6

-- behind a refusal
abbrev pub REFUSED : ℕ
REFUSED = 7

abbrev pub state : (oldest older newest number lines start used kind left digit refusal phase : ℕ) → State
state oldest older newest number lines start used kind left digit refusal phase = record {
  oldest = oldest;
  older = older;
  newest = newest;
  number = number;
  lines = lines;
  start = start;
  used = used;
  kind = kind;
  left = left;
  digit = digit;
  refusal = refusal;
  phase = phase;
}

-- before a line: so many lines and blob bytes were read
abbrev pub at_line : (lines used : ℕ) → State
at_line lines used = state 0 0 0 0 lines used used 0 0 0 0 START

-- in a line that is refused at its end, by this question or by 41; of the line, the decimals to come are kept
abbrev pub waiting : (lines left question : ℕ) → State
waiting lines left q = state 0 0 0 0 lines 0 0 0 left 0 q WAIT

-- behind a refusal of the line that follows so many
abbrev pub stopped : (lines question : ℕ) → State
stopped lines q = state 0 0 0 0 lines 0 0 0 0 0 q REFUSED

abbrev pub refused_for : (question : ℕ) → State → State
refused_for q s = stopped s.lines q

abbrev pub waits_for : (question : ℕ) → State → State
waits_for q s = waiting s.lines s.left q

-- ---- letter, comma, decimal
abbrev pub begun : (kind left : ℕ) → State → State
begun kind left s = state s.oldest s.older s.newest s.number s.lines s.start s.used kind left s.digit s.refusal LETTER

abbrev pub begun_as : Option Shape → State → State
begun_as none s = refused_for LINE s
begun_as (some shape) s = begun shape.kind (length shape.highest) s

-- the highest number of a decimal with so many decimals from it on
abbrev pub highest_at : (kind left : ℕ) → ℕ
highest_at kind left = cond (eqb left 1) U32 (cond (eqb left 2 && eqb kind QUEUED) U32 U64)

abbrev pub numbered : (number : ℕ) → State → State
numbered n s = state s.oldest s.older s.newest n s.lines s.start s.used s.kind s.left s.digit s.refusal NUMBER

abbrev pub grown : Option ℕ → State → State
grown none s = waits_for DECIMAL s
grown (some n) s = numbered n s

unfoldable pub digit_step : ℕ → State → State
digit_step b s = grown (with_digit (highest_at s.kind s.left) s.number b) s

-- no digit stands behind a first 0
unfoldable pub number_step : ℕ → State → State
number_step b s = cond (eqb s.number 0) (waits_for DECIMAL s) (digit_step b s)

-- behind a decimal: the next one, or the blob
abbrev pub taken : State → State
taken s = state s.older s.newest s.number 0 s.lines s.start s.used s.kind (s.left - 1) s.digit s.refusal (cond (eqb s.left 1) HIGH FIRST)

-- the first decimal is to come
abbrev pub lettered : State → State
lettered s = state s.oldest s.older s.newest s.number s.lines s.start s.used s.kind s.left s.digit s.refusal FIRST

unfoldable pub comma_step : State → State
comma_step s =
    cond (eqb s.phase LETTER) (lettered s)
    (cond (eqb s.left 0) (refused_for LINE s)
    (cond (eqb s.phase NUMBER) (taken s) (waiting s.lines (s.left - 1) DECIMAL)))

-- ---- blob
abbrev pub paired : (digit : ℕ) → State → State
paired d s = state s.oldest s.older s.newest s.number s.lines s.start s.used s.kind s.left d s.refusal LOW

unfoldable pub high_step : ℕ → State → State
high_step b s = cond (is_hex b) (paired (hex_value b) s) (waits_for BLOB s)

abbrev pub room_for : (most lent : ℕ) → ℕ
room_for most lent = cond (ltb lent most) lent most

-- the blob bytes and lines that lent lists have room for
abbrev pub bytes_in : (run : List ℕ) → ℕ
bytes_in run = room_for BLOB_BYTES (length run)

abbrev pub lines_in : (records : List ℕ) → ℕ
lines_in records = room_for LINES (length records / 6)

abbrev pub room_of : (run records : List ℕ) → Room
room_of run records = record { bytes = bytes_in run; lines = lines_in records }

-- so many blob bytes; one more than there is room for stands for any more
abbrev pub used_one : (room used : ℕ) → ℕ
used_one room used = cond (ltb used room) (used + 1) (room + 1)

abbrev pub stored_one : (room used v : ℕ) → List ℕ → List ℕ
stored_one room used v run = cond (ltb used room) (set run used v) run

abbrev pub stored_to : (used : ℕ) → State → State
stored_to used s = state s.oldest s.older s.newest s.number s.lines s.start used s.kind s.left 0 s.refusal HIGH

unfoldable pub low_step : (room : ℕ) → ℕ → State → State
low_step room b s = cond (is_hex b) (stored_to (used_one room s.used) s) (waits_for BLOB s)

unfoldable pub low_run : (room : ℕ) → ℕ → State → List ℕ → List ℕ
low_run room b s run = cond (is_hex b) (stored_one room s.used (s.digit % 16 * 16 + hex_value b) run) run

-- ---- LF
abbrev pub id_in : State → ℕ
id_in s = cond (eqb s.kind QUEUED) s.oldest s.older

abbrev pub msgno_in : State → ℕ
msgno_in s = cond (eqb s.kind QUEUED) s.older 0

abbrev pub six : State → List ℕ
six s = s.kind ∷ id_in s ∷ s.start ∷ (s.used - s.start) ∷ msgno_in s ∷ s.newest ∷ []

unfoldable pub closed : (bytes lines : ℕ) → State → State
closed bytes lines s = cond (leb s.used bytes && ltb s.lines lines) (at_line (s.lines + 1) s.used) (refused_for SHEET_SIZE s)

unfoldable pub closed_records : (bytes lines : ℕ) → State → List ℕ → List ℕ
closed_records bytes lines s records = cond (leb s.used bytes && ltb s.lines lines) (put records (6 * s.lines) (six s)) records

unfoldable pub end_step : (bytes lines : ℕ) → State → State
end_step bytes lines s =
    cond (eqb s.phase HIGH) (closed bytes lines s)
    (cond (eqb s.phase LOW) (refused_for BLOB s)
    (cond (eqb s.phase WAIT && eqb s.left 0) (refused_for s.refusal s)
    (refused_for LINE s)))

unfoldable pub end_records : (bytes lines : ℕ) → State → List ℕ → List ℕ
end_records bytes lines s records = cond (eqb s.phase HIGH) (closed_records bytes lines s records) records

-- ---- any byte
-- a byte that is no LF, no comma and in no blob
unfoldable pub other_step : ℕ → State → State
other_step b s =
    cond (eqb s.phase NUMBER) (number_step b s)
    (cond (eqb s.phase FIRST) (digit_step b s)
    (cond (eqb s.phase START) (begun_as (shape_of (b ∷ [])) s)
    (cond (eqb s.phase WAIT) s (refused_for LINE s))))

pub data Held : Type 0 where
  held : State → (run records : List ℕ) → Held

unfoldable pub stepped : ℕ → Held → Held
stepped b (held s run records) =
    let bytes = bytes_in run in
    let lines = lines_in records in
    cond (eqb s.phase REFUSED) (held s run records)
    (cond (eqb b LF) (held (end_step bytes lines s) run (end_records bytes lines s records))
    (cond (eqb b COMMA) (held (comma_step s) run records)
    (cond (eqb s.phase HIGH) (held (high_step b s) run records)
    (cond (eqb s.phase LOW) (held (low_step bytes b s) (low_run bytes b s run) records)
    (held (other_step b s) run records)))))

unfoldable pub fed : List ℕ → Held → Held
fed [] h = h
fed (b ∷ bs) h = fed bs (stepped b h)

-- ---- the end of the sheet
abbrev pub Answer : Type 0
Answer = Result Read Refusal

-- so many lines and blob bytes were read; this question refuses this line, the first of which is 1
abbrev pub reads : (lines bytes : ℕ) → Answer
reads lines bytes = Ok (record { lines = lines; bytes = bytes })

abbrev pub refuses : (question line : ℕ) → Answer
refuses q line = Err (record { number = q; line = line })

unfoldable pub answer_of : State → Answer
answer_of s =
    cond (eqb s.phase START) (reads s.lines s.used)
    (cond (eqb s.phase REFUSED) (refuses s.refusal (min s.lines LINES + 1)) (refuses LINE (min s.lines LINES + 1)))

abbrev pub state_in : Held → State
state_in (held s run records) = s

abbrev pub run_in : Held → List ℕ
run_in (held s run records) = run

abbrev pub records_in : Held → List ℕ
records_in (held s run records) = records

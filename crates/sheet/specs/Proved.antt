-- What is proved of sheets, and of the machine that reads a sheet byte by byte (proofs/Proved.antt).
-- Assumes nothing.
use Rattle.std.specs.Prelude.{ℕ, ◌+◌, ◌*◌, ◌≤◌, List, [], ◌∷◌, ◌++◌, ◌≡◌, length, drop}
use Rattle.layout.specs.RowLaws.{Bytes}
use Rattle.numbers.specs.Decimal.{LF}
use Rattle.ascii.specs.Decimal.{U32, U64}
use Rattle.ascii.specs.Words.{parted}
use Rattle.store.specs.declared.Entry.{Entry}
use Rattle.store.specs.Kinds.{COURIER}
use Rattle.sheet.specs.Sheet.{Room, SheetSays, read, refused, said_from, sheet_in, sheet_of, BLOB_BYTES, LINES, sixes, entries_in}
use Rattle.sheet.specs.Machine.{at_line, room_of, Held, held, state_in, run_in, records_in, fed, reads, refuses, answer_of}

-- ---- what a sheet says
-- no number is wider than its field, and the row stands within the run
pub record EntryFits (size : ℕ) (e : Entry) : Type 0 where
  pub kind-known : e.kind ≤ COURIER
  pub id-fits : e.id ≤ U64
  pub msgno-fits : e.msgno ≤ U32
  pub version-fits : e.version ≤ U32
  pub inside : e.start + e.len ≤ size

abbrev pub AllFit : (size : ℕ) → List Entry → Type 0
AllFit size [] = Unit {0}
AllFit size (e ∷ es) = EntryFits size e × AllFit size es

pub record Fits (room : Room) (es : List Entry) (run : List ℕ) : Type 0 where
  pub few_bytes : length run ≤ room.bytes
  pub few-lines : length es ≤ room.lines
  pub entries_fit : AllFit (length run) es
  pub run-bytes : Bytes run

-- entries and a run before what is said behind them
abbrev pub onto_all : List Entry → List ℕ → SheetSays → SheetSays
onto_all es run (read fs more) = read (es ++ fs) (run ++ more)
onto_all es run (refused q line) = refused q line

pub record SaidLaws : Type 0 where
  pub fits : (room : Room) (sheet : List ℕ) (es : List Entry) (run : List ℕ) → sheet_in room sheet ≡ read es run → Fits room es run
  -- of lines that were read, nothing but how many lines and blob bytes they are matters to what comes behind them
  pub later : (room : Room) (a b : List ℕ) (es : List Entry) (run : List ℕ) → sheet_in room a ≡ read es run
      → sheet_in room (a ++ b) ≡ onto_all es run (said_from room (length es) (length run) (parted LF b))

-- ---- a sheet read byte by byte
-- the answer, the run and the records afterwards: what is read stands in front, and all behind it stays as it was
pub record WholeRead (run records : List ℕ) (es : List Entry) (blob : List ℕ) (h : Held) : Type 0 where
  pub answered : answer_of (state_in h) ≡ reads (length es) (length blob)
  pub run_is : run_in h ≡ blob ++ drop (length blob) run
  pub records-are : records_in h ≡ sixes es ++ drop (6 * length es) records
  pub entries-are : entries_in (length es) (records_in h) ≡ es

abbrev pub Leaves : (run records : List ℕ) → SheetSays → Held → Type 0
Leaves run records (read es blob) h = WholeRead run records es blob h
Leaves run records (refused q line) h = answer_of (state_in h) ≡ refuses q line

-- whatever was fed, no byte and no place outside the largest room has changed
pub record Kept (before after : Held) : Type 0 where
  pub run_long : length (run_in after) ≡ length (run_in before)
  pub run-behind : drop BLOB_BYTES (run_in after) ≡ drop BLOB_BYTES (run_in before)
  pub records-long : length (records_in after) ≡ length (records_in before)
  pub records-behind : drop (6 * LINES) (records_in after) ≡ drop (6 * LINES) (records_in before)

abbrev pub in_chunks : List (List ℕ) → Held → Held
in_chunks [] h = h
in_chunks (c ∷ cs) h = in_chunks cs (fed c h)

abbrev pub whole : List (List ℕ) → List ℕ
whole [] = []
whole (c ∷ cs) = c ++ whole cs

pub record MachineLaws : Type 0 where
  pub reads : (sheet run records : List ℕ) → Leaves run records (sheet_in (room_of run records) sheet) (fed sheet (held (at_line 0 0) run records))
  -- lent lists that are long enough leave the room that the questions give
  pub full-room : (sheet run records : List ℕ) → BLOB_BYTES ≤ length run → 6 * LINES ≤ length records → sheet_in (room_of run records) sheet ≡ sheet_of sheet
  pub chunked : (chunks : List (List ℕ)) (h : Held) → in_chunks chunks h ≡ fed (whole chunks) h
  pub kept : (bs : List ℕ) (h : Held) → Kept h (fed bs h)

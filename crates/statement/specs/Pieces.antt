-- What the program reads of its input, and what it leaves to be printed: the text of all that was read, whatever pieces it came in.
-- Assumes nothing.
use Rattle.std.specs.Prelude.{ℕ, ◌-◌, ◌^◌, ◌≤◌, min, List, [], map, Bool, true, cond, ◌≡◌, length, take, ltb, Option, Some, None, is_none, unwrap_or, Result}
use Rattle.layout.specs.declared.question.Question.{Question}
use Rattle.layout.specs.Says.{leaves}
use Rattle.layout.specs.Write.{Left, stored, wrote}
use Rattle.rows.specs.Checks.{all, any}
use Rattle.sheet.specs.Machine.{Held, held, at_line, fed, run_in, records_in}
use Rattle.sheet.specs.Proved.{in_chunks, whole}
use Rattle.statement_text.specs.Text.{sheet_text}
use Rattle.statement.specs.declared.Reading.{Reading}

-- ---- what a read that is handed n bytes may answer: how many bytes it put there, at most n; nothing where it failed
abbrev pub Moved : ℕ → Option ℕ → Type 0
Moved n None = Unit {0}
Moved n (Some k) = k ≤ n

-- ---- one read: what it answered, and the buffer as it left it
pub record Piece : Type 0 where
  pub got : Option ℕ
  pub buffer : List ℕ

abbrev pub count_of : Piece → ℕ
count_of p = min (unwrap_or p.got 0) (length p.buffer)

-- the bytes that were read
abbrev pub bytes_of : Piece → List ℕ
bytes_of p = take (count_of p) p.buffer

-- behind no bytes there is no more
abbrev pub has_bytes : Piece → Bool
has_bytes p = ltb 0 (count_of p)

abbrev pub has_failed : Piece → Bool
has_failed p = is_none p.got

abbrev pub held_by : Reading → (run records : List ℕ) → Held
held_by r run records = held r.state run records

-- once it is read: its bytes are fed to the machine of the sheet
pub record Taken (p : Piece) (before : Held) (r : Reading) (run records : List ℕ) : Type 0 where
  pub fed-is : held_by r run records ≡ fed (bytes_of p) before
  pub more-is : r.more ≡ has_bytes p
  pub failed-is : r.failed ≡ has_failed p

-- whatever the read answered
pub record ReadOne (buffer : List ℕ) (before : Held) (r : Reading) (run records : List ℕ) : Type 0 where
  pub got : Option ℕ
  pub moved : Moved (length buffer) got
  pub taken : Taken (record { got = got; buffer = buffer }) before r run records

-- ---- the whole input: reads up to one of no bytes, or as many as no run has
abbrev pub Ended : List Piece → Type 0
Ended ps = all has_bytes ps ≡ true → length ps ≡ 2 ^ 64 - 1

abbrev pub fed_by : List Piece → (run records : List ℕ) → Held
fed_by ps run records = in_chunks (map bytes_of ps) (held (at_line 0 0) run records)

pub record ReadAll (run₀ records₀ : List ℕ) (r : Reading) (run records : List ℕ) : Type 0 where
  pub pieces : List Piece
  pub ended : Ended pieces
  pub fed-are : held_by r run records ≡ fed_by pieces run₀ records₀
  pub failed-is : r.failed ≡ any has_failed pieces

-- ---- what is printed: the text of all that was read; nothing where a read failed
abbrev pub printed : List Piece → List ℕ
printed ps = cond (any has_failed ps) [] (sheet_text (whole (map bytes_of ps)))

-- the text as it is left: as it was, where there is none to be printed
abbrev pub text_left : Option (Result ℕ Question) → List ℕ → Left
text_left None text = record { answer = wrote 0; out = text }
text_left (Some w) text = leaves w text

pub record Reports (run₀ records₀ text₀ : List ℕ) (reported : Option (Result ℕ Question)) (run records text : List ℕ) : Type 0 where
  pub pieces : List Piece
  pub ended : Ended pieces
  pub run_is : run ≡ run_in (fed_by pieces run₀ records₀)
  pub records-are : records ≡ records_in (fed_by pieces run₀ records₀)
  pub text-is : text_left reported text ≡ stored (printed pieces) text₀
  pub failed-is : is_none reported ≡ any has_failed pieces

-- The lines of a granted store as they are written: entry by entry. That they make up the text is proved
-- (proofs/Lines.antt), so this need not be believed.
-- Assumes nothing.
use Rattle.std.specs.Prelude.{ℕ, ◌+◌, ◌≤◌, List, [], ◌∷◌, ◌++◌, cond, ◌≡◌, length, take, eqb, Option, Some, None}
use Rattle.layout.specs.Layout.{Answer, accepted, refused_by, read_row}
use Rattle.rows.specs.Values.{Contact}
use Rattle.rows.specs.Rows as rows
use Rattle.numbers.specs.Sets.{size, size_from}
use Rattle.store.specs.declared.Entry.{Entry}
use Rattle.store.specs.Kinds.{CONTACT}
use Rattle.store.specs.Store.{part_of}
use Rattle.numbers.specs.Decimal.{fields_text}
use Rattle.store.specs.Line.{line_of, queued_of, LETTER_S}
use Rattle.statement_text.specs.declared.Measured.{Measured}

-- ---- the line of an entry, or nothing
abbrev pub row_text : (id queued : ℕ) → Answer Contact → List ℕ
row_text id queued (accepted v) =
    line_of id v.sent_msgno v.peer_acked v.contiguous (size v.above) queued (size_from (v.peer_acked + 1) v.expired)
row_text id queued (refused_by q) = []

abbrev pub row_count : Answer Contact → ℕ
row_count (accepted v) = 1
row_count (refused_by q) = 0

abbrev pub contact_answer : (run : List ℕ) → Entry → Answer Contact
contact_answer run e = read_row (rows.contact e.version) (part_of run e)

unfoldable pub entry_text : (run : List ℕ) → (queued : ℕ) → Entry → List ℕ
entry_text run queued e = cond (eqb e.kind CONTACT) (row_text e.id queued (contact_answer run e)) []

unfoldable pub entry_count : (run : List ℕ) → Entry → ℕ
entry_count run e = cond (eqb e.kind CONTACT) (row_count (contact_answer run e)) 0

-- the lines of these entries, of all
unfoldable pub lines_from : (run : List ℕ) → (all : List Entry) → List Entry → List ℕ
lines_from run all [] = []
lines_from run all (e ∷ es) = entry_text run (queued_of e.id all) e ++ lines_from run all es

unfoldable pub count_from : (run : List ℕ) → List Entry → ℕ
count_from run [] = 0
count_from run (e ∷ es) = entry_count run e + count_from run es

-- the most bytes that a text has: those of 512 lines for contacts, and of a last one
abbrev pub TEXT_BYTES : ℕ
TEXT_BYTES = 76949

-- ---- lines as their numbers
-- the first `count` of seven numbers, a comma before each, and LF
abbrev pub fields_of : (fields : List ℕ) → (count : ℕ) → List ℕ
fields_of fields count = fields_text (take count fields)

-- of a line's numbers, or of none
abbrev pub text_in : Option (List ℕ) → List ℕ
text_in None = []
text_in (Some fields) = LETTER_S ∷ fields_of fields 7

abbrev pub count_in : Option (List ℕ) → ℕ
count_in None = 0
count_in (Some fields) = 1

-- what a row's line, or none, is
pub record Lined (text : List ℕ) (count : ℕ) (l : Option (List ℕ)) : Type 0 where
  pub text-is : text_in l ≡ text
  pub count-is : count_in l ≡ count

pub record Measures (run : List ℕ) (es : List Entry) (m : Measured) : Type 0 where
  pub long : m.len ≡ length (lines_from run es es)
  pub many : m.contacts ≡ count_from run es
  pub short : m.len ≤ 76800

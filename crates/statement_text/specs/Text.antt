-- The text that the program `statement` prints: of a store, and of a sheet.
-- Assumes nothing.
use Rattle.std.specs.Prelude.{ℕ, suc, ◌+◌, List, [], ◌∷◌, ◌++◌, cond, length, eqb}
use Rattle.numbers.specs.Sets.{size, size_from}
use Rattle.store.specs.declared.Entry.{Entry}
use Rattle.store.specs.Kinds.{QUEUED, COURIER}
use Rattle.store.specs.Store.{store_of, ContactRow, Outcome, granted, refused, restore}
use Rattle.numbers.specs.Decimal.{fields_text}
use Rattle.store.specs.Line.{line_of, queued_of}
use Rattle.sheet.specs.Sheet as sheet
use Rattle.sheet.specs.Sheet.{SheetSays, sheet_of}

abbrev pub LETTER_T : ℕ
LETTER_T = 0x54

abbrev pub LETTER_R : ℕ
LETTER_R = 0x52

abbrev pub LETTER_X : ℕ
LETTER_X = 0x58

-- `S,contact,sent,acked,contiguous,beyond,queued,expired`: beyond counts the numbers above contiguous in the ranges above it, expired
-- the numbers above peer_acked in the expired ranges (document 02, A5)
abbrev pub contact_line : List Entry → ContactRow → List ℕ
contact_line es c =
    let v = c.fields in
    line_of c.id v.sent_msgno v.peer_acked v.contiguous (size v.above) (queued_of c.id es) (size_from (v.peer_acked + 1) v.expired)

unfoldable pub contact_lines : List Entry → List ContactRow → List ℕ
contact_lines es [] = []
contact_lines es (c ∷ cs) = contact_line es c ++ contact_lines es cs

-- how many entries are of this kind
unfoldable pub how_many : (kind : ℕ) → List Entry → ℕ
how_many kind [] = 0
how_many kind (e ∷ es) = cond (eqb e.kind kind) (suc (how_many kind es)) (how_many kind es)

-- `T,contacts,queued,held,next_slot`: held are the courier rows
abbrev pub last_line : (contacts : ℕ) → List Entry → (next_slot : ℕ) → List ℕ
last_line contacts es next_slot = LETTER_T ∷ fields_text (contacts ∷ how_many QUEUED es ∷ how_many COURIER es ∷ next_slot ∷ [])

-- a line for each contact in entry order, then T; on a refusal only `R,number,entry`
abbrev pub text_after : List Entry → Outcome → List ℕ
text_after es (granted f) = contact_lines es f.contacts ++ last_line (length f.contacts) es f.next_slot
text_after es (refused number entry) = LETTER_R ∷ fields_text (number ∷ entry ∷ [])

unfoldable pub text_of : (run : List ℕ) → List Entry → List ℕ
text_of run es = text_after es (restore (store_of run es))

-- of a sheet; where 41 to 44 refuse it, `X,number,line`
abbrev pub said_text : SheetSays → List ℕ
said_text (sheet.read es run) = text_of run es
said_text (sheet.refused number line) = LETTER_X ∷ fields_text (number ∷ line ∷ [])

unfoldable pub sheet_text : (sheet : List ℕ) → List ℕ
sheet_text sheet = said_text (sheet_of sheet)

-- The line of a statement: `S,contact,sent,acked,contiguous,beyond,queued,expired` with its LF.
-- Assumes nothing.
use Rattle.std.specs.Prelude.{ℕ, suc, List, [], ◌∷◌, cond}
use Rattle.numbers.specs.Decimal.{fields_text}
use Rattle.store.specs.declared.Entry.{Entry}
use Rattle.store.specs.Kinds.{QUEUED}
use Rattle.store.specs.Store.{is_of}

-- `S`
abbrev pub LETTER_S : ℕ
LETTER_S = 0x53

-- the line of these numbers
abbrev pub line_text : List ℕ → List ℕ
line_text ns = LETTER_S ∷ fields_text ns

unfoldable pub line_of : (contact sent acked contiguous beyond queued expired : ℕ) → List ℕ
line_of contact sent acked contiguous beyond queued expired = line_text (contact ∷ sent ∷ acked ∷ contiguous ∷ beyond ∷ queued ∷ expired ∷ [])

-- the contact's queued rows
abbrev pub queued_of : (contact : ℕ) → List Entry → ℕ
queued_of k [] = 0
queued_of k (e ∷ es) = cond (is_of QUEUED k e) (suc (queued_of k es)) (queued_of k es)

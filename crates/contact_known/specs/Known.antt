-- What is said of a field, and of a contact row, once it is known to be read.
-- Assumes nothing.
use Rattle.std.specs.Prelude.{ℕ, ◌+◌, ◌≤◌, List, Bool, cond, ◌≡◌, Result, Ok, length}
use Rattle.layout.specs.declared.question.Question.{Question}
use Rattle.layout.specs.Form.{Form, flag}
use Rattle.layout.specs.Field.{takes, read_at}
use Rattle.layout.specs.Layout.{group, accepted, read_row}
use Rattle.rows.specs.Values.{Contact}
use Rattle.rows.specs.Rows.{contact}
use Rattle.contact_lists.specs.declared.ListAt.{ListAt}
use Rattle.contact_parts.specs.Parts.{Numbers, numbers}
use Rattle.contact_parts.specs.Offsets.{numbers_at}
use Rattle.contact.specs.Check.{contact_at}
use Rattle.contact.specs.declared.ContactAt.{ContactAt}
use Rattle.contact_known.specs.declared.SentAt.{SentAt}

-- if a field of this form is read at a position, it ends at r
abbrev pub EndsAt : {B : Type 0} → Form B → (row : List ℕ) → (at : ℕ) → Result ℕ Question → Type 0
EndsAt {B} f row at r = (b : B) (next : ℕ) → read_at f row at ≡ takes b next → r ≡ Ok next

-- if a flag is read at a position, and n bytes behind it where it is 1, these end at r
abbrev pub EndsBehindFlag : (n : ℕ) → (row : List ℕ) → (at : ℕ) → Result ℕ Question → Type 0
EndsBehindFlag n row at r = (t : Bool) (next : ℕ) → read_at flag row at ≡ takes t next → cond t (next + n) next ≤ length row → r ≡ Ok (cond t (next + n) next)

-- if the fields from peer_acked on are read at a position, their unacked numbers stand there
abbrev pub UnackedAt : (row : List ℕ) → (at : ℕ) → Result ListAt Question → Type 0
UnackedAt row at r = (n : Numbers) (next : ℕ) → read_at (group numbers) row at ≡ takes n next → r ≡ Ok (numbers_at at n).unacked

-- the few places of a contact row that a queued row is asked about
abbrev pub sent_at : ContactAt → SentAt
sent_at at = record { unacked = at.numbers.unacked; sent_msgno = at.keys.sent_msgno }

-- these are the row's, if it is accepted
abbrev pub Sent : (row : List ℕ) → SentAt → Type 0
Sent row r = (version : ℕ) (v : Contact) → read_row (contact version) row ≡ accepted v → r ≡ sent_at (contact_at version v)

abbrev pub SentIfKnown : (row : List ℕ) → Result SentAt Question → Type 0
SentIfKnown row r = (version : ℕ) (v : Contact) → read_row (contact version) row ≡ accepted v → r ≡ Ok (sent_at (contact_at version v))

-- A call by value, its answer and what it leaves, in the words of the ledger; what a call has to know of the store; and what a step leaves.
-- Assumes nothing.
use Rattle.std.specs.Prelude.{ℕ, List, Bool, true, false, Result, Ok, Err, cond, ◌≡◌, take}
use Rattle.layout.specs.declared.question.Question.{Question}
use Rattle.layout.specs.declared.question.Question.TheVariants as question
use Rattle.layout.specs.Layout as row
use Rattle.layout.specs.Write as writer
use Rattle.rows.specs.declared.ContactId.{ContactId}
use Rattle.contact.specs.Contact.{Lists}
use Rattle.contact.specs.declared.Contact.{Contact}
use Rattle.contact_image.specs.Row.{writes_contact, ContactTyped, ListsTyped}
use Rattle.store.specs.declared.Entry.{Entry}
use Rattle.store.specs.Store.{store_passes}
use Rattle.store.specs.Line.{queued_of}
use Rattle.calls_find.specs.Sought.{sought_in}
use Rattle.calls_step.specs.declared.Mark.{Mark}
use Rattle.calls_step.specs.declared.Mark.TheVariants.{Fresh, Restored, Opened}
use Rattle.ledger.specs.Call as ledger
use Rattle.ledger.specs.Call.{granted, advanced, truth, number, wrote, said, refused}
use Rattle.calls_step.specs.Input as hands
use Rattle.calls_step.specs.Input.{Input, leaves}
use Rattle.calls_step.specs.Step.{passes, above_as}
use Rattle.calls_open.specs.declared.Answer.{Answer}
use Rattle.calls_open.specs.declared.Answer.TheVariants as answer
use Rattle.calls_open.specs.declared.Left.{Left}
use Rattle.calls_open.specs.Calls.{Outcome, outcome_of, left, contains_says, covers_says, cover_leaves, cover_list, take_leaves, line_says, row_says, line_left, open_leaves, open_lists}
use Rattle.calls_dispatch.specs.declared.Call.{Call}
use Rattle.calls_dispatch.specs.declared.Call.TheVariants.{Open, Cover, Contains, Covers, Take, Statement, Write}
use Rattle.calls_dispatch.specs.declared.Facts.{Facts}

-- ---- a call by value, its answer, and what it leaves
abbrev pub call_of : Call → ledger.Call
call_of (Open id) = ledger.opens id.0
call_of (Cover f t) = ledger.cover f t
call_of (Contains n) = ledger.contains n
call_of (Covers f t) = ledger.covers f t
call_of Take = ledger.take
call_of Statement = ledger.statement
call_of Write = ledger.write

-- the line that is said stands at the front of the output
abbrev pub says : row.Answer Answer → (out : List ℕ) → ledger.Answer
says (row.accepted answer.Yes) out = granted
says (row.accepted (answer.Advanced b n)) out = advanced b n
says (row.accepted (answer.Truth b)) out = truth b
says (row.accepted (answer.Number n)) out = number n
says (row.accepted (answer.Wrote n)) out = wrote n
says (row.accepted (answer.Said n)) out = said n (take n out)
says (row.refused_by q) out = refused q

abbrev pub input_of : Mark → (run : List ℕ) → List Entry → Contact → Lists → (out : List ℕ) → Input
input_of m run es c l out = record { mark = m; run = run; entries = es; contact = c; lists = l; out = out }

-- ... of what was handed in: the store stays, and lists and output stand as they are now
abbrev pub standing : Outcome → Input → Lists → (out : List ℕ) → hands.Left
standing r h l out = leaves (says r.answer out) (input_of r.mark h.run h.entries r.contact l out)

abbrev pub left_of : Left Question → Input → Lists → (out : List ℕ) → hands.Left
left_of r h l out = standing (outcome_of r) h l out

-- ---- what a call has to know of the store
-- by whether a contact is to be opened, or is open
abbrev pub by_open : {A : Type 0} → (ContactId → A) → A → Call → A
by_open opening others (Open id) = opening id
by_open opening others (Cover f t) = others
by_open opening others (Contains n) = others
by_open opening others (Covers f t) = others
by_open opening others Take = others
by_open opening others Statement = others
by_open opening others Write = others

-- 34, for the calls on an open contact
abbrev pub passed_on : Mark → Input → Bool
passed_on Fresh h = false
passed_on Restored h = false
passed_on (Opened id) h = passes id.0 h

-- for open
abbrev pub store_passed : Mark → Input → Bool
store_passed Fresh h = false
store_passed Restored h = store_passes h.run h.entries
store_passed (Opened id) h = store_passes h.run h.entries

abbrev pub passed_for : Call → Mark → Input → Bool
passed_for c m h = by_open (λ id. store_passed m h) (passed_on m h) c

abbrev pub gate_of : (passed : Bool) → Result (Unit {0}) Question
gate_of passed = cond passed (Ok tt) (Err question.Store)

-- the open contact; where none is open, 34 is a no before anything is asked of it
abbrev pub id_in : Mark → ContactId
id_in Fresh = record { 0 = 0 }
id_in Restored = record { 0 = 0 }
id_in (Opened id) = id

-- whose row is sought
abbrev pub id_for : Call → Mark → ContactId
id_for c m = by_open (λ id. id) (id_in m) c

-- whether it has to know how many of the contact's rows are queued
abbrev pub counts_queued : Call → Bool
counts_queued (Open id) = false
counts_queued (Cover f t) = false
counts_queued (Contains n) = false
counts_queued (Covers f t) = false
counts_queued Take = false
counts_queued Statement = true
counts_queued Write = false

-- the facts are right of what is handed in
pub record OfStore (c : Call) (h : Input) (k : Facts Question) : Type 0 where
  pub gate : k.gate ≡ gate_of (passed_for c h.mark h)
  pub which : k.id ≡ id_for c h.mark
  pub row : k.sought ≡ sought_in h.entries k.id.0
  pub count : k.queued ≡ cond (counts_queued c) (queued_of k.id.0 h.entries) 0

-- ---- what a step leaves: by value, in the lists and in the output
pub record Done : Type 0 where
  pub left : Outcome
  pub lists : Lists
  pub out : List ℕ

abbrev pub done : Outcome → Lists → (out : List ℕ) → Done
done r l out = record { left = r; lists = l; out = out }

abbrev pub done_by : (writer.Written → row.Answer Answer) → Contact → Mark → Lists → writer.Left → Done
done_by say c m l w = done (left c m (say w.answer)) l w.out

-- the call's part
abbrev pub acted : {R : Type 0} → Call → Facts R → Mark → (run : List ℕ) → Contact → Lists → (out : List ℕ) → Done
acted (Open id) k m run c l out = done (open_leaves k.sought k.id m c run l) (open_lists k.sought run l) out
acted (Cover f t) k m run c l out = done (cover_leaves c m l.above f t) (above_as (cover_list c l.above f t) l) out
acted (Contains n) k m run c l out = done (left c m (contains_says c l.above n)) l out
acted (Covers f t) k m run c l out = done (left c m (covers_says c l.above f t)) l out
acted Take k m run c l out = done (take_leaves c m) l out
acted Statement k m run c l out = done_by line_says c m l (line_left k.id c k.queued l.above l.expired out)
acted Write k m run c l out = done_by row_says c m l (writes_contact c l out)

-- a no before it is the answer, and changes nothing
abbrev pub dispatched : {R : Type 0} → (numbered : R → ℕ) → Result (Unit {0}) R → Call → Facts R → Mark → (run : List ℕ) → Contact → Lists → (out : List ℕ) → Done
dispatched numbered (Ok u) call k m run c l out = acted call k m run c l out
dispatched numbered (Err r) call k m run c l out = done (left c m (row.refused_by (numbered r))) l out

-- ... and what the types say of the fields and their lists
pub record Stepped {R : Type 0} (numbered : R → ℕ) (call : Call) (k : Facts R) (m : Mark) (run : List ℕ) (c : Contact) (l : Lists) (out : List ℕ) (d : Done) : Type 0 where
  pub is : d ≡ dispatched numbered k.gate call k m run c l out
  pub contact : ContactTyped c
  pub lists : ListsTyped l

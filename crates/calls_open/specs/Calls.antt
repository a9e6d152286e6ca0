-- What the part of each call leaves once the questions before it are a yes, in the words of calls_step/specs/Step.antt and in document 01's order.
-- Assumes nothing.
use Rattle.std.specs.Prelude.{ℕ, ◌+◌, ◌-◌, ◌^◌, min, List, cond, ◌≡◌, length, ltb, Option, Some, None}
use Rattle.layout.specs.declared.question.Question.{Question}
use Rattle.layout.specs.Questions.{number_of, CONTACT_STORED, RANGE, MSGNO_LEFT}
use Rattle.layout.specs.Write as writer
use Rattle.rows.specs.declared.ContactId.{ContactId}
use Rattle.numbers.specs.Ranges as received
use Rattle.numbers.specs.Ranges.{Received, is_range}
use Rattle.numbers.specs.Sets.{size_from}
use Rattle.received.specs.Lent.{pairs, received_in, plan_of, list_after}
use Rattle.contact.specs.Contact as contacts
use Rattle.contact.specs.Contact.{Lists, reads}
use Rattle.contact.specs.declared.Contact.{Contact}
use Rattle.store.specs.declared.Entry.{Entry}
use Rattle.store.specs.Store.{part_of}
use Rattle.store.specs.Line.{line_of}
use Rattle.calls_step.specs.declared.Mark.{Mark}
use Rattle.calls_step.specs.declared.Mark.TheVariants.{Opened}
use Rattle.calls_step.specs.Step.{renumbered}
use Rattle.calls_step.specs.Proved.{HIGHEST}
use Rattle.calls_open.specs.declared.Answer.{Answer}
use Rattle.calls_open.specs.declared.Answer.TheVariants as answer
use Rattle.calls_open.specs.declared.Left.{Left}
use Rattle.layout.specs.Layout as row
use Rattle.layout.specs.Layout.{accepted, refused_by}
use Rattle.layout.specs.Says.{answers_by}
use Rattle.received.specs.declared.Change.{Change}

-- ---- what is left by value: fields, mark, and the answer or the refusal
pub record Outcome : Type 0 where
  pub contact : Contact
  pub mark : Mark
  pub answer : row.Answer Answer

abbrev pub left : Contact → Mark → row.Answer Answer → Outcome
left c m a = record { contact = c; mark = m; answer = a }

abbrev pub outcome_by : {R : Type 0} → (number : R → ℕ) → Left R → Outcome
outcome_by number r = record { contact = r.contact; mark = r.mark; answer = answers_by number r.answer }

abbrev pub outcome_of : Left Question → Outcome
outcome_of = outcome_by number_of

-- ---- cover, contains, covers
abbrev pub covered_in : Contact → (above : List ℕ) → Received
covered_in c above = received_in c.contiguous c.above above

abbrev pub contains_says : Contact → (above : List ℕ) → (msgno : ℕ) → row.Answer Answer
contains_says c above n = accepted (answer.Truth (received.contains (covered_in c above) n))

-- 37
abbrev pub covers_says : Contact → (above : List ℕ) → (from to : ℕ) → row.Answer Answer
covers_says c above f t = cond (is_range f t) (accepted (answer.Truth (received.covers (covered_in c above) f t))) (refused_by RANGE)

-- 38
abbrev pub covered_by : row.Answer Change → Contact → Mark → Outcome
covered_by (accepted x) c m = left (renumbered c.sent_msgno x.contiguous x.count c) m (accepted (answer.Advanced x.moved x.added))
covered_by (refused_by q) c m = left c m (refused_by q)

abbrev pub cover_leaves : Contact → Mark → (above : List ℕ) → (from to : ℕ) → Outcome
cover_leaves c m above f t = cond (is_range f t) (covered_by (plan_of (covered_in c above) (length above) f t) c m) (left c m (refused_by RANGE))

abbrev pub cover_list : Contact → (above : List ℕ) → (from to : ℕ) → List ℕ
cover_list c above f t = cond (is_range f t) (list_after (covered_in c above) above f t) above

-- ---- take: 39
abbrev pub take_leaves : Contact → Mark → Outcome
take_leaves c m =
    cond (ltb c.sent_msgno HIGHEST)
    (left (renumbered (c.sent_msgno + 1) c.contiguous c.above c) m (accepted (answer.Number (c.sent_msgno + 1))))
    (left c m (refused_by MSGNO_LEFT))

-- ---- statement, write: 40
abbrev pub line_says : writer.Written → row.Answer Answer
line_says (writer.wrote n) = accepted (answer.Said n)
line_says (writer.refuses q) = refused_by q

abbrev pub row_says : writer.Written → row.Answer Answer
row_says (writer.wrote n) = accepted (answer.Wrote n)
row_says (writer.refuses q) = refused_by q

-- fields and mark stay, the answer is what a writer's would be, and the output as that writer leaves it
pub record WrittenBy (c : Contact) (m : Mark) (say : writer.Written → row.Answer Answer) (w : writer.Left) (r : Left Question) (out : List ℕ) : Type 0 where
  pub answer : outcome_of r ≡ left c m (say w.answer)
  pub output : out ≡ w.out

-- how many numbers from `lowest` on the ranges hold, or 2^64 - 1 if more: 65,535 ranges never hold more
abbrev pub numbers_in : (lowest count : ℕ) → List ℕ → ℕ
numbers_in lowest count l = min (size_from lowest (pairs count l)) (2 ^ 64 - 1)

abbrev pub line_from : ContactId → Contact → (queued : ℕ) → (above expired : List ℕ) → List ℕ
line_from id c queued above expired =
    line_of id.0 c.sent_msgno c.peer_acked c.contiguous (numbers_in 0 c.above above) queued (numbers_in (c.peer_acked + 1) c.expired expired)

abbrev pub line_left : ContactId → Contact → (queued : ℕ) → (above expired out : List ℕ) → writer.Left
line_left id c queued above expired out = writer.stored (line_from id c queued above expired) out

-- ---- open: 36, and what reading the row leaves; if that is a no, the mark and the fields are those handed in
abbrev pub opened_by : row.Answer Contact → ContactId → Mark → Contact → Outcome
opened_by (accepted its) id m c = left its (Opened id) (accepted answer.Yes)
opened_by (refused_by q) id m c = left c m (refused_by q)

-- what reading the row of the contact's entry leaves
abbrev pub read_of : Entry → (run : List ℕ) → Lists → contacts.Left
read_of e run l = reads e.version (part_of run e) l

-- 35: the entry that was sought, if there is one
abbrev pub open_leaves : Option Entry → ContactId → Mark → Contact → (run : List ℕ) → Lists → Outcome
open_leaves None id m c run l = left c m (refused_by CONTACT_STORED)
open_leaves (Some e) id m c run l = opened_by (read_of e run l).answer id m c

abbrev pub open_lists : Option Entry → (run : List ℕ) → Lists → Lists
open_lists None run l = l
open_lists (Some e) run l = (read_of e run l).lists

-- What restore leaves, and what 34 is asked of for the other calls.
-- Assumes nothing.
use Rattle.std.specs.Prelude.{ℕ, List, ◌≡◌, Result}
use Rattle.layout.specs.declared.question.Question.{Question}
use Rattle.rows.specs.declared.ContactId.{ContactId}
use Rattle.store.specs.declared.Entry.{Entry}
use Rattle.store.specs.Store as store
use Rattle.store.specs.Store.{store_of}
use Rattle.store.specs.declared.Refusal.{Refusal}
use Rattle.restore.specs.declared.Granted.{Granted}
use Rattle.restore.specs.Restored as restored
use Rattle.restore.specs.Restored.{Restored, restored_says, answered}
use Rattle.calls_step.specs.declared.Mark.{Mark}
use Rattle.calls_step.specs.declared.Mark.TheVariants as mark
use Rattle.ledger.specs.Call.{restore, granted, refused_at}
use Rattle.calls_step.specs.Input.{Input, Left, leaves}
use Rattle.calls_step.specs.Step.{step}
use Rattle.calls_step.specs.Proved.{HIGHEST}
use Rattle.calls_store.specs.declared.Passed.{Passed}
use Rattle.calls_store.specs.declared.Asking.{Asking}
use Rattle.calls_store.specs.declared.Asking.TheVariants as asking
use Rattle.calls_dispatch.specs.declared.Call.{Call}
use Rattle.calls_dispatch.specs.declared.Facts.{Facts}
use Rattle.calls_dispatch.specs.Dispatch.{input_of, by_open, gate_of}
use Rattle.calls.specs.declared.RestoreLeft.{RestoreLeft}

-- ---- restore
-- the mark after this answer: a refused restore leaves it
abbrev pub mark_after : Restored → Mark → Mark
mark_after (restored.Granted next slots) m = mark.Restored
mark_after (restored.Refused q i) m = m

abbrev pub restore_left : Result Granted (Refusal Question) → Mark → RestoreLeft
restore_left a m = record { answer = a; mark = mark_after (restored_says a) m }

-- what this leaves of all that stood before: a granted restore leaves the store that it was handed, a refused one the store before
abbrev pub left_by : Restored → Mark → (run : List ℕ) → List Entry → Input → Left
left_by (restored.Granted next slots) m run es h = leaves granted (input_of m run es h.contact h.lists h.out)
left_by (restored.Refused q i) m run es h = leaves (refused_at q i) (input_of m h.run h.entries h.contact h.lists h.out)

abbrev pub restored_on : RestoreLeft → (run : List ℕ) → List Entry → Input → Left
restored_on r run es h = left_by (restored_says r.answer) r.mark run es h

-- restore answers what its definition does, and leaves the ledger's step of anything that stood before with this mark
pub record RestoreSteps (m : Mark) (run : List ℕ) (es : List Entry) (r : RestoreLeft) : Type 0 where
  pub answer : restored_says r.answer ≡ answered (store.restore (store_of run es))
  pub left : (h : Input) → h.mark ≡ m → restored_on r run es h ≡ step HIGHEST (restore run es) h

-- ---- 34
-- for open: a store that is restored
abbrev pub stored_for : Mark → Asking
stored_for mark.Fresh = asking.Nothing
stored_for mark.Restored = asking.Stored
stored_for (mark.Opened id) = asking.Stored

-- for the calls on an open contact
abbrev pub opened_for : Mark → Asking
opened_for mark.Fresh = asking.Nothing
opened_for mark.Restored = asking.Nothing
opened_for (mark.Opened id) = asking.Opened

abbrev pub asking_for : Call → Mark → Asking
asking_for c m = by_open (λ id. stored_for m) (opened_for m) c

-- ---- what is known of the store
abbrev pub facts_as : Passed → (queued : ℕ) → ContactId → Facts Question
facts_as p queued id = record { sought = p.sought; queued = queued; id = id; gate = gate_of p.passed }

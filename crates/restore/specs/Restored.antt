-- What restore answers, and the questions with a contact's row left out.
-- Assumes nothing.
use Rattle.std.specs.Prelude.{ℕ, List, Bool, true, false, cond, length, eqb, Result, Ok, Err}
use Rattle.layout.specs.declared.question.Question.{Question}
use Rattle.layout.specs.Questions.{number_of, ORDER}
use Rattle.store.specs.declared.Entry.{Entry}
use Rattle.store.specs.declared.Refusal.{Refusal}
use Rattle.store.specs.Omitted.{Omitted, is_omitted, omitted_seen, seen_omitted, asked_omitted}
use Rattle.store.specs.Rounds.{Asked}
use Rattle.store.specs.Rounds as asked
use Rattle.store.specs.Store.{Outcome, granted, refused, next_in, slots_below}
use Rattle.restore.specs.declared.Granted as code

-- a granted restore answers next_contact and next_slot, a refused one the question's number and the entry's index
pub data Restored : Type 0 where
  Granted : (next slot : ℕ) → Restored
  Refused : (number place : ℕ) → Restored

-- ... in code
abbrev pub restored_says : Result code.Granted (Refusal Question) → Restored
restored_says (Ok g) = Granted g.next_contact g.next_slot
restored_says (Err r) = Refused (number_of r.question) r.place

-- what restore found, or the first no
abbrev pub answered : Outcome → Restored
answered (granted f) = Granted f.next_contact f.next_slot
answered (refused number place) = Refused number place

-- ---- the questions, with a contact's row left out: the rounds' answer, and where every one is a yes next_contact and next_slot
abbrev pub granting : Asked → (next slot : ℕ) → Restored
granting asked.Going next slot = Granted next slot
granting (asked.Refused number place) next slot = Refused number place

abbrev pub questioned : (run : List ℕ) → List Entry → Omitted → Restored
questioned run es omitted =
    let is_left = is_omitted omitted in
    let x = omitted_seen omitted in
    granting (asked_omitted run es is_left x) (next_in (seen_omitted run es is_left x) es) (slots_below es (length es))

abbrev pub is_granted : Restored → Bool
is_granted (Granted next slot) = true
is_granted (Refused number place) = false

-- ---- on the way
abbrev pub begun_with : ℕ → Asked
begun_with n = cond (eqb n 0) (asked.Refused ORDER 0) asked.Going

-- The questions with the row of a contact left out: of its entry 1, 2 and 3 only are asked, and what the others see of it is handed in.
-- Assumes nothing.
use Rattle.std.specs.Prelude.{ℕ, List, [], ◌∷◌, Bool, false, cond, length, eqb}
use Rattle.std.specs.Prelude as code
use Rattle.layout.specs.Questions.{VERSION}
use Rattle.store.specs.declared.Entry.{Entry}
use Rattle.store.specs.Rounds.{Asked, ask, first_no, Round, rounds}
use Rattle.store.specs.declared.OmittedContact.{OmittedContact}
use Rattle.store.specs.Kinds.{CONTACT, kind_of, Seen, nothing, contact_sight, refusal_in}
use Rattle.store.specs.Store.{store_of, entry_at, is_of, answer_of, seen, order, bounds, across_as, begun}

-- ---- of the code's contact left out, or none
abbrev pub Omitted : Type 0
Omitted = code.Option OmittedContact

abbrev pub is_omitted : Omitted → Entry → Bool
is_omitted code.None e = false
is_omitted (code.Some o) e = is_of CONTACT o.contact.0 e

-- what is seen of it: its sent_msgno, and no unacked numbers
abbrev pub omitted_seen : Omitted → Seen
omitted_seen code.None = nothing
omitted_seen (code.Some o) = contact_sight o.sent_msgno []

-- ---- of any entries whose rows are left out
module _ (run : List ℕ) (es : List Entry) (is_left : Entry → Bool) where
  -- of these rows only the version is asked
  abbrev pub read_omitted : Round
  read_omitted i =
      let e = entry_at es i in
      cond (is_left e) (first_no (ask VERSION (eqb e.version 3) ∷ [])) (refusal_in (answer_of (store_of run es) e))

  -- ... and x is seen of them
  module _ (x : Seen) where
    abbrev pub seen_omitted : Entry → Seen
    seen_omitted e = cond (is_left e) x (seen (store_of run es) e)

    abbrev pub across_omitted : Round
    across_omitted i = let e = entry_at es i in first_no (across_as es seen_omitted (kind_of e.kind) e i)

    abbrev pub omitted_rounds : List Round
    omitted_rounds = order (store_of run es) ∷ bounds (store_of run es) ∷ read_omitted ∷ across_omitted ∷ []

    abbrev pub asked_omitted : Asked
    asked_omitted = rounds omitted_rounds (length es) (begun (store_of run es))

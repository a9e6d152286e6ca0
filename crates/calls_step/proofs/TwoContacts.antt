-- A store of two contacts: what lists of calls answer on it. By computation.
-- Assumes nothing.
use mathlib.Core.List.{List, [], ◌∷◌, ◌++◌}
use mathlib.Core.Bool.{true, false}
use mathlib.Core.Path.{◌≡◌, refl}
use Rattle.layout.specs.Questions.{ORDER, STORE}
use Rattle.layout.specs.Form as form
use Rattle.layout.specs.Layout.{print}
use Rattle.layout.specs.Layout as layout
use Rattle.rows.specs.Utf8 as utf
use Rattle.rows.specs.Rows.{contact}
use Rattle.put.specs.Put as puts
use Rattle.contact_lists.specs.Places as places
use Rattle.contact_lent.specs.Lent as lents
use Rattle.numbers.specs.Ranges as ranges
use Rattle.received.specs.Change as changes
use Rattle.received.specs.Lent as received
use Rattle.numbers.specs.Sets as sets
use Rattle.contact_image.specs.Row as row
use Rattle.store.specs.Kinds.{DEVICE, CONTACT}
use Rattle.ledger.specs.Call.{Call, restore, opens, cover, contains, Answer, granted, advanced, truth, refused, refused_at}
use Rattle.calls_step.specs.Step as steps
use Rattle.ledger.specs.Ledger.{nothing}
use Rattle.ledger.specs.Ledger as ledgers
use Rattle.calls_step.specs.Replay.{answers, ledger_answers}
use Rattle.calls_step.proofs.Answers.{N, entry, device_of, fields_of, four, fresh, pairs2, lent}

-- ---- contact 1 with contiguous 2, above 4..4; contact 2 with contiguous 0 and nothing above
abbrev two : Call
two =
    restore (device_of 0 3 ++ print (contact 3) (fields_of 3 2 four) ++ print (contact 3) (fields_of 5 0 []))
    (entry DEVICE 0 0 0 49 ∷ entry CONTACT 1 0 49 311 ∷ entry CONTACT 2 0 360 303 ∷ [])

-- another contact opened, and this one again: what was covered and not written is gone, in both
abbrev reopened : List Call
reopened = two ∷ opens 1 ∷ cover 3 3 ∷ opens 2 ∷ contains 3 ∷ cover 1 1 ∷ opens 1 ∷ contains 3 ∷ contains 4 ∷ opens 2 ∷ contains 1 ∷ []

abbrev reopened_says : List Answer
reopened_says = granted ∷ granted ∷ advanced true 1 ∷ granted ∷ truth false ∷ advanced true 1 ∷ granted ∷ truth false ∷ truth true ∷ granted ∷ truth false ∷ []

-- a refused restore leaves the contact open with what was covered, a granted one leaves none open
abbrev restored_again : List Call
restored_again = two ∷ opens 1 ∷ cover 3 3 ∷ restore [] [] ∷ contains 3 ∷ two ∷ contains 3 ∷ opens 1 ∷ contains 3 ∷ []

abbrev restored_again_says : List Answer
restored_again_says = granted ∷ granted ∷ advanced true 1 ∷ refused_at ORDER 0 ∷ truth true ∷ granted ∷ refused STORE ∷ granted ∷ truth false ∷ []

two-contacts : (answers N reopened (fresh pairs2 0) ≡ reopened_says) × (answers N restored_again (fresh pairs2 0) ≡ restored_again_says)
unfolding steps.step layout.parse layout.print form.big_endian form.bytes_of form.read_many form.print_many form.leb_read utf.completes
    puts.put places.print_places places.places_of places.read_places lents.places_bytes ranges.insert ranges.inserted ranges.uncovered changes.change_of
    received.pairs received.stored row.counted row.image row.chained_image
two-contacts = (refl, refl)

two-in-ledger : (ledger_answers 16 reopened (lent 4 0) nothing ≡ reopened_says) × (ledger_answers 16 restored_again (lent 4 0) nothing ≡ restored_again_says)
unfolding ledgers.ledger sets.record_of layout.parse layout.print form.big_endian form.bytes_of form.read_many form.print_many form.leb_read utf.completes
two-in-ledger = (refl, refl)

-- How many numbers a cover adds, document 02's A2: those of from..to that were not covered. Computed for `step` and for the ledger, whose numbers go up to 16 here.
-- Assumes nothing.
use Prim.Native.Nat.{ℕ, ◌+◌, ◌*◌}
use mathlib.Core.List.{List, [], ◌∷◌, map}
use mathlib.Core.Bool.{Bool, true, false}
use mathlib.Core.Path.{◌≡◌, refl}
use lib.ListN.{length, replicate}
use Rattle.layout.specs.Form as form
use Rattle.layout.specs.Layout as layout
use Rattle.rows.specs.Utf8 as utf
use Rattle.rows.specs.Values.{Range}
use Rattle.put.specs.Put as puts
use Rattle.contact_lists.specs.Places as places
use Rattle.contact_lent.specs.Lent as lents
use Rattle.numbers.specs.Ranges as ranges
use Rattle.numbers.specs.Ranges.{range}
use Rattle.numbers.specs.Sets as sets
use Rattle.received.specs.Change as changes
use Rattle.received.specs.Lent as received
use Rattle.contact_image.specs.Row as row
use Rattle.ledger.specs.Call.{Call, restore, opens, cover, Answer, granted, advanced}
use Rattle.ledger.specs.Ledger.{nothing}
use Rattle.ledger.specs.Ledger as ledgers
use Rattle.calls_step.specs.Input.{Input, lent_of}
use Rattle.calls_step.specs.Step as steps
use Rattle.calls_step.specs.Replay.{answers, ledger_answers}
use Rattle.calls_step.proofs.Answers.{N, fields_of, run_of, entries_of, four, fresh, Both}

-- a cover of from..to where these numbers are covered, and what it answers: whether contiguous moved, and how many are new
pub data Case : Type 0 where
  case : (contiguous : ℕ) → (above : List Range) → (from to : ℕ) → (moved : Bool) → (added : ℕ) → Case

-- the contact is opened, and then these calls made
abbrev opened : (contiguous : ℕ) → (above : List Range) → List Call → List Call
opened contiguous above cs = restore (run_of 0 (fields_of 3 contiguous above)) (entries_of (303 + 8 * length above)) ∷ opens 1 ∷ cs

abbrev calls : Case → List Call
calls (case contiguous above f t moved added) = opened contiguous above (cover f t ∷ [])

abbrev due : Case → List Answer
due (case contiguous above f t moved added) = granted ∷ granted ∷ advanced moved added ∷ []

-- three pairs lent for `above`
abbrev before : Input
before = fresh (replicate 6 0) 0

abbrev Answered : List Case → Type 0
Answered cs = map (λ c. answers N (calls c) before) cs ≡ map due cs

abbrev cases : List Case
cases =
    -- from contiguous 2 and above 4..4: covered before, up to contiguous and above it
    case 2 four 1 2 false 0
    ∷ case 2 four 4 4 false 0
    -- contiguous moves by two, and one number is new; part of from..to is covered, at its start and within, or at its end
    ∷ case 2 four 3 3 true 1
    ∷ case 2 four 1 6 true 3
    ∷ case 2 four 3 4 true 1
    -- not the width of the range that is left: 4..9
    ∷ case 2 four 5 9 false 5
    ∷ case 2 four 4 9 false 5
    -- the hole between two ranges, and what lies before, between and behind two
    ∷ case 2 (range 4 4 ∷ range 6 6 ∷ []) 5 5 false 1
    ∷ case 1 (range 4 5 ∷ range 8 9 ∷ []) 5 8 false 2
    ∷ case 1 (range 4 5 ∷ range 8 9 ∷ []) 3 12 false 6
    -- number 0 never counts
    ∷ case 0 [] 1 1 true 1
    ∷ case 0 (range 2 2 ∷ []) 1 16 true 15
    ∷ case 0 [] 1 16 true 16
    ∷ []

samples :
    Answered cases
    × (map (λ c. ledger_answers 16 (calls c) (lent_of before) nothing) cases ≡ map due cases)
    -- what several add one after the other is what they add at once
    × Both (opened 2 four (cover 6 9 ∷ cover 5 5 ∷ cover 3 3 ∷ cover 1 9 ∷ [])) before
    (granted ∷ granted ∷ advanced false 4 ∷ advanced false 1 ∷ advanced true 1 ∷ advanced false 0 ∷ [])
    × Both (opened 2 four (cover 1 9 ∷ [])) before (granted ∷ granted ∷ advanced true 6 ∷ [])
    -- up to the last number, which the ledger is not asked about here: all numbers are new, all but one, the first alone, and none
    × Answered
    (case 0 [] 1 N true N ∷ case 0 (range 2 2 ∷ []) 1 N true 4294967294 ∷ case 0 (range N N ∷ []) 2 N false 4294967293
    ∷ case 0 (range 2 N ∷ []) 1 N true 1 ∷ case N [] 1 N false 0 ∷ [])
unfolding steps.step ledgers.ledger sets.record_of layout.parse layout.print form.big_endian form.bytes_of form.read_many form.print_many form.leb_read utf.completes
    puts.put places.print_places places.places_of places.read_places lents.places_bytes ranges.insert ranges.inserted ranges.uncovered changes.change_of
    received.pairs received.stored row.counted row.image row.chained_image
samples = (refl, refl, (refl, refl), (refl, refl), refl)

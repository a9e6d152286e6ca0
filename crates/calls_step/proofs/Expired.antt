-- The last figure of a statement, document 02's A5: the numbers above peer_acked in the expired ranges, also within a range that straddles it. Computed
-- for `step` and for the ledger, whose numbers go up to 16 here. Assumes nothing.
use Prim.Native.Nat.{ℕ, ◌+◌, ◌*◌}
use mathlib.Core.List.{List, [], ◌∷◌}
use mathlib.Core.Bool.{true}
use mathlib.Core.Path.{◌≡◌, refl}
use lib.ListN.{length, replicate}
use Rattle.layout.specs.Form as form
use Rattle.layout.specs.Layout as layout
use Rattle.rows.specs.Utf8 as utf
use Rattle.rows.specs.Values.{Range}
use Rattle.put.specs.Put as puts
use Rattle.contact_lists.specs.Places as places
use Rattle.contact_lent.specs.Lent as lents
use Rattle.numbers.specs.Decimal as decimals
use Rattle.numbers.specs.Ranges as ranges
use Rattle.numbers.specs.Ranges.{range}
use Rattle.numbers.specs.Sets as sets
use Rattle.received.specs.Change as changes
use Rattle.received.specs.Lent as received
use Rattle.contact_image.specs.Row as row
use Rattle.store.specs.Line as lines
use Rattle.store.specs.Line.{line_of}
use Rattle.ledger.specs.Call.{Call, restore, opens, cover, take, statement, granted, advanced, number, said}
use Rattle.ledger.specs.Ledger.{nothing}
use Rattle.ledger.specs.Ledger as ledgers
use Rattle.calls_step.specs.Input.{Input, lent_of}
use Rattle.calls_step.specs.Step as steps
use Rattle.calls_step.specs.Step.{line_in}
use Rattle.calls_step.specs.Replay.{left, ledger_answers}
use Rattle.calls_step.proofs.Answers.{N, numbered, run_of, entries_of, fresh_with, Both}

-- a contact with contiguous 2 and no range above is opened, and then these calls made
abbrev calls : (sent acked : ℕ) → (expired : List Range) → List Call → List Call
calls sent acked expired cs = restore (run_of 0 (numbered 0 sent acked 2 [] expired)) (entries_of (295 + 8 * length expired)) ∷ opens 1 ∷ cs

-- two pairs lent for `above` and for expired ranges
abbrev before : (out : ℕ) → Input
before out = fresh_with (replicate 4 0) (replicate 4 0) out

-- the line of sent 9 has this last figure
abbrev Expires : (acked : ℕ) → (expired : List Range) → (figure : ℕ) → Type 0
Expires acked expired figure = Both (calls 9 acked expired (statement ∷ [])) (before 16) (granted ∷ granted ∷ said 16 (line_of 1 9 acked 2 0 1 figure) ∷ [])

samples :
    -- a range that straddles peer_acked, one that ends there, and all where nothing is acknowledged
    Expires 3 (range 1 5 ∷ []) 2
    × Expires 5 (range 1 5 ∷ []) 0
    × Expires 0 (range 1 5 ∷ []) 5
    -- a range wholly below, and one that straddles; the last number alone; nothing but a range wholly below
    × Expires 7 (range 1 2 ∷ range 6 9 ∷ []) 2
    × Expires 8 (range 1 2 ∷ range 6 9 ∷ []) 1
    × Expires 9 (range 1 2 ∷ []) 0
    -- neither cover nor take changes the figure
    × Both (calls 8 3 (range 1 5 ∷ []) (cover 3 5 ∷ take ∷ statement ∷ [])) (before 16)
    (granted ∷ granted ∷ advanced true 3 ∷ number 9 ∷ said 16 (line_of 1 9 3 5 0 1 2) ∷ [])
    -- all numbers of the ledger are acknowledged
    × (ledger_answers 16 (calls 16 16 (range 1 16 ∷ []) (statement ∷ [])) (lent_of (before 18)) nothing ≡ granted ∷ granted ∷ said 18 (line_of 1 16 16 2 0 1 0) ∷ [])
unfolding steps.step ledgers.ledger sets.record_of layout.parse layout.print form.big_endian form.bytes_of form.read_many form.print_many form.leb_read utf.completes
    puts.put places.print_places places.places_of places.read_places lents.places_bytes ranges.insert ranges.inserted ranges.uncovered changes.change_of
    received.pairs received.stored row.counted row.image row.chained_image decimals.digits_of lines.line_of
samples = ((refl, refl), (refl, refl), (refl, refl), (refl, refl), (refl, refl), (refl, refl), (refl, refl), refl)

-- all numbers of 32 bits are acknowledged: the line of what open left (its text is not computed, which would take too deep a recursion)
last-number : line_in 1 (left N (calls N N (range 1 N ∷ []) []) (before 0)) ≡ line_of 1 N N 2 0 1 0
unfolding steps.step layout.parse layout.print form.big_endian form.bytes_of form.read_many form.print_many form.leb_read utf.completes
    puts.put places.print_places places.places_of places.read_places lents.places_bytes received.pairs received.stored row.counted row.image row.chained_image
last-number = refl

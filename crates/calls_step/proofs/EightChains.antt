-- At most eight chains, document 02's A10: what a writer and the calls say of eight and of nine. Computed for `step` and for the ledger, whose numbers go up to 16 here.
-- Assumes nothing.
use Prim.Native.Nat.{ℕ, zero, suc, ◌+◌, ◌*◌}
use mathlib.Core.List.{List, [], ◌∷◌, ◌++◌}
use mathlib.Core.Bool.{true, false}
use mathlib.Core.Option.{some}
use mathlib.Core.Path.{◌≡◌, refl}
use lib.ListN.{take, drop, replicate}
use Rattle.layout.specs.Questions.{FLAG, NAME_LENGTH, STORE, LISTS, CHAINS_COUNT}
use Rattle.layout.specs.Form as form
use Rattle.layout.specs.Layout.{group}
use Rattle.layout.specs.Layout as layout
use Rattle.layout.specs.Write.{Written, wrote, refuses}
use Rattle.layout.specs.Write as writes
use Rattle.rows.specs.Utf8 as utf
use Rattle.rows.specs.Values as value
use Rattle.rows.specs.Rows.{chain}
use Rattle.rows.specs.declared.Dir.TheVariants.{I}
use Rattle.put.specs.Put as puts
use Rattle.contact_lists.specs.Places.{print_places}
use Rattle.contact_lists.specs.Places as places
use Rattle.contact_lent.specs.Lent as lents
use Rattle.numbers.specs.Lists.{CHAIN_PLACE}
use Rattle.numbers.specs.Ranges as ranges
use Rattle.numbers.specs.Sets as sets
use Rattle.received.specs.Change as changes
use Rattle.received.specs.Lent as received
use Rattle.contact.specs.Contact.{Lists, lists, contact_of, zero_contact}
use Rattle.contact_image.specs.Row.{asked_contact}
use Rattle.contact_image.specs.Row as row
use Rattle.store.specs.declared.Entry.{Entry}
use Rattle.calls_step.specs.declared.Mark.TheVariants.{Fresh, Opened}
use Rattle.ledger.specs.Call.{Call, restore, opens, cover, contains, granted, advanced, truth, refused, refused_at}
use Rattle.ledger.specs.Ledger as ledgers
use Rattle.calls_step.specs.Input.{Input}
use Rattle.calls_step.specs.Step.{step}
use Rattle.calls_step.specs.Step as steps
use Rattle.calls_step.proofs.Answers.{N, holding, run_of, entries_of, four, Both}

-- n superseded chains, of the gens below n
abbrev superseded : ℕ → List value.Chain
superseded zero = []
superseded (suc n) = record { gen = n; dir = I; next = 0; key = replicate 32 1; superseded_s = some 1 } ∷ superseded n

abbrev named : (name : List ℕ) → (chains : ℕ) → value.Contact
named name n = holding name (superseded n) 0 3 1 2 four []

abbrev having : (chains : ℕ) → value.Contact
having = named []

-- so many places, with such chains in them; the other lists hold the contact's items
abbrev filled_places : (places : ℕ) → List ℕ
filled_places n = print_places CHAIN_PLACE (group chain) (superseded n)

abbrev lent_with : (chains : List ℕ) → Lists
lent_with chains = lists chains [] (4 ∷ 4 ∷ []) (3 ∷ []) []

-- ---- a writer
asks : value.Contact → (chains : List ℕ) → Written
asks v chains = asked_contact (contact_of v) (lent_with chains)

-- the flag stands behind gen, dir, next and key
abbrev flagged : List ℕ → List ℕ
flagged l = take (2 * 51 + 42) l ++ 2 ∷ drop (2 * 51 + 43) l

writer :
    (asks (having 8) (filled_places 8) ≡ wrote 711)
    × (asks (having 9) (filled_places 9) ≡ refuses CHAINS_COUNT)
    -- 36 is asked first; then the row's questions in its order: the name's length, the flag of a chain
    × (asks (having 9) (filled_places 8) ≡ refuses LISTS)
    × (asks (named (replicate 49 65) 9) (filled_places 9) ≡ refuses NAME_LENGTH)
    × (asks (having 9) (flagged (filled_places 9)) ≡ refuses FLAG)
unfolding asks row.asked_contact writes.asked layout.parse layout.print form.big_endian form.bytes_of form.read_many form.print_many form.leb_read utf.completes
    places.print_places places.places_of places.read_places lents.places_bytes received.pairs row.counted row.image row.chained_image
writer = (refl, refl, refl, refl, refl)

-- ---- opened fields that count nine are 34, though the store was granted and nine places are lent
abbrev entries : (chains : ℕ) → List Entry
entries n = entries_of (303 + 51 * n)

abbrev handed : (chains : ℕ) → Input
handed n = record {
  mark = Opened (record { 0 = 1 });
  run = run_of 0 (having 8);
  entries = entries 8;
  contact = contact_of (having n);
  lists = lent_with (filled_places n);
  out = [];
}

opened-fields : ((step N (contains 4) (handed 8)).answer ≡ truth true) × ((step N (contains 4) (handed 9)).answer ≡ refused STORE)
unfolding steps.step layout.parse layout.print form.big_endian form.bytes_of form.read_many form.print_many form.leb_read utf.completes
    places.print_places places.places_of places.read_places lents.places_bytes received.pairs row.counted row.image row.chained_image
opened-fields = (refl, refl)

-- ---- the calls, from nothing restored, with so many places lent for chains
abbrev fresh : (places : ℕ) → Input
fresh n = record {
  mark = Fresh;
  run = [];
  entries = [];
  contact = zero_contact;
  lists = lists (replicate (51 * n) 0) [] (replicate 4 0) (0 ∷ []) [];
  out = [];
}

abbrev calls : (chains : ℕ) → List Call
calls n = restore (run_of 0 (having n)) (entries n) ∷ opens 1 ∷ cover 6 6 ∷ []

called :
    -- eight places are enough, and more change nothing; seven are 36
    Both (calls 8) (fresh 8) (granted ∷ granted ∷ advanced false 1 ∷ [])
    × Both (calls 8) (fresh 20) (granted ∷ granted ∷ advanced false 1 ∷ [])
    × Both (calls 8) (fresh 7) (granted ∷ refused LISTS ∷ refused STORE ∷ [])
    -- a ninth chain, at the contact's entry
    × Both (calls 9) (fresh 9) (refused_at CHAINS_COUNT 1 ∷ refused STORE ∷ refused STORE ∷ [])
unfolding steps.step ledgers.ledger sets.record_of layout.parse layout.print form.big_endian form.bytes_of form.read_many form.print_many form.leb_read utf.completes
    puts.put places.print_places places.places_of places.read_places lents.places_bytes ranges.insert ranges.inserted ranges.uncovered changes.change_of
    received.pairs received.stored row.counted row.image row.chained_image
called = ((refl, refl), (refl, refl), (refl, refl), (refl, refl))

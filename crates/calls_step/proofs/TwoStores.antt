-- Two stores that differ in every veiled byte and in nothing else: the same eight calls, all granted, answer the same on both.
-- Assumes nothing.
use Prim.Native.Nat.{ℕ, zero, suc, ◌+◌, ◌<◌}
use mathlib.Core.List.{List, [], ◌∷◌, ◌++◌}
use mathlib.Core.Bool.{Bool, true, cond}
use mathlib.Core.Path.{◌≡◌, refl}
use native.Mathlib.Omega.{arith}
use lib.ListN.{length, replicate}
use lib.Dec.{eqb}
use Rattle.layout.specs.Form as form
use Rattle.layout.specs.Layout as layout
use Rattle.layout.specs.RowLaws.{Bytes}
use Rattle.layout.specs.Veil.{hide}
use Rattle.layout.proofs.Hide.{hide-outside}
use Rattle.rows.specs.Utf8 as utf
use Rattle.put.specs.Put as puts
use Rattle.contact_lists.specs.Places as places
use Rattle.contact_lent.specs.Lent as lents
use Rattle.numbers.specs.Ranges as ranges
use Rattle.received.specs.Change as changes
use Rattle.received.specs.Lent as received
use Rattle.contact_image.specs.Row as row
use Rattle.store.specs.Store.{entry_at, part_of}
use Rattle.store.specs.Veiled.{veiled_in, VeilEqual}
use Rattle.ledger.specs.Call.{Call, restore, opens, Answer, granted, advanced, truth, number, wrote, said}
use Rattle.calls_step.specs.Input.{Input}
use Rattle.numbers.specs.Decimal as decimals
use Rattle.store.specs.Line as lines
use Rattle.calls_step.specs.Step as steps
use Rattle.calls_step.specs.Legal.{Turn, Legal}
use Rattle.ledger.specs.Ledger.{nothing}
use Rattle.calls_step.specs.Replay.{replay, answers, left, ledger_answers, AllTyped}
use Rattle.calls_step.specs.Two.{AlikeAll}
use Rattle.calls_step.proofs.Bytes.{bytes-tested}
use Rattle.calls_step.proofs.Again.{continued-again}
use Rattle.calls_step.proofs.Replay.{replay-legal, replay-answers, stores-paired}
use Rattle.calls_step.proofs.Two.{two_runs}
use Rattle.calls_step.proofs.Answers.{N, veiled_by, run_of, four, entries, six, line, row_bytes, fresh, lent, pairs2}

-- document 01's sample store, with d added to each veiled byte
abbrev stored : (d : ℕ) → List ℕ
stored d = run_of d (veiled_by d 3 2 four)

-- ---- the two stores
abbrev row_at : (d i : ℕ) → List ℕ
row_at d i = part_of (stored d) (entry_at entries i)

abbrev veiled_at : (i : ℕ) → List Bool
veiled_at i = veiled_in (entry_at entries i) (row_at 0 i)

same-copies : (i : ℕ) → i < 4 → hide (veiled_at i) (row_at 0 i) ≡ hide (veiled_at i) (row_at 100 i)
unfolding layout.parse layout.print layout.mask_of form.big_endian form.bytes_of form.read_many form.print_many form.leb_read form.leb_mask utf.completes
same-copies zero h = refl
same-copies (suc zero) h = refl
same-copies (suc (suc zero)) h = refl
same-copies (suc (suc (suc zero))) h = refl
same-copies (suc (suc (suc (suc i)))) h = absurd (omega (arith, h))

same-long : length (stored 0) ≡ length (stored 100)
unfolding layout.print form.bytes_of form.print_many
same-long = refl

veil-equal : VeilEqual (stored 0) (stored 100) entries
veil-equal = record { long = same-long; each = λ i h. hide-outside (veiled_at i) (row_at 0 i) (row_at 100 i) (same-copies i h) }

-- in how many places two lists differ
abbrev differing : List ℕ → List ℕ → ℕ
differing [] l = 0
differing (b ∷ bs) [] = 0
differing (b ∷ bs) (c ∷ cs) = cond (eqb b c) 0 1 + differing bs cs

abbrev marked : List Bool → ℕ
marked [] = 0
marked (m ∷ ms) = cond m 1 0 + marked ms

-- in every veiled byte: 32 of the device's row, 160 of the contact's, 48 of the queued one and 16 of the tombstone
differ : (differing (stored 0) (stored 100) ≡ 256) × (marked (veiled_at 0) + marked (veiled_at 1) + marked (veiled_at 2) + marked (veiled_at 3) ≡ 256)
unfolding layout.parse layout.print layout.mask_of form.big_endian form.bytes_of form.read_many form.print_many form.mask_many form.leb_read form.leb_mask utf.completes
differ = (refl, refl)

-- ---- the calls
abbrev eight : (d : ℕ) → List Call
eight d = restore (stored d) entries ∷ opens 1 ∷ six

abbrev before : Input
before = fresh pairs2 320

-- the line is `S,1,4,1,4,0,1,0`
abbrev says : List Answer
says = granted ∷ granted ∷ advanced true 1 ∷ truth true ∷ truth true ∷ number 4 ∷ said 16 (line 0x34 0x34 0x30) ∷ wrote 303 ∷ []

-- each writes its own row
both_say :
    (answers N (eight 0) before ≡ says)
    × (answers N (eight 100) before ≡ says)
    × ((left N (eight 0) before).out ≡ row_bytes 0 ++ replicate 17 0)
    × ((left N (eight 100) before).out ≡ row_bytes 100 ++ replicate 17 0)
unfolding steps.step layout.parse layout.print form.big_endian form.bytes_of form.read_many form.print_many form.leb_read utf.completes
    puts.put places.print_places places.places_of places.read_places lents.places_bytes ranges.insert ranges.inserted ranges.uncovered changes.change_of
    received.pairs received.stored row.counted row.image row.chained_image decimals.digits_of lines.line_of
both_say = (refl, refl, refl, refl)

-- ---- both lists are legal, so the laws speak of them
bytes : (Bytes (stored 0)) × (Bytes (stored 100))
unfolding layout.print form.bytes_of form.print_many
bytes = (bytes-tested (stored 0) refl, bytes-tested (stored 100) refl)

typed : (d : ℕ) → Bytes (stored d) → AllTyped N (eight d)
typed d b = (b, (tt, (omega arith, (tt, (tt, (tt, (tt, (tt, tt))))))))

abbrev turns : (d : ℕ) → List Turn
turns d = replay N (eight d) before

both-legal : Legal N before (turns 0) × Legal N before (turns 100)
both-legal = (replay-legal N (eight 0) (typed 0 bytes.0) before before (continued-again before), replay-legal N (eight 100) (typed 100 bytes.1) before before (continued-again before))

as-ledger : (answers N (eight 0) before ≡ ledger_answers N (eight 0) (lent 4 320) nothing) × (answers N (eight 100) before ≡ ledger_answers N (eight 100) (lent 4 320) nothing)
as-ledger = (replay-answers N refl (eight 0) before refl (typed 0 bytes.0), replay-answers N refl (eight 100) before refl (typed 100 bytes.1))

both-alike : AlikeAll N (turns 0) (turns 100)
both-alike =
    two_runs N refl before before refl refl (turns 0) (turns 100)
    (stores-paired N (stored 0) (stored 100) entries veil-equal (opens 1 ∷ six) before before refl)
    both-legal.0 both-legal.1

-- Legal lists of calls on document 01's sample store in which the lent lengths change from call to call; 34 where a list is lent too short.
-- Assumes nothing.
use Prim.Native.Nat.{ℕ}
use mathlib.Core.List.{List, [], ◌∷◌}
use mathlib.Core.Bool.{true, false}
use mathlib.Core.Path.{◌≡◌, refl}
use native.Mathlib.Omega.{arith}
use Rattle.layout.specs.Questions.{STORE, LISTS, RANGES_FIT, OUTPUT}
use Rattle.layout.specs.Form as form
use Rattle.layout.specs.Layout as layout
use Rattle.layout.specs.RowLaws.{Bytes}
use Rattle.rows.specs.Utf8 as utf
use Rattle.put.specs.Put as puts
use Rattle.contact_lists.specs.Places as places
use Rattle.contact_lent.specs.Lent as lents
use Rattle.numbers.specs.Ranges as ranges
use Rattle.received.specs.Change as changes
use Rattle.received.specs.Lent as received
use Rattle.numbers.specs.Sets as sets
use Rattle.contact_image.specs.Row as row
use Rattle.ledger.specs.Call.{Call, restore, opens, cover, contains, take, statement, write, Answer, granted, advanced, truth, number, wrote, said, refused}
use Rattle.calls_step.specs.Input.{Input}
use Rattle.numbers.specs.Decimal as decimals
use Rattle.store.specs.Line as lines
use Rattle.calls_step.specs.Step as steps
use Rattle.ledger.specs.Ledger.{Ledger, nothing, ledger}
use Rattle.ledger.specs.Ledger as ledgers
use Rattle.calls_step.specs.Legal.{Turn, made, Legal}
use Rattle.calls_step.specs.Agree.{AgreesAll}
use Rattle.calls_step.specs.Request.{Request, Serves, RequestsTyped}
use Rattle.calls_step.proofs.Bytes.{bytes-tested}
use Rattle.calls_step.proofs.Occurs as occurs
use Rattle.calls_step.proofs.Every.{every-list}
use Rattle.calls_step.proofs.Occurs.{serving, served, serving-legal}
use Rattle.calls_step.proofs.Answers.{N, run, entries, fresh, line}

-- a call, with so many numbers lent for `above`, `unacked` and expired ranges, and so many bytes of output
abbrev pub with : (above unacked expired out : ℕ) → Call → Request
with above unacked expired out c = record { call = c; lent = record { chains = 0; skipped = 0; above = above; unacked = unacked; expired = expired; out = out } }

abbrev pub before : Input
before = fresh [] 0

abbrev answers_of : List Turn → List Answer
answers_of [] = []
answers_of (t ∷ ts) = (made N t).answer ∷ answers_of ts

-- what the ledger answers, which is fed the calls and the lent lengths alone; numbers go up to 16
abbrev ledger_says : List Request → Ledger → List Answer
ledger_says [] l = []
ledger_says (w ∷ ws) l = let a = ledger 16 w.call w.lent l in a.answer ∷ ledger_says ws a.state

abbrev pub sample : Request
sample = with 0 0 0 0 (restore (run 3) entries)

-- ---- longer, and shorter again
-- one pair for 4..4 is too few for 6..9 beside it, two are enough; then two pairs and a half, 15 bytes of output for a line of 16, and 16; and all longer for write
abbrev longer : List Request
longer =
    sample
    ∷ with 2 1 2 0 (opens 1)
    ∷ with 2 1 2 0 (cover 6 9)
    ∷ with 4 1 2 0 (cover 6 9)
    ∷ with 5 1 3 0 (contains 7)
    ∷ with 4 1 2 15 statement
    ∷ with 4 1 2 16 statement
    ∷ with 9 4 8 400 write
    ∷ []

-- the line is `S,1,3,1,2,5,1,0`
abbrev longer_says : List Answer
longer_says =
    granted ∷ granted ∷ refused RANGES_FIT ∷ advanced false 4 ∷ truth true ∷ refused OUTPUT ∷ said 16 (line 0x33 0x32 0x35) ∷ wrote 319 ∷ []

-- ---- too short
-- 34 with one pair for two ranges, and with no place for unacked or half a pair for expired: each time the same call is granted with places enough.
-- 36 of an open leaves the contact open
abbrev short : List Request
short =
    sample
    ∷ with 4 1 2 0 (opens 1)
    ∷ with 4 1 2 0 (cover 6 9)
    ∷ with 3 1 2 0 (contains 7)
    ∷ with 4 1 2 0 (contains 7)
    ∷ with 4 0 2 0 take
    ∷ with 4 1 1 0 take
    ∷ with 4 1 2 0 take
    ∷ with 1 1 2 0 (opens 1)
    ∷ with 4 1 2 0 (contains 7)
    ∷ []

abbrev short_says : List Answer
short_says =
    granted ∷ granted ∷ advanced false 4 ∷ refused STORE ∷ truth true ∷ refused STORE ∷ refused STORE ∷ number 4 ∷ refused LISTS ∷ truth true ∷ []

-- ---- the turns: the calls with these lengths
abbrev turns : List Request → List Turn
turns ws = serving N refl ws before

both-served : Serves longer (turns longer) × Serves short (turns short)
both-served = (served N refl longer before, served N refl short before)

-- ---- both lists are legal, so the laws speak of them
pub run-bytes : Bytes (run 3)
unfolding layout.print form.bytes_of form.print_many
run-bytes = bytes-tested (run 3) refl

longer-typed : RequestsTyped N longer
longer-typed = (run-bytes, (tt, (omega arith, (omega arith, (tt, (tt, (tt, (tt, tt))))))))

short-typed : RequestsTyped N short
short-typed = (run-bytes, (tt, (omega arith, (tt, (tt, (tt, (tt, (tt, (tt, (tt, tt))))))))))

both-legal : Legal N before (turns longer) × Legal N before (turns short)
both-legal = (serving-legal N refl before refl longer longer-typed, serving-legal N refl before refl short short-typed)

both-agree : AgreesAll N nothing (turns longer) × AgreesAll N nothing (turns short)
both-agree = (every-list N refl before refl (turns longer) both-legal.0, every-list N refl before refl (turns short) both-legal.1)

-- ---- what they answer, and what the ledger does
both_say : (answers_of (turns longer) ≡ longer_says) × (answers_of (turns short) ≡ short_says)
unfolding occurs.again occurs.fitted steps.step layout.parse layout.print form.big_endian form.bytes_of form.read_many form.print_many form.leb_read utf.completes
    puts.put places.print_places places.places_of places.read_places lents.places_bytes ranges.insert ranges.inserted ranges.uncovered changes.change_of
    received.pairs received.stored row.counted row.image row.chained_image decimals.digits_of lines.line_of
both_say = (refl, refl)

ledger-says : (ledger_says longer nothing ≡ longer_says) × (ledger_says short nothing ≡ short_says)
unfolding ledgers.ledger sets.record_of layout.parse layout.print form.big_endian form.bytes_of form.read_many form.print_many form.leb_read utf.completes decimals.digits_of lines.line_of
ledger-says = (refl, refl)

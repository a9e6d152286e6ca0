-- Lists of calls on document 01's sample store: one in which all eight calls are granted, and one for each refusal from 34 to 40. By computation.
-- Assumes nothing.
use Prim.Native.Nat.{ℕ, ◌+◌}
use mathlib.Core.List.{List, [], ◌∷◌, ◌++◌}
use mathlib.Core.Bool.{true, false}
use mathlib.Core.Option.{none}
use mathlib.Core.Path.{◌≡◌, refl}
use lib.ListN.{replicate}
use Rattle.layout.specs.Questions.{ORDER, STORE, CONTACT_STORED, LISTS, RANGE, RANGES_FIT, MSGNO_LEFT, OUTPUT}
use Rattle.layout.specs.Form as form
use Rattle.layout.specs.Layout.{print}
use Rattle.layout.specs.Layout as layout
use Rattle.rows.specs.Utf8 as utf
use Rattle.rows.specs.Values as value
use Rattle.rows.specs.Rows.{contact}
use Rattle.rows.specs.declared.PairingRole.TheVariants.{A}
use Rattle.rows.specs.declared.Verification.TheVariants.{Verified}
use Rattle.put.specs.Put as puts
use Rattle.contact_lists.specs.Places as places
use Rattle.contact_lent.specs.Lent as lents
use Rattle.numbers.specs.Ranges as ranges
use Rattle.received.specs.Change as changes
use Rattle.received.specs.Lent as received
use Rattle.numbers.specs.Sets as sets
use Rattle.contact.specs.Contact.{lists, zero_contact}
use Rattle.contact_image.specs.Row as row
use Rattle.store.specs.declared.Entry.{Entry}
use Rattle.store.specs.Kinds.{DEVICE, CONTACT, QUEUED, COURIER}
use Rattle.calls_step.specs.declared.Mark.TheVariants.{Fresh}
use Rattle.ledger.specs.Call.{Call, restore, opens, cover, contains, covers, take, statement, write, Answer, granted, advanced, truth, number, wrote, said, refused, refused_at, Lent}
use Rattle.calls_step.specs.Input.{Input, lent_of}
use Rattle.numbers.specs.Decimal as decimals
use Rattle.store.specs.Line as lines
use Rattle.calls_step.specs.Step as steps
use Rattle.calls_step.specs.Step.{relisted, above_as, step}
use Rattle.ledger.specs.Ledger.{nothing, restored, ledger}
use Rattle.ledger.specs.Ledger as ledgers
use Rattle.calls_step.specs.Replay.{answers, left, ledger_answers}

abbrev pub N : ℕ
N = 4294967295

abbrev pub entry : (kind id msgno start len : ℕ) → Entry
entry kind id msgno start len = record { id = id; start = start; len = len; msgno = msgno; version = 3; kind = kind }

-- ---- the rows, with d added to each veiled byte
abbrev pub device_of : (d next : ℕ) → List ℕ
device_of d next = replicate 4 0 ++ replicate 32 d ++ (replicate 7 0 ++ (next ∷ 0 ∷ 1 ∷ 1 ∷ 0 ∷ 60 ∷ []))

abbrev pub holding : (name : List ℕ) → (chains : List value.Chain) → (d sent acked contiguous : ℕ) → (above expired : List value.Range) → value.Contact
holding name chains d sent acked contiguous above expired = record {
  role = A;
  verification = Verified;
  pair_id = replicate 16 1;
  th = replicate 48 2;
  nonce_b = replicate 16 3;
  card = record { caps = 1; beacon_day = 7; beacon_key = replicate 32 (4 + d); name = name; static_ek = none };
  door_a_to_b = replicate 32 (5 + d);
  door_b_to_a = replicate 32 (6 + d);
  route_key = replicate 32 (7 + d);
  resume_index = 9;
  chain_key = replicate 32 (8 + d);
  sent_msgno = sent;
  pending = none;
  send = none;
  chains = chains;
  skipped = [];
  peer_acked = acked;
  peer_read = 0;
  read_marked = 0;
  contiguous = contiguous;
  above = above;
  unacked = 3 ∷ [];
  expired = expired;
}

-- without a name and chains
abbrev pub numbered : (d sent acked contiguous : ℕ) → (above expired : List value.Range) → value.Contact
numbered = holding [] []

-- acked 1, expired 1..1
abbrev pub veiled_by : (d sent contiguous : ℕ) → (above : List value.Range) → value.Contact
veiled_by d sent contiguous above = numbered d sent 1 contiguous above (record { from = 1; to = 1 } ∷ [])

abbrev pub fields_of : (sent contiguous : ℕ) → (above : List value.Range) → value.Contact
fields_of = veiled_by 0

abbrev queued : (d : ℕ) → List ℕ
queued d = replicate 9 0 ++ (5 ∷ 0 ∷ replicate 48 (6 + d))

abbrev tombstone : (d : ℕ) → List ℕ
tombstone d = 1 ∷ replicate 16 9 ++ replicate 16 (9 + d) ++ replicate 4 9

abbrev pub run_of : (d : ℕ) → value.Contact → List ℕ
run_of d v = device_of d 2 ++ tombstone d ++ queued d ++ print (contact 3) v

-- the contact's row has so many bytes
abbrev pub entries_of : ℕ → List Entry
entries_of long = entry DEVICE 0 0 0 49 ∷ entry CONTACT 1 0 145 long ∷ entry QUEUED 1 2 86 59 ∷ entry COURIER 7 0 49 37 ∷ []

-- contiguous 2, above 4..4; and a contact without ranges above
abbrev pub four : List value.Range
four = record { from = 4; to = 4 } ∷ []

abbrev pub run : (sent : ℕ) → List ℕ
run sent = run_of 0 (fields_of sent 2 four)

abbrev pub entries : List Entry
entries = entries_of 311

abbrev bare : (contiguous : ℕ) → List Call → List Call
bare contiguous cs = restore (run_of 0 (fields_of 3 contiguous [])) (entries_of 303) ∷ opens 1 ∷ cs

-- nothing restored; these numbers for `above` and for expired ranges, and so many bytes of output
abbrev pub fresh_with : (above expired : List ℕ) → (out : ℕ) → Input
fresh_with above expired out = record { mark = Fresh; run = []; entries = []; contact = zero_contact; lists = lists [] [] above (0 ∷ []) expired; out = replicate out 0 }

-- ... and one pair for expired ranges
abbrev pub fresh : (above : List ℕ) → (out : ℕ) → Input
fresh above out = fresh_with above (0 ∷ 0 ∷ []) out

-- `above` lent without a place
abbrev shorter : Input → Input
shorter h = relisted h.contact (above_as [] h.lists) h

-- the calls, from nothing restored, once the sample is restored and its contact open
abbrev then : (sent : ℕ) → List Call → List Call
then sent cs = restore (run sent) entries ∷ opens 1 ∷ cs

-- ... and then all others of the eight
abbrev pub six : List Call
six = cover 3 3 ∷ contains 4 ∷ covers 1 4 ∷ take ∷ statement ∷ write ∷ []

abbrev all_eight : List Call
all_eight = then 3 six

-- `S,1,sent,1,contiguous,beyond,1,0` and LF, of three digits
abbrev pub line : (sent contiguous beyond : ℕ) → List ℕ
line sent contiguous beyond = 0x53 ∷ 0x2C ∷ 0x31 ∷ 0x2C ∷ sent ∷ 0x2C ∷ 0x31 ∷ 0x2C ∷ contiguous ∷ 0x2C ∷ beyond ∷ 0x2C ∷ 0x31 ∷ 0x2C ∷ 0x30 ∷ 0x0A ∷ []

-- the row that they leave, d added to each veiled byte: sent 4, contiguous 4, nothing above
abbrev pub row_bytes : (d : ℕ) → List ℕ
row_bytes d =
    0 ∷ 3 ∷ 1 ∷ replicate 16 1 ++ replicate 48 2 ++ replicate 16 3
    -- the card
    ++ (0 ∷ 38 ∷ 1 ∷ 0 ∷ 0 ∷ 0 ∷ 7 ∷ replicate 32 (4 + d) ++ (0 ∷ []))
    -- doors and keys
    ++ replicate 32 (5 + d) ++ replicate 32 (6 + d) ++ replicate 32 (7 + d) ++ (replicate 7 0 ++ (9 ∷ replicate 32 (8 + d)))
    -- sent_msgno, two flags and two counts that are 0, peer_acked, peer_read, read_marked, contiguous
    ++ (0 ∷ 0 ∷ 0 ∷ 4 ∷ replicate 6 0 ++ (0 ∷ 0 ∷ 0 ∷ 1 ∷ replicate 8 0 ++ (0 ∷ 0 ∷ 0 ∷ 4 ∷ [])))
    -- no range above, unacked 3, expired 1..1
    ++ (0 ∷ 0 ∷ 0 ∷ 1 ∷ 0 ∷ 0 ∷ 0 ∷ 3 ∷ 0 ∷ 1 ∷ 0 ∷ 0 ∷ 0 ∷ 1 ∷ 0 ∷ 0 ∷ 0 ∷ 1 ∷ [])

-- lengths as those of `fresh`
abbrev pub lent : (above out : ℕ) → Lent
lent above out = record { chains = 0; skipped = 0; above = above; unacked = 1; expired = 2; out = out }

-- `step` and the ledger, whose numbers go up to 16 here, answer so
abbrev pub Both : List Call → Input → List Answer → Type 0
Both cs h due = (answers N cs h ≡ due) × (ledger_answers 16 cs (lent_of h) nothing ≡ due)

abbrev pub pairs2 : List ℕ
pairs2 = 0 ∷ 0 ∷ 0 ∷ 0 ∷ []

samples :
    -- all eight calls are granted. The line is `S,1,4,1,4,0,1,0`
    (answers N all_eight (fresh pairs2 320) ≡ granted ∷ granted ∷ advanced true 1 ∷ truth true ∷ truth true ∷ number 4 ∷ said 16 (line 0x34 0x34 0x30) ∷ wrote 303 ∷ [])
    -- the row's bytes, and what stands behind them stays
    × ((left N all_eight (fresh pairs2 320)).out ≡ row_bytes 0 ++ replicate 17 0)
    -- document 02's line (A5), of the contact as it was opened, in an output just long enough for it: `S,1,3,1,2,1,1,0`
    × (answers N (then 3 (statement ∷ [])) (fresh pairs2 16) ≡ granted ∷ granted ∷ said 16 (line 0x33 0x32 0x31) ∷ [])
    -- 4..5 are two numbers beyond: `S,1,3,1,2,2,1,0`
    × (answers N (then 3 (cover 5 5 ∷ statement ∷ [])) (fresh pairs2 16) ≡ granted ∷ granted ∷ advanced false 1 ∷ said 16 (line 0x33 0x32 0x32) ∷ [])
    -- 01's (p) cases of cover, contains and covers, each from the contact as it was opened: open drops what was not written
    × (answers N (then 3 (cover 3 3 ∷ opens 1 ∷ cover 5 5 ∷ opens 1 ∷ cover 6 9 ∷ opens 1 ∷ contains 0 ∷ covers 3 4 ∷ [])) (fresh pairs2 0)
    ≡ granted ∷ granted ∷ advanced true 1 ∷ granted ∷ advanced false 1 ∷ granted ∷ advanced false 4 ∷ granted ∷ truth false ∷ truth false ∷ [])
    -- a cover frees a pair: 4..4 and 6..6 with 5..5 are 4..6, the freed pair is 0, and what stands behind stays
    × ((left N (then 3 (cover 6 6 ∷ cover 5 5 ∷ [])) (fresh (0 ∷ 0 ∷ 0 ∷ 0 ∷ 7 ∷ 8 ∷ 9 ∷ []) 0)).lists.above ≡ 4 ∷ 6 ∷ 0 ∷ 0 ∷ 7 ∷ 8 ∷ 9 ∷ [])
    -- take, write, open again: the number is the stored one again
    × (answers N (then 3 (take ∷ write ∷ opens 1 ∷ take ∷ [])) (fresh pairs2 311) ≡ granted ∷ granted ∷ number 4 ∷ wrote 311 ∷ granted ∷ number 4 ∷ [])
    -- 34 before the arguments are looked at: nothing restored, and no contact open. 35: no such contact
    × (answers N (cover 0 0 ∷ opens 1 ∷ restore (run 3) entries ∷ cover 0 0 ∷ take ∷ opens 2 ∷ []) (fresh pairs2 0)
    ≡ refused STORE ∷ refused STORE ∷ granted ∷ refused STORE ∷ refused STORE ∷ refused CONTACT_STORED ∷ [])
    -- 34: a list lent too short for its items, though the contact is open
    × ((step N (contains 4) (shorter (left N (then 3 []) (fresh pairs2 0)))).answer ≡ refused STORE)
    -- 36: a list without a place; no contact is open then
    × (answers N (restore (run 3) entries ∷ opens 1 ∷ contains 4 ∷ []) (fresh (0 ∷ []) 0) ≡ granted ∷ refused LISTS ∷ refused STORE ∷ [])
    -- 37; 38 with one pair lent, in which another cover has room; 40
    × (answers N (then 3 (cover 0 0 ∷ covers 2 1 ∷ cover 6 9 ∷ cover 5 5 ∷ write ∷ statement ∷ [])) (fresh (0 ∷ 0 ∷ []) 15)
    ≡ granted ∷ granted ∷ refused RANGE ∷ refused RANGE ∷ refused RANGES_FIT ∷ advanced false 1 ∷ refused OUTPUT ∷ refused OUTPUT ∷ [])
    -- 39: the last number was taken
    × (answers N (then 4294967294 (take ∷ take ∷ [])) (fresh pairs2 0) ≡ granted ∷ granted ∷ number 4294967295 ∷ refused MSGNO_LEFT ∷ [])
    -- a refused restore, and a refused open, leave the contact open
    × (answers N (then 3 (restore [] [] ∷ opens 2 ∷ contains 4 ∷ [])) (fresh pairs2 0) ≡ granted ∷ granted ∷ refused_at ORDER 0 ∷ refused CONTACT_STORED ∷ truth true ∷ [])
    -- no range above, and one pair lent: a cover has room
    × (answers N (bare 2 (cover 4 4 ∷ [])) (fresh (0 ∷ 0 ∷ []) 0) ≡ granted ∷ granted ∷ advanced false 1 ∷ [])
    -- no pairs lent: a cover that touches 1..contiguous needs none
    × (answers N (bare 2 (cover 4 4 ∷ cover 1 2 ∷ cover 3 3 ∷ [])) (fresh [] 0) ≡ granted ∷ granted ∷ refused RANGES_FIT ∷ advanced false 0 ∷ advanced true 1 ∷ [])
    -- the last number; all numbers; cover is not bounded by n
    × (answers N (bare 4294967294 (cover 4294967295 4294967295 ∷ covers 1 4294967295 ∷ [])) (fresh [] 0) ≡ granted ∷ granted ∷ advanced true 1 ∷ truth true ∷ [])
    × ((left N (then 3 (cover 1 4294967295 ∷ [])) (fresh pairs2 0)).contact.contiguous ≡ 4294967295)
unfolding steps.step layout.parse layout.print form.big_endian form.bytes_of form.read_many form.print_many form.leb_read utf.completes
    puts.put places.print_places places.places_of places.read_places lents.places_bytes ranges.insert ranges.inserted ranges.uncovered changes.change_of
    received.pairs received.stored row.counted row.image row.chained_image decimals.digits_of lines.line_of
samples = (refl, refl, refl, refl, refl, refl, refl, refl, refl, refl, refl, refl, refl, refl, refl, refl, refl)

-- ---- the ledger on its own, where numbers go up to 16
ledger-samples :
    (ledger_answers 16 all_eight (lent 4 320) nothing ≡ granted ∷ granted ∷ advanced true 1 ∷ truth true ∷ truth true ∷ number 4 ∷ said 16 (line 0x34 0x34 0x30) ∷ wrote 303 ∷ [])
    × (ledger_answers 16 (then 3 (cover 3 3 ∷ opens 1 ∷ cover 5 5 ∷ opens 1 ∷ cover 6 9 ∷ opens 1 ∷ contains 0 ∷ covers 3 4 ∷ [])) (lent 4 0) nothing
    ≡ granted ∷ granted ∷ advanced true 1 ∷ granted ∷ advanced false 1 ∷ granted ∷ advanced false 4 ∷ granted ∷ truth false ∷ truth false ∷ [])
    -- 34 and 35; 34 with a list lent too short, though the contact is open; 36
    × (ledger_answers 16 (cover 0 0 ∷ opens 1 ∷ restore (run 3) entries ∷ cover 0 0 ∷ take ∷ opens 2 ∷ []) (lent 4 0) nothing
    ≡ refused STORE ∷ refused STORE ∷ granted ∷ refused STORE ∷ refused STORE ∷ refused CONTACT_STORED ∷ [])
    × ((ledger 16 (contains 4) (lent 0 0) (ledger 16 (opens 1) (lent 4 0) (restored (run 3) entries)).state).answer ≡ refused STORE)
    × (ledger_answers 16 (restore (run 3) entries ∷ opens 1 ∷ contains 4 ∷ []) (lent 1 0) nothing ≡ granted ∷ refused LISTS ∷ refused STORE ∷ [])
    -- 37, 38, 40; 39
    × (ledger_answers 16 (then 3 (cover 0 0 ∷ covers 2 1 ∷ cover 6 9 ∷ cover 5 5 ∷ write ∷ statement ∷ [])) (lent 2 15) nothing
    ≡ granted ∷ granted ∷ refused RANGE ∷ refused RANGE ∷ refused RANGES_FIT ∷ advanced false 1 ∷ refused OUTPUT ∷ refused OUTPUT ∷ [])
    × (ledger_answers 16 (then 15 (take ∷ take ∷ [])) (lent 4 0) nothing ≡ granted ∷ granted ∷ number 16 ∷ refused MSGNO_LEFT ∷ [])
unfolding ledgers.ledger sets.record_of layout.parse layout.print form.big_endian form.bytes_of form.read_many form.print_many form.leb_read utf.completes decimals.digits_of lines.line_of
ledger-samples = (refl, refl, refl, refl, refl, refl, refl)

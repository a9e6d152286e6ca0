-- Stores at the edges of questions 1, 2 and 25 to 33: what the definitions answer. By computation.
-- Assumes nothing.
use Prim.Native.Nat.{ℕ, ◌+◌, ◌*◌}
use mathlib.Core.List.{List, [], ◌∷◌, ◌++◌}
use mathlib.Core.Option.{none}
use mathlib.Core.Path.{◌≡◌, refl}
use lib.ListN.{replicate}
use Rattle.layout.specs.Questions.{ORDER, BOUNDS, VERSION, FIELD, CONTACT_BELOW_NEXT, CONTACT_NEW, QUEUED_CONTACT, QUEUED_MSGNO, QUEUED_UNACKED, QUEUED_NEW, DEPOSITOR, SLOT_NEW, SLOT_BELOW_LAST}
use Rattle.layout.specs.Form as form
use Rattle.layout.specs.Layout.{print}
use Rattle.layout.specs.Layout as layout
use Rattle.rows.specs.Utf8 as utf
use Rattle.rows.specs.Values.{Contact}
use Rattle.rows.specs.Rows.{contact}
use Rattle.rows.specs.declared.PairingRole.TheVariants.{A}
use Rattle.rows.specs.declared.Verification.TheVariants.{Verified}
use Rattle.store.specs.declared.Entry.{Entry}
use Rattle.store.specs.Kinds.{DEVICE, CONTACT, QUEUED, COURIER}
use Rattle.store.specs.Store.{store_of, restore, Outcome, granted, refused}

abbrev entry : (kind id msgno start len : ℕ) → Entry
entry kind id msgno start len = record { id = id; start = start; len = len; msgno = msgno; version = 3; kind = kind }

abbrev answer : List ℕ → List Entry → Outcome
answer run es = restore (store_of run es)

-- no entries; two devices; a queued row before a contact; an entry of unknown kind after one outside the run; a contact first
order :
    (answer [] [] ≡ refused ORDER 0)
    × (answer [] (entry DEVICE 0 0 0 0 ∷ entry DEVICE 0 0 0 0 ∷ []) ≡ refused ORDER 1)
    × (answer [] (entry DEVICE 0 0 0 0 ∷ entry QUEUED 0 0 0 0 ∷ entry CONTACT 0 0 0 0 ∷ []) ≡ refused ORDER 2)
    × (answer [] (entry DEVICE 0 0 5 5 ∷ entry CONTACT 0 0 0 0 ∷ entry 4 0 0 0 0 ∷ []) ≡ refused ORDER 2)
    × (answer [] (entry CONTACT 0 0 0 0 ∷ []) ≡ refused ORDER 0)
order = (refl, refl, refl, refl, refl)

-- an empty row at the run's end is within it; one past the end is not; no sum wraps
bounds :
    (answer (1 ∷ []) (entry DEVICE 0 0 1 0 ∷ []) ≡ refused FIELD 0)
    × (answer (1 ∷ []) (entry DEVICE 0 0 2 0 ∷ []) ≡ refused BOUNDS 0)
    × (answer (1 ∷ []) (entry DEVICE 0 0 18446744073709551615 2 ∷ []) ≡ refused BOUNDS 0)
unfolding layout.parse form.big_endian
bounds = (refl, refl, refl)

-- ---- the rows of document 01's sample: a device with next_contact 2, a contact, a queued row, a tombstone; and a carried row
abbrev device : List ℕ
device = replicate 43 0 ++ (2 ∷ 0 ∷ 1 ∷ 1 ∷ 0 ∷ 60 ∷ [])

abbrev fields : Contact
fields = record {
  role = A;
  verification = Verified;
  pair_id = replicate 16 1;
  th = replicate 48 2;
  nonce_b = replicate 16 3;
  card = record { caps = 1; beacon_day = 7; beacon_key = replicate 32 4; name = []; static_ek = none };
  door_a_to_b = replicate 32 5;
  door_b_to_a = replicate 32 6;
  route_key = replicate 32 7;
  resume_index = 9;
  chain_key = replicate 32 8;
  sent_msgno = 3;
  pending = none;
  send = none;
  chains = [];
  skipped = [];
  peer_acked = 1;
  peer_read = 0;
  read_marked = 0;
  contiguous = 2;
  above = record { from = 4; to = 4 } ∷ [];
  unacked = 3 ∷ [];
  expired = record { from = 1; to = 1 } ∷ [];
}

abbrev queued : List ℕ
queued = replicate 9 0 ++ (5 ∷ 0 ∷ replicate 48 6)

abbrev tombstone : List ℕ
tombstone = 1 ∷ replicate 36 9

abbrev carried : (depositor : ℕ) → List ℕ
carried depositor = replicate 8 0 ++ depositor ∷ (replicate 37 1 ++ replicate 48 6)

abbrev run : List ℕ
run = device ++ tombstone ++ queued ++ carried 1 ++ carried 2 ++ print (contact 3) fields

abbrev the_device : Entry
the_device = entry DEVICE 0 0 0 49

abbrev slot : ℕ → Entry
slot n = entry COURIER n 0 49 37

abbrev queued_row : (id msgno : ℕ) → Entry
queued_row id msgno = entry QUEUED id msgno 86 59

abbrev carried_of : (depositor : ℕ) → Entry
carried_of depositor = entry COURIER 0 0 (51 + 94 * depositor) 94

abbrev contact_row : ℕ → Entry
contact_row id = entry CONTACT id 0 333 311

-- the sample; a device alone, cut by a byte, of another version
sample :
    (answer run (the_device ∷ contact_row 1 ∷ queued_row 1 2 ∷ slot 7 ∷ []) ≡ granted (record { contacts = record { id = 1; fields = fields } ∷ []; next_contact = 2; next_slot = 8 }))
    × (answer run (the_device ∷ []) ≡ granted (record { contacts = []; next_contact = 2; next_slot = 0 }))
    × (answer run (entry DEVICE 0 0 0 48 ∷ []) ≡ refused FIELD 0)
    × (answer run (record { id = 0; start = 0; len = 49; msgno = 0; version = 4; kind = DEVICE } ∷ []) ≡ refused VERSION 0)
unfolding layout.parse layout.print form.big_endian form.bytes_of form.read_many form.print_many form.leb_read utf.completes
sample = (refl, refl, refl, refl)

-- a contact not below next_contact, and with a malformed row after it; a contact twice
contacts :
    (answer run (the_device ∷ contact_row 2 ∷ []) ≡ refused CONTACT_BELOW_NEXT 1)
    × (answer run (the_device ∷ contact_row 2 ∷ entry COURIER 0 0 333 1 ∷ []) ≡ refused FIELD 2)
    × (answer run (the_device ∷ contact_row 1 ∷ contact_row 0 ∷ contact_row 1 ∷ []) ≡ refused CONTACT_NEW 3)
unfolding layout.parse layout.print form.big_endian form.bytes_of form.read_many form.print_many utf.completes
contacts = (refl, refl, refl)

-- of another contact; msgno 0, above sent_msgno, in unacked; twice
queue :
    (answer run (the_device ∷ contact_row 1 ∷ queued_row 0 2 ∷ []) ≡ refused QUEUED_CONTACT 2)
    × (answer run (the_device ∷ contact_row 1 ∷ queued_row 1 0 ∷ []) ≡ refused QUEUED_MSGNO 2)
    × (answer run (the_device ∷ contact_row 1 ∷ queued_row 1 4 ∷ []) ≡ refused QUEUED_MSGNO 2)
    × (answer run (the_device ∷ contact_row 1 ∷ queued_row 1 3 ∷ []) ≡ refused QUEUED_UNACKED 2)
    × (answer run (the_device ∷ contact_row 1 ∷ queued_row 1 2 ∷ queued_row 1 1 ∷ queued_row 1 2 ∷ []) ≡ refused QUEUED_NEW 4)
unfolding layout.parse layout.print form.big_endian form.bytes_of form.read_many form.print_many form.leb_read utf.completes
queue = (refl, refl, refl, refl, refl)

-- the depositor of a carried row, not of a tombstone; a slot below another, the same twice, the last twice: refused at the first. Rows may overlap
slots :
    (answer run (the_device ∷ carried_of 1 ∷ []) ≡ granted (record { contacts = []; next_contact = 2; next_slot = 1 }))
    × (answer run (the_device ∷ carried_of 2 ∷ []) ≡ refused DEPOSITOR 1)
    × (answer run (the_device ∷ slot 7 ∷ slot 3 ∷ []) ≡ granted (record { contacts = []; next_contact = 2; next_slot = 8 }))
    × (answer run (the_device ∷ slot 7 ∷ slot 7 ∷ []) ≡ refused SLOT_NEW 2)
    × (answer run (the_device ∷ slot 18446744073709551615 ∷ slot 18446744073709551615 ∷ []) ≡ refused SLOT_BELOW_LAST 1)
unfolding layout.parse layout.print form.big_endian form.bytes_of form.read_many form.print_many
slots = (refl, refl, refl, refl, refl)

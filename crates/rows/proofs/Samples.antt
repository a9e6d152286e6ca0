-- Sample rows, read by the definitions: document 01's that are not (p), and one for each place where the order of two questions can be mistaken.
-- Assumes nothing.
use Prim.Native.Nat.{ℕ}
use mathlib.Core.List.{List, [], ◌∷◌, ◌++◌}
use mathlib.Core.Option.{none, some}
use mathlib.Core.Path.{◌≡◌, refl}
use lib.ListN.{replicate}
use Rattle.layout.specs.Questions.{FIELD, FLAG, CAPS, NAME_LENGTH, NAME_UTF8, CARD_END, COURIER_CONFIG, SEALED_LENGTH, CARRIED_COPIES, CARRIED_EXPIRY, ROW_END}
use Rattle.layout.specs.Veil.{zeros, veil}
use Rattle.layout.specs.Form as form
use Rattle.layout.specs.Layout.{accepted, refused_by, read_row, print, hidden_row}
use Rattle.layout.specs.Layout as layout
use Rattle.rows.specs.Utf8 as utf
use Rattle.rows.specs.Values.{Contact}
use Rattle.rows.specs.Rows.{device, card_row, contact, courier}
use Rattle.rows.specs.declared.PairingRole.TheVariants.{A}
use Rattle.rows.specs.declared.Verification.TheVariants.{Verified}
use Rattle.rows.specs.declared.Dir.TheVariants.{I, R}

-- ---- device
-- 45 bytes, of which the last is 2, 1
device-45 : (read_row (device 3) (zeros 44 ++ 2 ∷ []) ≡ refused_by FLAG) × (read_row (device 3) (zeros 44 ++ 1 ∷ []) ≡ refused_by FIELD)
unfolding layout.parse form.big_endian
device-45 = (refl, refl)

-- copies 0 in 48, 49 and 50 bytes
device-copies : (read_row (device 3) (zeros 48) ≡ refused_by FIELD) × (read_row (device 3) (zeros 49) ≡ refused_by COURIER_CONFIG) × (read_row (device 3) (zeros 50) ≡ refused_by COURIER_CONFIG)
unfolding layout.parse form.big_endian
device-copies = (refl, refl, refl)

-- ---- card
abbrev head : List ℕ
head = 0 ∷ zeros 36

card-names : (read_row card_row (head ++ 2 ∷ 0xC0 ∷ 0x80 ∷ []) ≡ refused_by NAME_UTF8) × (read_row card_row (head ++ 3 ∷ 0xED ∷ 0xA0 ∷ 0x80 ∷ []) ≡ refused_by NAME_UTF8)
unfolding layout.parse form.big_endian utf.completes utf.following
card-names = (refl, refl)

-- caps 4; name length 49 and no name; a byte over
card-refused : (read_row card_row (4 ∷ []) ≡ refused_by CAPS) × (read_row card_row (head ++ 49 ∷ []) ≡ refused_by NAME_LENGTH) × (read_row card_row (head ++ 0 ∷ 0 ∷ []) ≡ refused_by CARD_END)
unfolding layout.parse form.big_endian utf.completes utf.following
card-refused = (refl, refl, refl)

-- ---- contact
abbrev key : ℕ → List ℕ
key n = replicate 32 n

sample : Contact
sample = record {
  role = A;
  verification = Verified;
  pair_id = replicate 16 1;
  th = replicate 48 2;
  nonce_b = replicate 16 3;
  card = record { caps = 1; beacon_day = 7; beacon_key = key 4; name = 0xE2 ∷ 0x82 ∷ 0xAC ∷ []; static_ek = none };
  door_a_to_b = key 5;
  door_b_to_a = key 6;
  route_key = key 7;
  resume_index = 9;
  chain_key = key 8;
  sent_msgno = 3;
  pending = some (record { chain_key = key 9; msg_seed = key 10 });
  send = none;
  chains = record { gen = 1; dir = I; next = 5; key = key 11; superseded_s = none } ∷ record { gen = 2; dir = R; next = 6; key = key 12; superseded_s = some 77 } ∷ [];
  skipped = record { gen = 1; dir = R; idx = 4; key = key 13; created_s = 1000 } ∷ [];
  peer_acked = 1;
  peer_read = 1;
  read_marked = 9;
  contiguous = 2;
  above = record { from = 4; to = 4 } ∷ [];
  unacked = 3 ∷ [];
  expired = record { from = 1; to = 1 } ∷ [];
}

-- read back whole; and with a byte over
contact-sample : (read_row (contact 3) (print (contact 3) sample) ≡ accepted sample) × (read_row (contact 3) (print (contact 3) sample ++ 0 ∷ []) ≡ refused_by ROW_END)
unfolding layout.parse layout.print form.big_endian form.bytes_of form.read_many form.print_many utf.completes utf.following sample
contact-sample = (refl, refl)

-- ---- courier
-- carried, expiry 0; expiry 1 and copies 0; copies 1 and nothing after
courier-carried :
    (read_row (courier 3) (zeros 45) ≡ refused_by CARRIED_EXPIRY) × (read_row (courier 3) (zeros 44 ++ 1 ∷ 0 ∷ []) ≡ refused_by CARRIED_COPIES)
    × (read_row (courier 3) (zeros 44 ++ 1 ∷ 1 ∷ []) ≡ refused_by SEALED_LENGTH)
unfolding layout.parse form.big_endian
courier-carried = (refl, refl, refl)

-- a tombstone's s is veiled, also where the row is cut inside expiry
abbrev stone : List ℕ → List ℕ
stone s = 1 ∷ (replicate 16 1 ++ (s ++ (0 ∷ 0 ∷ 0 ∷ [])))

courier-veiled : (hidden_row (courier 3) veil (stone (replicate 16 2) ++ 5 ∷ []) ≡ stone (zeros 16) ++ 5 ∷ []) × (hidden_row (courier 3) veil (stone (replicate 16 2)) ≡ stone (zeros 16))
unfolding layout.parse layout.mask_of form.big_endian
courier-veiled = (refl, refl)

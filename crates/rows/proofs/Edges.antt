-- Small rows at the edges of each question, and the bytes that they veil: what the definitions answer. By computation.
-- Assumes nothing.
use Prim.Native.Nat.{ℕ}
use mathlib.Core.List.{List, [], ◌∷◌, ◌++◌}
use mathlib.Core.Bool.{true, false}
use mathlib.Core.Option.{none, some}
use mathlib.Core.Path.{◌≡◌, refl}
use lib.ListN.{replicate}
use Rattle.layout.specs.Questions.{CAPS, CODE, FIELD, FLAG, LEB128, VERSION, CARD_END, CARRIED_COPIES, COURIER_CONFIG, NAME_LENGTH, NAME_UTF8, ROW_END, SEALED_LENGTH}
use Rattle.layout.specs.Read.{value, refused}
use Rattle.layout.specs.Veil.{zeros, veil}
use Rattle.layout.specs.Form as form
use Rattle.layout.specs.Form.{leb128}
use Rattle.layout.specs.Layout.{accepted, refused_by, read_row, hidden_row, mask_of}
use Rattle.layout.specs.Layout as layout
use Rattle.rows.specs.Utf8 as utf
use Rattle.rows.specs.Utf8.{utf8}
use Rattle.rows.specs.Checks.{sealed_queued, sealed_carried}
use Rattle.rows.specs.Rows.{device, card_row, queued, courier}

-- ---- LEB128 traps
leb-traps :
    (leb128.read [] ≡ refused FIELD) × (leb128.read (0x80 ∷ []) ≡ refused FIELD) × (leb128.read (0x80 ∷ 0x80 ∷ 0x80 ∷ 0x80 ∷ []) ≡ refused FIELD)
    × (leb128.read (0x80 ∷ 0x80 ∷ 0x80 ∷ 0x80 ∷ 0x80 ∷ []) ≡ refused LEB128) × (leb128.read (0x80 ∷ 0x80 ∷ 0x80 ∷ 0x80 ∷ 0x00 ∷ []) ≡ refused LEB128)
    × (leb128.read (0x80 ∷ 0x00 ∷ []) ≡ refused LEB128) × (leb128.read (0x00 ∷ 7 ∷ []) ≡ value 0 (7 ∷ []))
    × (leb128.read (0x80 ∷ 0x80 ∷ 0x80 ∷ 0x80 ∷ 0x01 ∷ 9 ∷ []) ≡ value 268435456 (9 ∷ []))
    × (leb128.read (0x80 ∷ 0x80 ∷ 0x80 ∷ 0x80 ∷ 0x8f ∷ 1 ∷ []) ≡ refused LEB128)
unfolding form.leb_read
leb-traps = (refl, refl, refl, refl, refl, refl, refl, refl, refl)

-- ---- lengths of sealed texts, at both ends and beside them
sealed-traps :
    (sealed_queued 47 ≡ false) × (sealed_queued 48 ≡ true) × (sealed_queued 49 ≡ false) × (sealed_queued 4064 ≡ true) × (sealed_queued 4080 ≡ false) × (sealed_queued 0 ≡ false)
    × (sealed_carried 48 ≡ true) × (sealed_carried 2064 ≡ true) × (sealed_carried 4064 ≡ false)
sealed-traps = (refl, refl, refl, refl, refl, refl, refl, refl, refl)

-- ---- device
-- read_receipts, enabled, copies, and the rest
device_row : ℕ → ℕ → ℕ → List ℕ → List ℕ
device_row r e c rest = zeros 44 ++ (r ∷ e ∷ c ∷ rest)

device-traps :
    (read_row (device 4) [] ≡ refused_by VERSION) × (read_row (device 3) [] ≡ refused_by FIELD)
    × (read_row (device 3) (device_row 1 1 1 (0 ∷ 60 ∷ 0 ∷ [])) ≡ refused_by ROW_END)
    × (read_row (device 3) (device_row 1 1 17 (0 ∷ 60 ∷ [])) ≡ refused_by COURIER_CONFIG)
    × (read_row (device 3) (device_row 1 1 16 (0 ∷ 59 ∷ [])) ≡ refused_by COURIER_CONFIG)
    × (read_row (device 3) (device_row 1 1 16 (0x27 ∷ 0x61 ∷ [])) ≡ refused_by COURIER_CONFIG)
    × (read_row (device 3) (device_row 1 2 0 (0x27 ∷ 0x61 ∷ [])) ≡ refused_by FLAG)
    × (read_row (device 3) (device_row 1 1 16 (0x27 ∷ 0x60 ∷ [])) ≡ accepted (record { beacon_day = 0; beacon_key = zeros 32; next_contact = 0; read_receipts = true; enabled = true; copies = 16; lifetime_min = 10080 }))
unfolding layout.parse form.big_endian device_row
device-traps = (refl, refl, refl, refl, refl, refl, refl, refl)

device-mask : (hidden_row (device 3) veil (replicate 36 9) ≡ replicate 4 9 ++ zeros 32) × (hidden_row (device 3) veil (replicate 35 9) ≡ replicate 35 9) × (hidden_row (device 4) veil (replicate 40 9) ≡ replicate 40 9)
    × (hidden_row (device 3) veil (replicate 45 9) ≡ replicate 4 9 ++ (zeros 32 ++ replicate 9 9))
unfolding layout.parse layout.mask_of form.big_endian
device-mask = (refl, refl, refl, refl)

-- ---- card
abbrev head : ℕ → List ℕ
head c = c ∷ replicate 36 9

card-traps :
    (read_row card_row [] ≡ refused_by FIELD) × (read_row card_row (0 ∷ []) ≡ refused_by FIELD) × (read_row card_row (4 ∷ []) ≡ refused_by CAPS) × (read_row card_row (255 ∷ []) ≡ refused_by CAPS)
    × (read_row card_row (head 3 ++ 2 ∷ 65 ∷ []) ≡ refused_by FIELD)
    × (read_row card_row (head 2 ++ 1 ∷ 0xFF ∷ []) ≡ refused_by NAME_UTF8)
    × (read_row card_row (head 2 ++ 0 ∷ zeros 1183) ≡ refused_by FIELD)
    × (read_row card_row (head 2 ++ 0 ∷ zeros 1185) ≡ refused_by CARD_END)
    × (read_row card_row (head 1 ++ 0 ∷ zeros 1184) ≡ refused_by CARD_END)
    × (read_row card_row (head 0 ++ 49 ∷ zeros 49) ≡ refused_by NAME_LENGTH)
    × (read_row card_row (head 3 ++ 0 ∷ zeros 1184) ≡ accepted (record { caps = 3; beacon_day = 151587081; beacon_key = replicate 32 9; name = []; static_ek = some (zeros 1184) }))
unfolding layout.parse form.big_endian utf.completes utf.following
card-traps = (refl, refl, refl, refl, refl, refl, refl, refl, refl, refl, refl)

names : (utf8 (0 ∷ []) ≡ true) × (utf8 (0xEF ∷ 0xBB ∷ 0xBF ∷ []) ≡ true) × (utf8 (0xEF ∷ 0xBF ∷ 0xBE ∷ []) ≡ true) × (utf8 [] ≡ true) × (utf8 (0xF4 ∷ 0x8F ∷ 0xBF ∷ 0xBF ∷ []) ≡ true)
    × (utf8 (0xF4 ∷ 0x90 ∷ 0x80 ∷ 0x80 ∷ []) ≡ false) × (utf8 (0xF5 ∷ 0x80 ∷ 0x80 ∷ 0x80 ∷ []) ≡ false) × (utf8 (0xE0 ∷ 0x9F ∷ 0xBF ∷ []) ≡ false) × (utf8 (0xF0 ∷ 0x8F ∷ 0xBF ∷ 0xBF ∷ []) ≡ false) × (utf8 (0xC3 ∷ []) ≡ false) × (utf8 (0x80 ∷ []) ≡ false)
unfolding utf.completes utf.following
names = (refl, refl, refl, refl, refl, refl, refl, refl, refl, refl, refl)

-- ---- courier
courier-traps :
    (read_row (courier 3) [] ≡ refused_by FIELD) × (read_row (courier 3) (2 ∷ []) ≡ refused_by CODE) × (read_row (courier 2) (2 ∷ []) ≡ refused_by VERSION)
    × (read_row (courier 3) (1 ∷ zeros 37) ≡ refused_by ROW_END) × (read_row (courier 3) (1 ∷ zeros 35) ≡ refused_by FIELD)
    × (read_row (courier 3) (0 ∷ replicate 45 1 ++ zeros 47) ≡ refused_by SEALED_LENGTH)
    × (read_row (courier 3) (0 ∷ replicate 44 1 ++ 0 ∷ zeros 47) ≡ refused_by CARRIED_COPIES)
    × (read_row (courier 3) (0 ∷ replicate 44 1) ≡ refused_by FIELD)
unfolding layout.parse form.big_endian
courier-traps = (refl, refl, refl, refl, refl, refl, refl, refl)

courier-masks :
    (hidden_row (courier 3) veil (0 ∷ replicate 45 1 ++ replicate 48 7) ≡ 0 ∷ replicate 45 1 ++ zeros 48)
    × (hidden_row (courier 3) veil (0 ∷ replicate 45 1 ++ replicate 47 7) ≡ 0 ∷ replicate 45 1 ++ replicate 47 7)
    × (hidden_row (courier 3) veil (1 ∷ replicate 32 1) ≡ 1 ∷ replicate 16 1 ++ zeros 16)
    × (hidden_row (courier 3) veil (1 ∷ replicate 31 1) ≡ 1 ∷ replicate 31 1)
    × (hidden_row (courier 3) veil (1 ∷ replicate 40 1) ≡ 1 ∷ replicate 16 1 ++ (zeros 16 ++ replicate 8 1))
unfolding layout.parse layout.mask_of form.big_endian
courier-masks = (refl, refl, refl, refl, refl)

-- ---- queued
queued-traps :
    (read_row (queued 3) (zeros 8) ≡ refused_by FIELD) × (read_row (queued 3) (zeros 8 ++ 2 ∷ []) ≡ refused_by FLAG)
    × (read_row (queued 3) (zeros 9 ++ 5 ∷ []) ≡ refused_by FIELD) × (read_row (queued 3) (zeros 9 ++ 5 ∷ 0 ∷ []) ≡ refused_by SEALED_LENGTH)
    × (read_row (queued 3) (zeros 9 ++ 5 ∷ 0x80 ∷ 0 ∷ zeros 48) ≡ refused_by LEB128)
    × (read_row (queued 3) (zeros 8 ++ 1 ∷ zeros 37 ++ 2 ∷ []) ≡ refused_by FLAG)
    × (read_row (queued 3) (zeros 9 ++ 5 ∷ 0 ∷ zeros 48) ≡ accepted (record { created_s = 0; envelope = none; gen = 5; idx = 0; sealed = zeros 48 }))
    × (read_row (queued 3) (zeros 8 ++ 1 ∷ zeros 38 ++ 5 ∷ 0 ∷ zeros 48) ≡ accepted (record { created_s = 0; envelope = some (record { tag = zeros 16; s = zeros 16; expiry_min = 0; copies = 0; renewed = false }); gen = 5; idx = 0; sealed = zeros 48 }))
unfolding layout.parse form.big_endian form.leb_read
queued-traps = (refl, refl, refl, refl, refl, refl, refl, refl)

queued-masks :
    (hidden_row (queued 3) veil (zeros 8 ++ 1 ∷ replicate 37 7 ++ 2 ∷ 9 ∷ []) ≡ zeros 8 ++ 1 ∷ replicate 16 7 ++ (zeros 16 ++ replicate 5 7 ++ 2 ∷ 9 ∷ []))
    × (hidden_row (queued 3) veil (zeros 9 ++ 5 ∷ 0x80 ∷ 1 ∷ replicate 48 7) ≡ zeros 9 ++ 5 ∷ 0x80 ∷ 1 ∷ zeros 48)
    × (hidden_row (queued 3) veil (zeros 9 ++ 5 ∷ 0x80 ∷ 0 ∷ replicate 48 7) ≡ zeros 9 ++ 5 ∷ 0x80 ∷ 0 ∷ replicate 48 7)
unfolding layout.parse layout.mask_of form.big_endian form.leb_read form.leb_mask
queued-masks = (refl, refl, refl)

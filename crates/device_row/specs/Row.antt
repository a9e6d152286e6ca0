-- What a reader leaves in the struct of a device row, and which row a struct stands for.
-- Assumes nothing.
use Rattle.std.specs.Prelude.{ℕ, ◌≤◌, ◌<◌, ◌^◌, List, [], ◌∷◌, ◌++◌, Result, Ok, ◌≡◌, length, take, drop}
use Rattle.layout.specs.declared.question.Question.{Question}
use Rattle.layout.specs.Form.{bytes_of, flag_byte}
use Rattle.layout.specs.Layout.{accepted, print, read_row}
use Rattle.layout.specs.RowLaws.{Bytes}
use Rattle.layout.specs.Write.{wrote, asked, writes}
use Rattle.layout.specs.Says.{made, leaves}
use Rattle.rows.specs.Values as value
use Rattle.rows.specs.Rows.{device}
use Rattle.device.specs.Device.{config_of}
use Rattle.device.specs.declared.CourierConfig.{CourierConfig}
use Rattle.device_row.specs.declared.Device.{Device}

-- ---- reading
abbrev pub device_of : value.Device → Device
device_of d = record {
  next_contact = d.next_contact;
  beacon_day = d.beacon_day;
  courier = config_of d.enabled d.copies d.lifetime_min;
  read_receipts = d.read_receipts;
  beacon_key = d.beacon_key;
}

-- ---- writing
-- the value that a struct holds
abbrev pub value_of : Device → value.Device
value_of d = record {
  beacon_day = d.beacon_day;
  beacon_key = d.beacon_key;
  next_contact = d.next_contact;
  read_receipts = d.read_receipts;
  enabled = d.courier.enabled;
  copies = d.courier.copies;
  lifetime_min = d.courier.lifetime_min;
}

-- the row that would be written
unfoldable pub image : Device → List ℕ
image d = print (device 3) (value_of d)

-- its part from the courier settings on
unfoldable pub courier_part : CourierConfig → List ℕ
courier_part c = (flag_byte c.enabled ∷ []) ++ ((c.copies ∷ []) ++ bytes_of 2 c.lifetime_min)

-- what the struct's type says
pub record DeviceTyped (d : Device) : Type 0 where
  pub beacon_day : d.beacon_day < 256 ^ 4
  pub beacon_key : length d.beacon_key ≡ 32
  pub next_contact : d.next_contact < 256 ^ 8
  pub copies : d.courier.copies < 256
  pub lifetime_min : d.courier.lifetime_min < 256 ^ 2

-- ---- what is proved of both (proofs/RoundTrip.antt)
-- `leaves r left ≡ writes ..` is what `Device::row` ensures of its answer r and of the output, `left` after the call, and `made device_of (read_row ..)` is what `read_device` answers
pub record DeviceLaws : Type 0 where
  -- write, then read: the same struct
  pub write_read : (d : Device) → DeviceTyped d → (n : ℕ) → asked (device 3) (image d) ≡ wrote n → made device_of (read_row (device 3) (image d)) ≡ accepted d
  pub row_read : (d : Device) → DeviceTyped d → (out left : List ℕ) (r : Result ℕ Question) (n : ℕ) → leaves r left ≡ writes (device 3) (image d) out → r ≡ Ok n
      → made device_of (read_row (device 3) (take n left)) ≡ accepted d
  -- read, then write: the same bytes
  pub read-write : (version : ℕ) (row : List ℕ) → Bytes row → (d : Device) → made device_of (read_row (device version) row) ≡ accepted d → image d ≡ row
  pub read-row : (version : ℕ) (row : List ℕ) → Bytes row → (d : Device) → made device_of (read_row (device version) row) ≡ accepted d
      → (out left : List ℕ) (r : Result ℕ Question) → leaves r left ≡ writes (device 3) (image d) out → length row ≤ length out
      → (r ≡ Ok (length row)) × (left ≡ row ++ drop (length row) out)

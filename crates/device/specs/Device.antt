-- What the answers about a device row say: the courier settings, and which value stands at the places that a check found.
-- Assumes nothing.
use Rattle.std.specs.Prelude.{ℕ, ◌+◌, ◌≤◌, List, Bool, true, cond, Result, Ok, Err, length, take, drop}
use Rattle.layout.specs.declared.question.Question.{Question}
use Rattle.layout.specs.Questions.{COURIER_CONFIG}
use Rattle.layout.specs.Layout.{Answer, accepted, refused_by}
use Rattle.rows.specs.Values as value
use Rattle.rows.specs.Checks.{courier_allowed}
use Rattle.device.specs.declared.CourierConfig.{CourierConfig}
use Rattle.device.specs.declared.DeviceAt.{DeviceAt}

-- ---- courier settings
abbrev pub config_of : Bool → ℕ → ℕ → CourierConfig
config_of enabled copies lifetime = record { lifetime_min = lifetime; copies = copies; enabled = enabled }

-- question 11, of settings that are in no row yet
unfoldable pub new_config : Bool → ℕ → ℕ → Answer CourierConfig
new_config enabled copies lifetime = cond (courier_allowed copies lifetime) (accepted (config_of enabled copies lifetime)) (refused_by COURIER_CONFIG)

abbrev pub default_config : CourierConfig
default_config = config_of true 6 1440

-- ---- checking
-- the device of these numbers: its key stands at 4
abbrev pub device_from : List ℕ → DeviceAt → value.Device
device_from row at = record {
  beacon_day = at.beacon_day;
  beacon_key = take 32 (drop 4 row);
  next_contact = at.next_contact;
  read_receipts = at.read_receipts;
  enabled = at.courier.enabled;
  copies = at.courier.copies;
  lifetime_min = at.courier.lifetime_min;
}

-- the key lies in the row
abbrev pub Offsets : List ℕ → Type 0
Offsets row = 4 + 32 ≤ length row

abbrev pub Placed : List ℕ → Result DeviceAt Question → Type 0
Placed row (Ok at) = Offsets row
Placed row (Err q) = Unit {0}

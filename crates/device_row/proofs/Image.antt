-- What reading the row that a device stands for answers, and how long the row is.
-- Assumes nothing.
use mathlib.Core.List.{[], ◌∷◌, ◌++◌, append-nil}
use mathlib.Core.Bool.{Bool, true, false, cond}
use mathlib.Core.Option.{none, some}
use mathlib.Core.Path.{◌≡◌, refl}
use native.Mathlib.Omega.{arith}
use lib.ListN.{length, length-append}
use Rattle.layout.specs.Questions.{COURIER_CONFIG}
use Rattle.layout.specs.Form.{bytes_of, flag_of, flag_byte}
use Rattle.layout.specs.Layout.{fits_of, refusal_of, accepted, refused_by, read_row}
use Rattle.layout.specs.Layout as layout
use Rattle.layout.specs.Write.{wrote, refuses, asked}
use Rattle.layout.specs.Write as write
use Rattle.layout.proofs.Front.{byte-print, length-bytes_of}
use Rattle.rows.specs.Checks.{courier_allowed}
use Rattle.rows.specs.Rows.{device}
use Rattle.put.proofs.Put.{wrote-long}
use Rattle.rows.proofs.Proved.{proved}
use Rattle.device_row.specs.Row.{value_of, image, courier_part, DeviceTyped}
use Rattle.device_row.specs.declared.Device.{Device}

-- a & b & c is (a, (b, c))
infixr 2 ◌&◌
◌&◌ : {A B : Type 0} → A → B → A × B
a & b = (a, b)

flag-fits : (t : Bool) → flag_of (flag_byte t) ≡ some t
flag-fits true = refl
flag-fits false = refl

module _ (d : Device) (ty : DeviceTyped d) where
  -- ---- the row's bytes
  pub image-is : image d
      ≡ bytes_of 4 d.beacon_day ++ (d.beacon_key ++ (bytes_of 8 d.next_contact ++ ((flag_byte d.read_receipts ∷ []) ++ courier_part d.courier)))
  unfolding image courier_part layout.print
  image-is = rw (byte-print d.courier.copies ty.copies, append-nil (bytes_of 2 d.courier.lifetime_min))

  pub length-image : length (image d) ≡ 49
  unfolding courier_part
  length-image = rw image-is (simp (length-append, length-bytes_of) (omega (arith, ty.beacon_key)))

  -- ---- what reading it answers
  fits : fits_of (device 3) (value_of d) []
  unfolding layout.print
  fits =
      ty.beacon_day & ty.beacon_key & ty.next_contact & flag-fits d.read_receipts
      & flag-fits d.courier.enabled & ty.copies & ty.lifetime_min & refl & refl

  module _ (allowed : Bool) (is : courier_allowed d.courier.copies d.courier.lifetime_min ≡ allowed) where
    refusal_is : refusal_of (device 3) (value_of d) ≡ cond allowed none (some COURIER_CONFIG)
    unfolding layout.refusal_of
    refusal_is = rw is

  pub image-read : courier_allowed d.courier.copies d.courier.lifetime_min ≡ true → read_row (device 3) (image d) ≡ accepted (value_of d)
  unfolding image
  image-read h = (proved.device 3).laws.print-read (value_of d) (record { fits = fits; granted = refusal_is true h })

  pub image-refused : courier_allowed d.courier.copies d.courier.lifetime_min ≡ false → read_row (device 3) (image d) ≡ refused_by COURIER_CONFIG
  unfolding image
  image-refused h = (proved.device 3).laws.print-refused (value_of d) COURIER_CONFIG fits (refusal_is false h)

  -- ---- what a writer asks
  pub asked-yes : courier_allowed d.courier.copies d.courier.lifetime_min ≡ true → asked (device 3) (image d) ≡ wrote 49
  unfolding write.asked
  asked-yes h = rw (image-read h, length-image)

  pub asked-no : courier_allowed d.courier.copies d.courier.lifetime_min ≡ false → asked (device 3) (image d) ≡ refuses COURIER_CONFIG
  unfolding write.asked
  asked-no h = rw (image-refused h)

-- what shows that there is room for the next part
pub ruleset room = (length-image, wrote-long)

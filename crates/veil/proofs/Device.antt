-- Devices: with 0 for its key, the struct that was read stands for the veiled value.
-- Assumes nothing.
use Prim.Native.Nat.{ℕ}
use mathlib.Core.List.{List}
use mathlib.Core.Path.{◌≡◌, ap, subst, ◌∙◌}
use lib.ListN.{length}
use Rattle.layout.specs.Veil.{veil, zeros}
use Rattle.layout.specs.Layout.{accepted, read_row, print, blank_of}
use Rattle.layout.specs.Layout as layout
use Rattle.layout.specs.RowLaws.{Bytes}
use Rattle.layout.specs.Says.{made}
use Rattle.layout.specs.Write.{writes}
use Rattle.rows.specs.Values as value
use Rattle.rows.specs.Rows.{device}
use Rattle.rows.proofs.Proved.{proved}
use Rattle.rows.proofs.RoundTrip.{three}
use Rattle.device_row.specs.Row as spec
use Rattle.device_row.specs.Row.{device_of, value_of, image}
use Rattle.device_row.specs.declared.Device.{Device}
use Rattle.veil.specs.Veil.{veils}
use Rattle.veil.proofs.Copied.{granted, copied}

-- the struct without its key
abbrev pub unkeyed : Device → Device
unkeyed d = record { next_contact = d.next_contact; beacon_day = d.beacon_day; courier = d.courier; read_receipts = d.read_receipts; beacon_key = zeros 32 }

value-is : (v : value.Device) → length v.beacon_key ≡ 32 → value_of (unkeyed (device_of v)) ≡ blank_of (device 3) veil v
unfolding layout.blank_of
value-is v long = rw long

module _ (version : ℕ) (row : List ℕ) (by : Bytes row) {read : Device} (told : accepted read ≡ made device_of (read_row (device version) row)) where
  pub device-copied : (out : List ℕ) → writes (device 3) (image (unkeyed read)) out ≡ veils (device version) row out
  unfolding spec.image
  device-copied out =
      let yes = granted device_of (device version) row told in
      let v = yes.value in
      let known = three _ version row yes.is in
      let long = ((proved.device version).laws.read-valid row by v yes.is).fits.1.0 in
      ap (λ (x : Device). writes (device 3) (image (unkeyed x)) out) yes.made-is
      ∙ ap (λ (x : value.Device). writes (device 3) (print (device 3) x) out) (value-is v long)
      ∙ copied (device 3) row out (proved.device 3) by (subst (λ (n : ℕ). read_row (device n) row ≡ accepted v) known yes.is)
      ∙ rw known

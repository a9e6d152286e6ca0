-- What is written of a device is read back as the same struct, and what is read is written back as the same bytes.
-- Assumes nothing.
use Prim.Native.Nat.{ℕ, ◌≤◌}
use mathlib.Core.List.{List, ◌++◌}
use mathlib.Core.Bool.{Bool, true, false}
use mathlib.Core.Path.{◌≡◌, refl, sym, ap, ◌∙◌}
use lib.ListN.{length, take, drop}
use Rattle.std.specs.Prelude.{Result, Ok, Err}
use Rattle.layout.specs.declared.question.Question.{Question}
use Rattle.layout.specs.Layout.{Answer, accepted, refused_by, read_row}
use Rattle.layout.specs.RowLaws.{Bytes}
use Rattle.layout.specs.Write.{wrote, refuses, Left, asked, writes}
use Rattle.layout.specs.Write as write
use Rattle.layout.specs.Says.{made, written_says, leaves}
use Rattle.layout.proofs.Theorems.{accepted≢}
use Rattle.layout.proofs.Write.{wrote≢refuses, writes-row}
use Rattle.rows.specs.Checks.{courier_allowed}
use Rattle.rows.specs.Rows.{device}
use Rattle.rows.specs.Values as value
use Rattle.rows.proofs.Proved.{proved}
use Rattle.rows.proofs.RoundTrip.{stands, three}
use Rattle.device_row.specs.Row.{device_of, value_of, image, DeviceTyped, DeviceLaws}
use Rattle.device_row.specs.declared.Device.{Device}
use Rattle.device_row.proofs.Image.{image-read, asked-no}

length-is : (r : Result ℕ Question) {n : ℕ} → written_says r ≡ wrote n → r ≡ Ok n
length-is (Ok m) {n} e = let same : m ≡ n = cc in rw same
length-is (Err q) {n} e = absurd (wrote≢refuses (sym e))

-- ---- write, then read
module _ (d : Device) (ty : DeviceTyped d) where
  write_read : (n : ℕ) → asked (device 3) (image d) ≡ wrote n → made device_of (read_row (device 3) (image d)) ≡ accepted d
  write_read n e = go (courier_allowed d.courier.copies d.courier.lifetime_min) refl
    where
      go : (t : Bool) → courier_allowed d.courier.copies d.courier.lifetime_min ≡ t → made device_of (read_row (device 3) (image d)) ≡ accepted d
      go true h = rw (image-read d ty h)
      go false h = absurd (wrote≢refuses (sym e ∙ asked-no d ty h))

  row_read : (out left : List ℕ) (r : Result ℕ Question) (n : ℕ) → leaves r left ≡ writes (device 3) (image d) out → r ≡ Ok n
      → made device_of (read_row (device 3) (take n left)) ≡ accepted d
  unfolding write.asked
  row_read out left r n e known =
      let g = stands (device 3) (image d) out left {n = n} (sym (ap (λ (x : Result ℕ Question). leaves x left) known) ∙ e) in
      rw g.front (write_read (length (image d)) (rw g.read))

-- ---- read, then write
read-value : (a : Answer value.Device) {d : Device} → made device_of a ≡ accepted d → a ≡ accepted (value_of d)
read-value (accepted v) {d} e = let same : device_of v ≡ d = cc in ap (λ (x : Device). accepted (value_of x)) same
read-value (refused_by q) e = absurd (accepted≢ (sym e))

module _ (version : ℕ) (row : List ℕ) (by : Bytes row) (d : Device) (read : made device_of (read_row (device version) row) ≡ accepted d) where
  row-value : read_row (device 3) row ≡ accepted (value_of d)
  row-value =
      let e = read-value (read_row (device version) row) read in
      rw (three _ version row e) at e

  read-write : image d ≡ row
  unfolding image
  read-write = (proved.device 3).laws.read-print row by (value_of d) row-value

  written_row : (out : List ℕ) → length row ≤ length out → writes (device 3) (image d) out ≡ record { answer = wrote (length row); out = row ++ drop (length row) out }
  unfolding write.asked
  written_row out h = rw read-write (writes-row (device 3) row out (rw row-value) h)

  read-row : (out left : List ℕ) (r : Result ℕ Question) → leaves r left ≡ writes (device 3) (image d) out → length row ≤ length out
      → (r ≡ Ok (length row)) × (left ≡ row ++ drop (length row) out)
  read-row out left r e h =
      let w = e ∙ written_row out h in
      (length-is r (ap (λ (x : Left). x.answer) w), ap (λ (x : Left). x.out) w)

pub device-laws : DeviceLaws
device-laws = record { write_read = write_read; row_read = row_read; read-write = read-write; read-row = read-row }

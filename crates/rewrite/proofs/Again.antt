-- A row read and written again: what a reader's answer says of the definition, and that what is written is the row.
-- Assumes nothing.
use Prim.Native.Nat.{ℕ}
use mathlib.Core.List.{List}
use mathlib.Core.Path.{◌≡◌, refl, subst}
use Rattle.layout.specs.Layout.{Layout, Answer, accepted, refused_by, read_row}
use Rattle.layout.specs.RowLaws.{Bytes}
use Rattle.layout.specs.Says.{made}
use Rattle.layout.specs.Write.{Left, refuses, stored, judged, writes}
use Rattle.layout.specs.Write as write
use Rattle.layout.proofs.Theorems.{accepted≢}
use Rattle.sealed.proofs.Made.{judged-no}
use Rattle.rows.specs.Values as value
use Rattle.rows.specs.Rows.{device}
use Rattle.rows.proofs.Proved.{proved}
use Rattle.rows.proofs.RoundTrip.{three, rewritten}
use Rattle.device_row.specs.Row as spec
use Rattle.device_row.specs.Row.{device_of, image}
use Rattle.device_row.specs.declared.Device.{Device}

module _ {A B : Type 0} (f : A → B) (l : Layout A) (row out : List ℕ) where
  pub refused-row : {q : ℕ} → refused_by q ≡ made f (read_row l row) → ◌≡◌ {A = Left} (record { answer = refuses q; out = out }) (writes l row out)
  unfolding write.writes
  refused-row told = judged-no f (read_row l row) told row out

  -- what a writer left that stores the row
  pub granted-row : {b : B} → accepted b ≡ made f (read_row l row) → {left : Left} → left ≡ stored row out → left ≡ writes l row out
  unfolding write.writes
  granted-row {b} told {left} w = go (read_row l row) told
    where
      go : (a : Answer A) → accepted b ≡ made f a → left ≡ judged a row out
      go (accepted v) e = w
      go (refused_by p) e = absurd (accepted≢ e)

-- the law of queued and courier rows, of a device row
pub device-read-write : (version : ℕ) (row : List ℕ) → Bytes row → {read : Device} → accepted read ≡ made device_of (read_row (device version) row)
    → (out : List ℕ) → writes (device 3) (image read) out ≡ stored row out
unfolding spec.image
device-read-write version row by {read} told out = go (read_row (device version) row) refl told
  where
    go : (a : Answer value.Device) → read_row (device version) row ≡ a → accepted read ≡ made device_of a → writes (device 3) (image read) out ≡ stored row out
    go (accepted v) e h =
        let known : read_row (device 3) row ≡ accepted v = subst (λ (n : ℕ). read_row (device n) row ≡ accepted v) (three _ version row e) e in
        let same : read ≡ device_of v = cc in
        rw same (rewritten (device 3) (proved.device 3).laws row by v known out)
    go (refused_by p) e h = absurd (accepted≢ h)

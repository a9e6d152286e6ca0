-- What is taken ends in the row, whatever its bytes are.
-- Assumes nothing.
use Prim.Native.Nat.{ℕ, ◌-◌, ◌≤◌}
use mathlib.Core.List.{List}
use mathlib.Core.Path.{◌≡◌}
use native.Mathlib.Omega.{arith}
use lib.ListN.{length, drop}
use Rattle.layout.specs.Read.{Read, value, refused}
use Rattle.layout.specs.Form.{Form}
use Rattle.layout.specs.Field.{takes, placed, read_at}
use Rattle.layout.specs.Field as field

pub ends_inside : {B : Type 0} (f : Form B) (row : List ℕ) (here : ℕ) {b : B} {next : ℕ} → takes b next ≡ read_at f row here → next ≤ length row
unfolding field.read_at
ends_inside {B} f row here {b} {next} e = go (f.read (drop here row)) e
  where
    go : (x : Read B) → takes b next ≡ placed row x → next ≤ length row
    go (value c rest) e = let same : next ≡ length row - length rest = cc in omega arith
    go (refused q) e = absurd (let z : ◌≡◌ {A = ℕ} 0 1 = cc in omega arith)

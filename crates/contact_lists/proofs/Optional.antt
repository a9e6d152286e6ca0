-- A part behind its flag, read along a row: the flag, and where it is 1 the part.
-- Assumes nothing.
use Prim.Native.Nat.{ℕ, ◌-◌, ◌≤◌}
use mathlib.Core.List.{List}
use mathlib.Core.Bool.{Bool, true, false}
use mathlib.Core.Option.{Option, none, some}
use mathlib.Core.Path.{◌≡◌, refl, ◌∙◌}
use native.Mathlib.Omega.{arith}
use lib.ListN.{length, drop, length-drop}
use Rattle.layout.specs.Read.{Read, value, refused, onto}
use Rattle.layout.specs.Form.{Form, flag, only_if}
use Rattle.layout.specs.Field.{Field, takes, refuses, placed, read_at}
use Rattle.layout.specs.Field as field
use Rattle.layout.specs.Layout.{optional, optional_layout}
use Rattle.layout.specs.RowLaws.{Bytes}
use Rattle.layout.proofs.Lawful.{Lawful}
use Rattle.layout.proofs.Front.{flag-lawful}
use Rattle.layout.proofs.Parts.{only_if-lawful}
use Rattle.layout.proofs.Along.{on, part-along}
use Rattle.layout.proofs.At.{took}

module _ {B : Type 0} (f : Form B) (law : Lawful f) (row : List ℕ) (by : Bytes row) (at : ℕ) where
  abbrev pub behind_flag : Bool → ℕ → Field (Option B)
  behind_flag true next = on (read_at f row next) (λ b end. takes (some b) end)
  behind_flag false next = takes none next

  pub optional-along : read_at (optional f) row at ≡ on (read_at flag row at) behind_flag
  unfolding field.read_at
  optional-along = part-along row by (optional_layout f) (flag-lawful, λ here. (only_if-lawful f law here, λ o. tt)) at tt ∙ flagged (read_at flag row at) refl
    where
      there : (x : Read B) → on (placed row (onto some x)) (λ o end. takes o end) ≡ on (placed row x) (λ b end. takes (some b) end)
      there (value b rest) = refl
      there (refused q) = refl

      part : (here : Bool) (next : ℕ) → next ≤ length row → on (read_at (only_if f here) row next) (λ o end. takes o end) ≡ behind_flag here next
      part true next h = there (f.read (drop next row))
      part false next h = let place : length row - length (drop next row) ≡ next = rw length-drop (omega arith) in rw place refl

      flagged : (x : Field Bool) → read_at flag row at ≡ x → on x (λ here next. on (read_at (only_if f here) row next) (λ o end. takes o end)) ≡ on x behind_flag
      flagged (takes here next) e = part here next (took row at flag flag-lawful by e).inside
      flagged (refuses q) e = refl

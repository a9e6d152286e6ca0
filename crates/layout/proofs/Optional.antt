-- A part behind a flag, read from a position of the row as code reads it: the flag, and then the part or nothing.
use Prim.Native.Nat.{ℕ}
use mathlib.Core.List.{List}
use mathlib.Core.Bool.{Bool, true, false, cond}
use mathlib.Core.Option.{none, some}
use mathlib.Core.Path.{◌≡◌, refl}
use Rattle.layout.specs.Form.{Form, flag}
use Rattle.layout.specs.Field.{Field, takes, refuses, read_at}
use Rattle.layout.specs.Layout.{optional}
use Rattle.layout.specs.RowLaws.{Bytes}
use Rattle.layout.proofs.Lawful.{Lawful}
use Rattle.layout.proofs.Front.{flag-lawful}
use Rattle.layout.proofs.At.{Took, took, refused-at, takes_at, refuses-at}
use Rattle.layout.proofs.Along.{on}
use Rattle.layout.proofs.Steps.{optional-some, optional-none, optional-no-flag, optional-no}

module _ {B : Type 0} (f : Form B) (law : Lawful f) (row : List ℕ) (by : Bytes row) (at : ℕ) where
  pub optional-along : read_at (optional f) row at ≡ on (read_at flag row at) (λ there mid. cond there (on (read_at f row mid) (λ b next. takes (some b) next)) (takes none mid))
  optional-along = go (read_at flag row at) refl
    where
      there : {mid : ℕ} → Took flag row at true mid → (x : Field B) → read_at f row mid ≡ x → read_at (optional f) row at ≡ on x (λ b next. takes (some b) next)
      there {mid} t (takes b next) e = let o = optional-some f row at t (took row mid f law by e) in takes_at row at (optional f) o.reads o.inside
      there {mid} t (refuses q) e = refuses-at row at (optional f) (optional-no f row at t (refused-at row mid f e))

      go : (x : Field Bool) → read_at flag row at ≡ x → read_at (optional f) row at ≡ on x (λ there mid. cond there (on (read_at f row mid) (λ b next. takes (some b) next)) (takes none mid))
      go (takes true mid) e = there (took row at flag flag-lawful by e) (read_at f row mid) refl
      go (takes false mid) e = let o = optional-none f row at (took row at flag flag-lawful by e) in takes_at row at (optional f) o.reads o.inside
      go (refuses q) e = refuses-at row at (optional f) (optional-no-flag f row at (refused-at row at flag e))

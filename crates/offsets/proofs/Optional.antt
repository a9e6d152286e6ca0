-- A part behind a flag, as its reader answers it: the places of the part, or nothing.
-- Assumes nothing.
use Prim.Native.Nat.{ℕ, ◌+◌}
use mathlib.Core.List.{List}
use mathlib.Core.Bool.{Bool, true, false}
use mathlib.Core.Option.{some}
use mathlib.Core.Path.{◌≡◌, refl, sym, ap, ◌∙◌}
use native.Mathlib.Omega.{arith}
use Rattle.std.specs.Prelude as code
use Rattle.layout.specs.Form.{Form, flag}
use Rattle.layout.specs.Field.{read_at, takes, refuses}
use Rattle.layout.specs.Layout.{optional, optional_layout}
use Rattle.layout.specs.RowLaws.{Bytes}
use Rattle.layout.proofs.Lawful.{Lawful}
use Rattle.layout.proofs.Front.{flag-lawful}
use Rattle.layout.proofs.At.{took, refused-at}
use Rattle.layout.proofs.Steps.{optional-some, optional-none, optional-no-flag, optional-no}
use Rattle.offsets.specs.Offset.{offset, located, optional_at}
use Rattle.offsets.proofs.Offset.{flag-next, locates, locates-not, located-at, located-not}

module _ {B P : Type 0} (f : Form B) (law : Lawful f) (places : ℕ → B → P) (row : List ℕ) (by : Bytes row) (at : ℕ) where
  pub no-flag : {q : ℕ} → refuses q ≡ read_at flag row at → refuses q ≡ located (optional_at f places at) (read_at (optional f) row at)
  no-flag e = locates-not row at (optional f) (optional_at f places at) (optional-no-flag f row at (refused-at row at flag (sym e)))

  pub absent : {t : Bool} {next : ℕ} → takes t next ≡ read_at flag row at → t ≡ false → takes code.None next ≡ located (optional_at f places at) (read_at (optional f) row at)
  absent {t} {next} e clear =
      let o = optional-none f row at (took row at flag flag-lawful by (sym (rw clear at e))) in
      locates row at (optional f) (optional_at f places at) o.reads o.inside refl

  module _ {t : Bool} {mid : ℕ} (e : takes t mid ≡ read_at flag row at) (set : t ≡ true) where
    pub not_read : {q : ℕ} → refuses q ≡ located (places mid) (read_at f row mid) → refuses q ≡ located (optional_at f places at) (read_at (optional f) row at)
    not_read stopped =
        let set-took = took row at flag flag-lawful by (sym (rw set at e)) in
        locates-not row at (optional f) (optional_at f places at) (optional-no f row at set-took (refused-at row mid f (located-not (places mid) _ (sym stopped))))

    pub there : {p : P} {next : ℕ} → takes p next ≡ located (places mid) (read_at f row mid) → takes (code.Some p) next ≡ located (optional_at f places at) (read_at (optional f) row at)
    there stood =
        let set-took = took row at flag flag-lawful by (sym (rw set at e)) in
        let its = located-at (places mid) _ (sym stood) in
        let o = optional-some f row at set-took (took row mid f law by its.read) in
        let behind : mid ≡ at + offset (optional_layout f) 1 (some its.value) = omega (arith, flag-next row at by (sym e)) in
        locates row at (optional f) (optional_at f places at) o.reads o.inside (ap code.Some (its.place ∙ ap (λ (n : ℕ). places n its.value) behind))

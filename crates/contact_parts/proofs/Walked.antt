-- A part that was read along its layout, or refused, as its reader answers it: by places.
-- Assumes nothing.
use Prim.Native.Nat.{ℕ}
use mathlib.Core.List.{List}
use mathlib.Core.Path.{◌≡◌, sym, ap, ◌∙◌}
use Rattle.layout.specs.Form.{Form}
use Rattle.layout.specs.Field.{read_at, takes, refuses}
use Rattle.layout.specs.Layout.{Layout, field, group}
use Rattle.layout.specs.RowLaws.{Bytes}
use Rattle.layout.proofs.Along.{along, Fields, Starts, part-along}
use Rattle.layout.proofs.Walk.{Comes, goes, stops}
use Rattle.offsets.specs.Offset.{located}
use Rattle.offsets.proofs.Offset.{located-at, located-not}

module _ {A P : Type 0} (l : Layout A) (fields : Fields l) (row : List ℕ) (by : Bytes row) (at : ℕ) (starts : Starts l row at) (places : A → P) where
  pub refuses_here : {q : ℕ} → refuses q ≡ along l row at → refuses q ≡ located places (read_at (group l) row at)
  refuses_here e = ap (located places) (e ∙ sym (part-along row by l fields at starts))

  pub stands_here : {v : A} {next : ℕ} {p : P} → takes v next ≡ along l row at → p ≡ places v → takes p next ≡ located places (read_at (group l) row at)
  stands_here {next = next} e place = ap (λ (p : P). takes p next) place ∙ ap (located places) (e ∙ sym (part-along row by l fields at starts))

-- ---- a step over a field whose reader answers places
module _ {A B P : Type 0} (places : B → P) {l : Layout A} {row : List ℕ} {from here : ℕ} {f : Form B} {get : A → B} {k : B → Layout A} (c : Comes l row from (field f get k) here) where
  pub goes_by : {p : P} {next : ℕ} → (e : takes p next ≡ located places (read_at f row here)) → Comes l row from (k (located-at places (read_at f row here) (sym e)).value) next
  goes_by e = goes c (sym (located-at places (read_at f row here) (sym e)).read)

  pub stops_by : {q : ℕ} → refuses q ≡ located places (read_at f row here) → refuses q ≡ along l row from
  stops_by e = stops c (sym (located-not places (read_at f row here) (sym e)))

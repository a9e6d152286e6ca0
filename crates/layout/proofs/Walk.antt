-- A layout read along a row, step by step: how far it was read, and what that says of the whole.
-- Each step takes the fact about one field or question alone, so what follows in the layout stays closed, whatever its size.
-- Assumes nothing.
use Prim.Native.Nat.{ℕ}
use mathlib.Core.List.{List}
use mathlib.Core.Bool.{Bool, true, false}
use mathlib.Core.Path.{◌≡◌, refl, sym, ◌∙◌}
use Rattle.layout.specs.Veil.{Sensitivity, plain}
use Rattle.layout.specs.Form.{Form, bytes}
use Rattle.layout.specs.Field.{takes, refuses, read_at}
use Rattle.layout.specs.Layout.{Layout, done, field, ask}
use Rattle.layout.proofs.Along.{along, any-run}

module _ {A : Type 0} (l : Layout A) (row : List ℕ) (from : ℕ) where
  -- what is left to read is `rest`, at `here`
  pub record Comes (rest : Layout A) (here : ℕ) : Type 0 where
    pub same : along l row from ≡ along rest row here

  pub start : Comes l from
  start = record { same = refl }

module _ {A : Type 0} {l : Layout A} {row : List ℕ} {from here : ℕ} where
  module _ {B : Type 0} {f : Form B} {get : A → B} {k : B → Layout A} (c : Comes l row from (field f get k) here) where
    pub goes : {b : B} {next : ℕ} → takes b next ≡ read_at f row here → Comes l row from (k b) next
    goes e = record { same = c.same ∙ rw (← e) refl }

    pub stops : {q : ℕ} → refuses q ≡ read_at f row here → refuses q ≡ along l row from
    stops e = sym (c.same ∙ rw (← e) refl)

  -- a run is read alike whatever its sensitivity
  module _ (s : Sensitivity) (n : ℕ) {get : A → List ℕ} {k : List ℕ → Layout A} (c : Comes l row from (field (bytes s n) get k) here) where
    pub runs : {bs : List ℕ} {next : ℕ} → takes bs next ≡ read_at (bytes plain n) row here → Comes l row from (k bs) next
    runs e = goes c (e ∙ sym (any-run s n row here))

    pub cut : {q : ℕ} → refuses q ≡ read_at (bytes plain n) row here → refuses q ≡ along l row from
    cut e = stops c (e ∙ sym (any-run s n row here))

  module _ {q : ℕ} {t : Bool} {k : Layout A} (c : Comes l row from (ask q t k) here) where
    pub granted : t ≡ true → Comes l row from k here
    granted e = record { same = c.same ∙ rw e refl }

    pub denied : t ≡ false → refuses q ≡ along l row from
    denied e = sym (c.same ∙ rw e refl)

  pub all : {a : A} → Comes l row from (done a) here → takes a here ≡ along l row from
  all c = sym c.same

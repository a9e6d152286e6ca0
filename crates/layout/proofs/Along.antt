-- A layout read field by field from a position of the row, as code reads it: what the definitions read of the row's rest is that.
-- Assumes nothing.
use Prim.Native.Nat.{ℕ, ◌-◌, ◌≤◌, ◌<◌}
use mathlib.Core.List.{List}
use mathlib.Core.Bool.{true, false, cond}
use mathlib.Core.Path.{◌≡◌, refl, sym, ap, ◌∙◌}
use native.Mathlib.Omega.{arith}
use lib.ListN.{length, drop, length-drop, drop_of_length-le}
use lib.Seq.{drop-cons}
use Rattle.layout.specs.Read.{Read, value, refused, and_then}
use Rattle.layout.specs.Veil.{Sensitivity, plain}
use Rattle.layout.specs.Form.{Form, bytes, no_more}
use Rattle.layout.specs.Field.{Field, takes, refuses, placed, read_at}
use Rattle.layout.specs.Layout.{Layout, done, field, ask, parse, group, Answer, accepted, refused_by, answer, read_row}
use Rattle.layout.specs.RowLaws.{Bytes}
use Rattle.layout.proofs.Lawful.{Lawful}
use Rattle.layout.proofs.At.{Took, took}

module _ {B A : Type 0} where
  abbrev pub on : Field B → (B → ℕ → Field A) → Field A
  on (takes b next) k = k b next
  on (refuses q) k = refuses q

module _ {A : Type 0} where
  abbrev pub along : Layout A → List ℕ → ℕ → Field A
  along (done a) row at = takes a at
  along (field f get k) row at = on (read_at f row at) (λ b next. along (k b) row next)
  along (ask q t k) row at = cond t (along k row at) (refuses q)

  abbrev pub asked_of : Field A → Answer A
  asked_of (takes a next) = accepted a
  asked_of (refuses q) = refused_by q

  -- each field's form is lawful
  abbrev pub Fields : Layout A → Type 0
  Fields (done a) = Unit {0}
  Fields (field f get k) = Lawful f × ((b : _) → Fields (k b))
  Fields (ask q t k) = Fields k

  -- a layout without a field leaves the position, so that this has to lie in the row
  abbrev pub Starts : Layout A → List ℕ → ℕ → Type 0
  Starts (done a) row at = at ≤ length row
  Starts (field f get k) row at = Unit {0}
  Starts (ask q t k) row at = Starts k row at

left : {B : Type 0} {b : B} {rest rest' : List ℕ} → value b rest ≡ value b rest' → rest ≡ rest'
left e = cc

module _ {A : Type 0} (row : List ℕ) (by : Bytes row) where
  starts : (l : Layout A) (at : ℕ) → at ≤ length row → Starts l row at
  starts (done a) at h = h
  starts (field f get k) at h = tt
  starts (ask q t k) at h = starts k at h

  -- one field: what follows it goes on at the next position
  module _ {B : Type 0} (f : Form B) (law : Lawful f) (k : B → Layout A) (at : ℕ)
      (goes_on : (b : B) (next : ℕ) → next ≤ length row → placed row (parse (k b) (drop next row)) ≡ along (k b) row next) where
    field-along : (x : Read B) → f.read (drop at row) ≡ x → placed row (and_then x (λ b rest. parse (k b) rest)) ≡ on (placed row x) (λ b next. along (k b) row next)
    unfolding read_at
    field-along (value b rest) e =
        let next : ℕ = length row - length rest in
        let t : Took f row at b next = took row at f law by (ap (λ (x : Read B). placed row x) e) in
        let same : rest ≡ drop next row = left (sym e ∙ t.reads) in
        ap (λ (r : List ℕ). placed row (parse (k b) r)) same ∙ goes_on b next t.inside
    field-along (refused q) e = refl

  goes_along : (l : Layout A) → Fields l → (at : ℕ) → Starts l row at → placed row (parse l (drop at row)) ≡ along l row at
  unfolding parse read_at
  goes_along (done a) fs at h = let same : length row - length (drop at row) ≡ at = rw length-drop (omega arith) in rw same refl
  goes_along (field f get k) fs at h = field-along f fs.0 k at (λ b next i. goes_along (k b) (fs.1 b) next (starts (k b) next i)) (f.read (drop at row)) refl
  goes_along (ask q true k) fs at h = goes_along k fs at h
  goes_along (ask q false k) fs at h = refl

  -- a part of a row, and a whole row
  pub part-along : (l : Layout A) → Fields l → (at : ℕ) → Starts l row at → read_at (group l) row at ≡ along l row at
  unfolding read_at
  part-along = goes_along

  pub row-along : (l : Layout A) → Fields l → Starts l row 0 → read_row l row ≡ asked_of (along l row 0)
  row-along l fs h = said (parse l row) ∙ ap asked_of (goes_along l fs 0 h)
    where
      said : (x : Read A) → answer x ≡ asked_of (placed row x)
      said (value a rest) = refl
      said (refused q) = refl

-- a run is read alike whatever its sensitivity
pub any-run : (s : Sensitivity) (n : ℕ) (row : List ℕ) (at : ℕ) → read_at (bytes s n) row at ≡ read_at (bytes plain n) row at
unfolding read_at
any-run s n row at = refl

-- nothing is left, or something is
module _ (row : List ℕ) (at q : ℕ) where
  pub ends : length row ≤ at → read_at (no_more q) row at ≡ takes tt (length row)
  unfolding read_at
  ends h = let all : length row - 0 ≡ length row = omega arith in rw (drop_of_length-le row {i = at} h, all) refl

  pub goes_past : at < length row → read_at (no_more q) row at ≡ refuses q
  unfolding read_at
  goes_past h = rw (drop-cons row at 0 h) refl

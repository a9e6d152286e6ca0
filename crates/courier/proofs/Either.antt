-- A courier row begins with its kind: reading what it holds is reading the kind, and then what the kind says.
-- Assumes nothing.
use Prim.Native.Nat.{ℕ, ◌-◌}
use mathlib.Core.List.{List, [], ◌∷◌}
use mathlib.Core.Bool.{Bool, true, false, cond}
use mathlib.Core.Option.{none, some}
use mathlib.Core.Logic.{◌⊎◌, inl, inr}
use mathlib.Core.Path.{◌≡◌, refl, sym, ap, ◌∙◌}
use native.Mathlib.Omega.{arith}
use lib.Dec.{eqb}
use lib.ListN.{length, drop}
use borrow.Author.Tests.{le-leb, eqb-true}
use Rattle.layout.specs.Questions.{CODE}
use Rattle.layout.specs.Read.{Read, value, refused, and_then, onto}
use Rattle.layout.specs.Form.{Form, or_refused, either}
use Rattle.layout.specs.Field.{Field, takes, placed, read_at}
use Rattle.layout.specs.RowLaws.{Bytes}
use Rattle.layout.proofs.Lawful.{Lawful}
use Rattle.layout.proofs.Front.{letter-lawful, none≢some}
use Rattle.layout.proofs.At.{Took, took}
use Rattle.layout.proofs.Along.{on}
use Rattle.courier.specs.Courier.{kind_of, kind_byte, kind_form}
use Rattle.courier.specs.declared.Kind.{Kind}
use Rattle.courier.specs.declared.Kind.TheVariants.{Carried, Tombstone}

kind-tells : (x : ℕ) (k : Kind) → kind_of x ≡ some k → kind_byte k ≡ x
kind-tells x k = go (eqb x 0) (eqb x 1) refl refl
  where
    go : (s t : Bool) → eqb x 0 ≡ s → eqb x 1 ≡ t → cond s (some Carried) (cond t (some Tombstone) none) ≡ some k → kind_byte k ≡ x
    go true t p q e = let f : k ≡ Carried = cc in rw f (sym (eqb-true x 0 p))
    go false true p q e = let f : k ≡ Tombstone = cc in rw f (sym (eqb-true x 1 q))
    go false false p q e = absurd (none≢some e)

pub kind-lawful : Lawful kind_form
kind-lawful = letter-lawful CODE kind_of kind_byte kind-tells

module _ {B C : Type 0} (f : Form B) (g : Form C) where
  -- what follows the kind
  abbrev holds : Kind → List ℕ → Read (B ⊎ C)
  holds Carried row = onto inl (f.read row)
  holds Tombstone row = onto inr (g.read row)

  -- the same, from a position of the row on
  abbrev pub held : List ℕ → Kind → ℕ → Field (B ⊎ C)
  held row Carried mid = on (read_at f row mid) (λ b next. takes (inl b) next)
  held row Tombstone mid = on (read_at g row mid) (λ c next. takes (inr c) next)

  either_is : (row : List ℕ) → (either CODE f g).read row ≡ and_then (kind_form.read row) holds
  either_is [] = refl
  either_is (x ∷ row) = rw (le-leb 1 (length (x ∷ row)) (omega arith)) (go (eqb x 0) (eqb x 1))
    where
      go : (s t : Bool) → cond s (onto inl (f.read row)) (cond t (onto inr (g.read row)) (refused CODE))
          ≡ and_then (or_refused CODE row (cond s (some Carried) (cond t (some Tombstone) none))) holds
      go true t = refl
      go false true = refl
      go false false = refl

  pub either-along : (row : List ℕ) → Bytes row → (at : ℕ) → read_at (either CODE f g) row at ≡ on (read_at kind_form row at) (held row)
  unfolding read_at
  either-along row by at = ap (placed row) (either_is (drop at row)) ∙ behind (kind_form.read (drop at row)) refl
    where
      put-in : {B' D : Type 0} (side : B' → D) (x : Read B') → placed row (onto side x) ≡ on (placed row x) (λ b next. takes (side b) next)
      put-in side (value b rest) = refl
      put-in side (refused q) = refl

      at-kind : (k : Kind) (next : ℕ) → placed row (holds k (drop next row)) ≡ held row k next
      at-kind Carried next = put-in inl (f.read (drop next row))
      at-kind Tombstone next = put-in inr (g.read (drop next row))

      behind : (x : Read Kind) → kind_form.read (drop at row) ≡ x → placed row (and_then x holds) ≡ on (placed row x) (held row)
      behind (value k rest) e =
          let next : ℕ = length row - length rest in
          let t : Took kind_form row at k next = took row at kind_form kind-lawful by (ap (placed row) e) in
          let read : value k rest ≡ value k (drop next row) = sym e ∙ t.reads in
          let same : rest ≡ drop next row = cc in
          ap (λ (r : List ℕ). placed row (holds k r)) same ∙ at-kind k next
      behind (refused q) e = refl

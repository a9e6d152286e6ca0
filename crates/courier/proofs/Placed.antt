-- What stands at the places that `check_courier` answers: what is read of the courier row.
-- Assumes nothing.
use Prim.Native.Nat.{ℕ}
use mathlib.Core.List.{List}
use mathlib.Core.Logic.{inl, inr}
use mathlib.Core.Path.{◌≡◌, refl, sym, ap}
use native.Mathlib.Omega.{arith}
use Rattle.layout.specs.Questions.{CODE, SEALED_LENGTH}
use Rattle.layout.specs.Veil.{plain, veiled}
use Rattle.layout.specs.Read.{Read, value, refused}
use Rattle.layout.specs.Layout.{group, parse, Answer, accepted, refused_by, answer, read_row}
use Rattle.layout.specs.RowLaws.{Bytes}
use Rattle.layout.specs.Says.{made}
use Rattle.layout.proofs.Theorems.{accepted≢}
use Rattle.rows.specs.Values as value
use Rattle.rows.specs.Checks.{sealed_carried}
use Rattle.rows.specs.Rows.{carried, tombstone, courier}
use Rattle.rows.proofs.Lawful.{courier-lawful}
use Rattle.offsets.proofs.Offset.{Stands, stands-first, field-stands, row-stands, offset-inside, run_is, run_inside, to-end-is, either_left, either-right}
use Rattle.courier.specs.Courier.{carried_at, tombstone_at, held_at, carried_from, CarriedOffsets, tombstone_from, TombstoneOffsets, held_from, Offsets}
use Rattle.courier.specs.declared.HeldAt.{HeldAt}
use Rattle.courier.specs.declared.HeldAt.TheVariants as held

module _ (row : List ℕ) where
  module _ (from : ℕ) (c : value.Carried) (s : Stands (group carried) c row from) where
    carried-is : carried_from row (carried_at from c) ≡ c
    carried-is = λ i. record {
      depositor = c.depositor;
      tag = run_is plain 16 (field-stands row carried 1 c s) i;
      c = run_is plain 16 (field-stands row carried 2 c s) i;
      expiry_min = c.expiry_min;
      copies = c.copies;
      sealed = to-end-is veiled SEALED_LENGTH sealed_carried (field-stands row carried 5 c s) i;
    }

    carried-inside : CarriedOffsets row (carried_at from c)
    carried-inside =
        let tag = run_inside plain 16 (field-stands row carried 1 c s) (omega arith) in
        record {
          tag = tag;
          c = run_inside plain 16 (field-stands row carried 2 c s) (omega arith);
          sealed = offset-inside row carried 5 c s (omega (arith, tag));
        }

  module _ (from : ℕ) (t : value.Tombstone) (s : Stands (group tombstone) t row from) where
    tombstone-is : tombstone_from row (tombstone_at from t) ≡ t
    tombstone-is = λ i. record { tag = run_is plain 16 (field-stands row tombstone 0 t s) i; s = run_is veiled 16 (field-stands row tombstone 1 t s) i; expiry_min = t.expiry_min }

    tombstone-inside : TombstoneOffsets row (tombstone_at from t)
    tombstone-inside = record {
      tag = run_inside plain 16 (field-stands row tombstone 0 t s) (omega arith);
      s = run_inside veiled 16 (field-stands row tombstone 1 t s) (omega arith);
    }

  module _ (by : Bytes row) (version : ℕ) where
    pub held-says : {at : HeldAt} → accepted at ≡ made held_at (read_row (courier version) row) → (accepted (held_from row at) ≡ read_row (courier version) row) × Offsets row at
    held-says {at} = says (parse (courier version) row) refl
      where
        says : (x : Read value.Courier) → parse (courier version) row ≡ x → accepted at ≡ made held_at (answer x) → (accepted (held_from row at) ≡ answer x) × Offsets row at
        says (value (inl c) rest) read e =
            let s = either_left CODE (group carried) (group tombstone) (row-stands row (courier version) 0 (inl c) (stands-first (group (courier version)) (courier-lawful version) by read)) in
            let same : at ≡ held.Carried (carried_at 1 c) = cc in
            rw same (ap (λ (c : value.Carried). accepted (inl c)) (carried-is 1 c s), carried-inside 1 c s)
        says (value (inr t) rest) read e =
            let s = either-right CODE (group carried) (group tombstone) (row-stands row (courier version) 0 (inr t) (stands-first (group (courier version)) (courier-lawful version) by read)) in
            let same : at ≡ held.Tombstone (tombstone_at 1 t) = cc in
            rw same (ap (λ (t : value.Tombstone). accepted (inr t)) (tombstone-is 1 t s), tombstone-inside 1 t s)
        says (refused q) read e = absurd (accepted≢ e)

    pub held-not : {q : ℕ} → refused_by q ≡ made held_at (read_row (courier version) row) → refused_by q ≡ read_row (courier version) row
    held-not {q} e = not (read_row (courier version) row) e
      where
        not : (a : Answer value.Courier) → refused_by q ≡ made held_at a → refused_by q ≡ a
        not (accepted v) e = absurd (accepted≢ (sym e))
        not (refused_by p) e = let same : q ≡ p = cc in ap refused_by same

-- What the answers about a courier row say: its kind, and where its parts stand.
-- Assumes nothing.
use Rattle.std.specs.Prelude.{ℕ, ◌+◌, ◌≤◌, List, cond, Result, Ok, Err, length, take, drop, eqb}
use Rattle.std.proofs.Math.Option.{Option, none, some}
use Rattle.std.proofs.Common.{inl, inr}
use Rattle.layout.specs.declared.question.Question.{Question}
use Rattle.layout.specs.Questions.{CODE, number_of}
use Rattle.layout.specs.Form.{Form, letter}
use Rattle.layout.specs.Field.{Field, takes, refuses}
use Rattle.offsets.specs.Offset.{offset}
use Rattle.rows.specs.Values as value
use Rattle.rows.specs.Rows.{carried, tombstone}
use Rattle.courier.specs.declared.Kind.{Kind}
use Rattle.courier.specs.declared.Kind.TheVariants.{Carried, Tombstone}
use Rattle.courier.specs.declared.CarriedAt.{CarriedAt}
use Rattle.courier.specs.declared.TombstoneAt.{TombstoneAt}
use Rattle.courier.specs.declared.HeldAt.{HeldAt}
use Rattle.courier.specs.declared.HeldAt.TheVariants as held

-- the kind, as a field of its own: the byte with which a courier row begins
abbrev pub kind_of : ℕ → Option Kind
kind_of b = cond (eqb b 0) (some Carried) (cond (eqb b 1) (some Tombstone) none)

abbrev pub kind_byte : Kind → ℕ
kind_byte Carried = 0
kind_byte Tombstone = 1

abbrev pub kind_form : Form Kind
kind_form = letter CODE kind_of kind_byte

-- ---- what is carried at a place: its numbers, and where its runs start
abbrev pub carried_at : ℕ → value.Carried → CarriedAt
carried_at from c = record {
  depositor = record { 0 = c.depositor };
  tag = from + offset carried 1 c;
  c = from + offset carried 2 c;
  expiry_min = c.expiry_min;
  copies = c.copies;
  sealed = from + offset carried 5 c;
}

-- it ends where the row ends
abbrev pub carried_says : List ℕ → Result CarriedAt Question → Field CarriedAt
carried_says row (Ok at) = takes at (length row)
carried_says row (Err q) = refuses (number_of q)

-- ---- a tombstone at a place
abbrev pub tombstone_at : ℕ → value.Tombstone → TombstoneAt
tombstone_at from t = record { tag = from + offset tombstone 0 t; s = from + offset tombstone 1 t; expiry_min = t.expiry_min }

-- ---- a courier row: what it holds stands behind the byte of its kind
abbrev pub held_at : value.Courier → HeldAt
held_at (inl c) = held.Carried (carried_at 1 c)
held_at (inr t) = held.Tombstone (tombstone_at 1 t)

-- where the sealed text starts: a tombstone has none
abbrev pub sealed_at : List ℕ → HeldAt → ℕ
sealed_at row (held.Carried at) = at.sealed
sealed_at row (held.Tombstone at) = length row

-- ---- what stands at places of a row, and that these lie in it
abbrev pub carried_from : List ℕ → CarriedAt → value.Carried
carried_from row at = record {
  depositor = at.depositor.0;
  tag = take 16 (drop at.tag row);
  c = take 16 (drop at.c row);
  expiry_min = at.expiry_min;
  copies = at.copies;
  sealed = drop at.sealed row;
}

pub record CarriedOffsets (row : List ℕ) (at : CarriedAt) : Type 0 where
  pub tag : at.tag + 16 ≤ length row
  pub c : at.c + 16 ≤ length row
  pub sealed : at.sealed ≤ length row

abbrev pub tombstone_from : List ℕ → TombstoneAt → value.Tombstone
tombstone_from row at = record { tag = take 16 (drop at.tag row); s = take 16 (drop at.s row); expiry_min = at.expiry_min }

pub record TombstoneOffsets (row : List ℕ) (at : TombstoneAt) : Type 0 where
  pub tag : at.tag + 16 ≤ length row
  pub s : at.s + 16 ≤ length row

abbrev pub held_from : List ℕ → HeldAt → value.Courier
held_from row (held.Carried at) = inl (carried_from row at)
held_from row (held.Tombstone at) = inr (tombstone_from row at)

abbrev pub Offsets : List ℕ → HeldAt → Type 0
Offsets row (held.Carried at) = CarriedOffsets row at
Offsets row (held.Tombstone at) = TombstoneOffsets row at

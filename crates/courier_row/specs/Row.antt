-- What a reader leaves in the struct of a courier row, and which row a struct stands for.
-- Assumes nothing.
use Rattle.std.specs.Prelude.{ℕ, ◌-◌, ◌^◌, ◌<◌, List, [], Ok, ◌≡◌, length, take, drop}
use Rattle.std.proofs.Common.{inl, inr}
use Rattle.layout.specs.Veil.{zeros}
use Rattle.layout.specs.Layout.{accepted, read_row, print}
use Rattle.layout.specs.RowLaws.{Bytes}
use Rattle.layout.specs.Write.{stored, writes}
use Rattle.layout.specs.Says.{made, leaves}
use Rattle.rows.specs.Values as value
use Rattle.rows.specs.Rows.{courier}
use Rattle.courier.specs.declared.Kind.{Kind}
use Rattle.courier.specs.declared.Kind.TheVariants.{Carried, Tombstone}
use Rattle.courier_row.specs.declared.Held.{Held}
use Rattle.courier_row.specs.declared.HeldRead.{HeldRead}

-- ---- reading: 0 stands where the kind leaves something out
abbrev pub held_of : value.Courier → Held
held_of (inl x) = record {
  depositor = record { 0 = x.depositor };
  expiry_min = x.expiry_min;
  copies = x.copies;
  kind = Carried;
  tag = x.tag;
  c = x.c;
  s = zeros 16;
}
held_of (inr t) = record {
  depositor = record { 0 = 0 };
  expiry_min = t.expiry_min;
  copies = 0;
  kind = Tombstone;
  tag = t.tag;
  c = zeros 16;
  s = t.s;
}

-- the sealed text: of a tombstone there is none
abbrev pub text_of : value.Courier → List ℕ
text_of (inl x) = x.sealed
text_of (inr t) = []

-- and where it starts
abbrev pub read_of : List ℕ → value.Courier → HeldRead
read_of row v = record { sealed_at = length row - length (text_of v); held = held_of v }

abbrev pub parts : List ℕ → value.Courier → ℕ × Held
parts row v = ((read_of row v).sealed_at, (read_of row v).held)

-- ---- writing: the row that would be written is the print of the value that the struct and the sealed text stand for
abbrev pub carried_of : Held → List ℕ → value.Carried
carried_of h sealed = record { depositor = h.depositor.0; tag = h.tag; c = h.c; expiry_min = h.expiry_min; copies = h.copies; sealed = sealed }

abbrev pub tombstone_of : Held → value.Tombstone
tombstone_of h = record { tag = h.tag; s = h.s; expiry_min = h.expiry_min }

abbrev pub value_as : Kind → Held → List ℕ → value.Courier
value_as Carried h sealed = inl (carried_of h sealed)
value_as Tombstone h sealed = inr (tombstone_of h)

abbrev pub value_of : Held → List ℕ → value.Courier
value_of h sealed = value_as h.kind h sealed

unfoldable pub carried_image : Held → List ℕ → List ℕ
carried_image h sealed = print (courier 3) (inl (carried_of h sealed))

unfoldable pub tombstone_image : Held → List ℕ
tombstone_image h = print (courier 3) (inr (tombstone_of h))

unfoldable pub image : Held → List ℕ → List ℕ
image h sealed = print (courier 3) (value_of h sealed)

-- what the struct's type says
pub record HeldTyped (h : Held) : Type 0 where
  pub depositor : h.depositor.0 < 256 ^ 8
  pub expiry_min : h.expiry_min < 256 ^ 4
  pub copies : h.copies < 256
  pub tag : length h.tag ≡ 16
  pub c : length h.c ≡ 16
  pub s : length h.s ≡ 16

-- ---- what is proved of both (proofs/RoundTrip.antt)
-- `leaves (Ok n) left ≡ writes ..` is what `Held::row` ensures where it answers n and leaves the output as `left`; `made (read_of row) (read_row ..)` is what `read_courier` answers
pub record CourierLaws : Type 0 where
  -- write, then read: the same struct, with 0 for what its kind leaves out, and the sealed text in its place
  pub write_read : (h : Held) → HeldTyped h → (sealed out left : List ℕ) (n : ℕ) → leaves (Ok n) left ≡ writes (courier 3) (image h sealed) out
      → made (read_of (take n left)) (read_row (courier 3) (take n left))
      ≡ accepted (record { sealed_at = length (take n left) - length (text_of (value_of h sealed)); held = held_of (value_of h sealed) })
  pub write-sealed : (h : Held) (sealed out left : List ℕ) (n : ℕ) → leaves (Ok n) left ≡ writes (courier 3) (image h sealed) out
      → drop (length (take n left) - length (text_of (value_of h sealed))) (take n left) ≡ text_of (value_of h sealed)
  -- read, then write: the same bytes
  pub read-write : (version : ℕ) (row : List ℕ) → Bytes row → (read : HeldRead) → made (read_of row) (read_row (courier version) row) ≡ accepted read
      → (out : List ℕ) → writes (courier 3) (image read.held (drop read.sealed_at row)) out ≡ stored row out

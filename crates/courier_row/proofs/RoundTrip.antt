-- The round trips of a courier row, from the contracts of `Held::row` and `read_courier` alone.
-- Assumes nothing.
use Prim.Native.Nat.{ℕ, ◌-◌}
use mathlib.Core.List.{List, ◌∷◌, [], ◌++◌, append_assoc, append-nil}
use mathlib.Core.Logic.{inl, inr}
use mathlib.Core.Path.{◌≡◌, refl, sym, ap, subst, ◌∙◌}
use native.Mathlib.Omega.{arith}
use lib.ListN.{length, take, drop, drop_of_length-le}
use Rattle.std.specs.Prelude.{Ok}
use Rattle.layout.specs.Form.{bytes_of}
use Rattle.layout.specs.Layout.{Answer, accepted, refused_by, read_row, print, fits_of}
use Rattle.layout.specs.Layout as layout
use Rattle.layout.specs.RowLaws.{Bytes}
use Rattle.layout.specs.Write.{stored, writes}
use Rattle.layout.specs.Says.{made, leaves}
use Rattle.layout.proofs.Theorems.{accepted≢}
use Rattle.rows.specs.Values as value
use Rattle.rows.specs.Rows.{carried, courier}
use Rattle.rows.proofs.Proved.{proved}
use Rattle.rows.proofs.RoundTrip.{Stands, stands, printed-back, three, rewritten, last-at}
use Rattle.courier.specs.declared.Kind.{Kind}
use Rattle.courier.specs.declared.Kind.TheVariants.{Carried, Tombstone}
use Rattle.sealed.proofs.Made.{made-onto}
use Rattle.courier_row.specs.Row as spec
use Rattle.courier_row.specs.Row.{held_of, text_of, read_of, parts, value_as, value_of, image, HeldTyped, CourierLaws}
use Rattle.courier_row.specs.declared.Held.{Held}
use Rattle.courier_row.specs.declared.HeldRead.{HeldRead}
use Rattle.courier_row.proofs.Image.{carried-fits, tombstone-fits}

-- ---- a row's last bytes are its sealed text
front : value.Carried → List ℕ
front v = 0 ∷ (bytes_of 8 v.depositor ++ (v.tag ++ (v.c ++ (bytes_of 4 v.expiry_min ++ bytes_of 1 v.copies))))

print-is : (version : ℕ) (v : value.Carried) → print (courier version) (inl v) ≡ front v ++ v.sealed
unfolding layout.print front
print-is version v =
    append-nil (0 ∷ print carried v)
    ∙ ap (λ (l : List ℕ). 0 ∷ (bytes_of 8 v.depositor ++ (v.tag ++ (v.c ++ (bytes_of 4 v.expiry_min ++ (bytes_of 1 v.copies ++ l)))))) (append-nil v.sealed)
    ∙ sym (simp append_assoc)

pub sealed-last : (version : ℕ) (v : value.Courier) (row : List ℕ) → print (courier version) v ≡ row → drop (length row - length (text_of v)) row ≡ text_of v
sealed-last version (inl v) row e =
    subst (λ (l : List ℕ). drop (length l - length v.sealed) l ≡ v.sealed) (sym (print-is version v) ∙ e) (last-at (front v) v.sealed)
sealed-last version (inr t) row e = drop_of_length-le row {i = length row - 0} (omega arith)

-- ---- write, then read
value-fits : (h : Held) → HeldTyped h → (sealed : List ℕ) (k : Kind) → fits_of (courier 3) (value_as k h sealed) []
value-fits h ty sealed Carried = carried-fits h ty sealed
value-fits h ty sealed Tombstone = tombstone-fits h ty sealed

module _ (h : Held) (sealed out left : List ℕ) (n : ℕ) (contract : leaves (Ok n) left ≡ writes (courier 3) (image h sealed) out) where
  held : Stands (courier 3) (image h sealed) left n
  held = stands (courier 3) (image h sealed) out left contract

  is_read : HeldTyped h → read_row (courier 3) (take n left) ≡ accepted (value_of h sealed)
  unfolding spec.image
  is_read ty =
      ap (λ (row : List ℕ). read_row (courier 3) row) held.front
      ∙ printed-back (courier 3) (proved.courier 3).laws (value_of h sealed) (value-fits h ty sealed h.kind) held.read

  write-sealed : drop (length (take n left) - length (text_of (value_of h sealed))) (take n left) ≡ text_of (value_of h sealed)
  unfolding spec.image
  write-sealed = sealed-last 3 (value_of h sealed) (take n left) (sym held.front)

-- ---- read, then write
value-back : (v : value.Courier) → value_of (held_of v) (text_of v) ≡ v
value-back (inl v) = refl
value-back (inr t) = refl

read-write : (version : ℕ) (row : List ℕ) → Bytes row → (read : HeldRead) → made (read_of row) (read_row (courier version) row) ≡ accepted read
    → (out : List ℕ) → writes (courier 3) (image read.held (drop read.sealed_at row)) out ≡ stored row out
unfolding spec.image
read-write version row by read r out = go (read_row (courier version) row) refl r
  where
    go : (a : Answer value.Courier) → read_row (courier version) row ≡ a → made (read_of row) a ≡ accepted read
        → writes (courier 3) (image read.held (drop read.sealed_at row)) out ≡ stored row out
    go (accepted v) e h =
        let text = sealed-last version v row ((proved.courier version).laws.read-print row by v e) in
        let known : read_row (courier 3) row ≡ accepted v = subst (λ (n : ℕ). read_row (courier n) row ≡ accepted v) (three _ version row e) e in
        let same : read ≡ read_of row v = cc in
        ap (λ (x : HeldRead). writes (courier 3) (image x.held (drop x.sealed_at row)) out) same
        ∙ ap (λ (l : List ℕ). writes (courier 3) (image (held_of v) l) out) text
        ∙ ap (λ (x : value.Courier). writes (courier 3) (print (courier 3) x) out) (value-back v) ∙ rewritten (courier 3) (proved.courier 3).laws row by v known out
    go (refused_by p) e h = absurd (accepted≢ (sym h))

-- the same of the parts that `Held::read` takes
pub read-write-parts : (version : ℕ) (row : List ℕ) → Bytes row → (read : ℕ × Held) → accepted read ≡ made (parts row) (read_row (courier version) row)
    → (out : List ℕ) → writes (courier 3) (image read.1 (drop read.0 row)) out ≡ stored row out
read-write-parts version row by read r out =
    read-write version row by (record { sealed_at = read.0; held = read.1 }) (sym (made-onto (parts row) (λ (x : ℕ × Held). record { sealed_at = x.0; held = x.1 }) (read_row (courier version) row) r)) out

pub courier-laws : CourierLaws
courier-laws = record {
  write_read = λ h ty sealed out left n contract. ap (made (read_of (take n left))) (is_read h sealed out left n contract ty);
  write-sealed = write-sealed;
  read-write = read-write;
}

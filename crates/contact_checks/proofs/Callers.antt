-- For callers: 23 asks for no highest number, which is to ask for 2^32 - 1; and skipped keys in lent keys stand there as in a row.
-- Assumes nothing.
use Prim.Native.Nat.{ℕ, zero, suc, ◌-◌, ◌*◌, ◌≤◌}
use mathlib.Core.List.{List, [], ◌∷◌, ◌++◌, append-nil}
use mathlib.Core.Bool.{Bool, true, false, ◌&&◌}
use mathlib.Core.Option.{Option}
use mathlib.Core.Path.{◌≡◌, refl, sym, ap, ◌∙◌}
use native.Mathlib.Omega.{arith}
use lib.ListN.{length, get_or, take, drop, length-drop, take-append-drop, drop_of_length-le}
use lib.Seq.{length-take-le}
use borrow.Author.Tests.{le-leb}
use Rattle.layout.specs.Read.{value, onto, said}
use Rattle.layout.specs.Form.{Form, read_many}
use Rattle.layout.specs.Form as form
use Rattle.layout.specs.Field as at
use Rattle.layout.specs.Layout.{group}
use Rattle.layout.specs.RowLaws.{Bytes}
use Rattle.layout.proofs.Lawful.{split}
use Rattle.layout.proofs.Wrapped.{inner}
use Rattle.layout.proofs.Front.{big-below, bytes_take}
use Rattle.layout.proofs.At.{bytes_drop}
use Rattle.rows.specs.Values.{Skipped}
use Rattle.rows.specs.Checks.{canonical, none_above}
use Rattle.rows.specs.Rows.{skipped, range}
use Rattle.rows.proofs.Lawful.{skipped-lawful}
use Rattle.contact_lists.specs.Lists.{items, Stands}
use Rattle.contact_lists.specs.Lists as lists
use Rattle.contact_lists.specs.Places.{read_places, places_of}
use Rattle.contact_lists.specs.Places as places
use Rattle.received.specs.Lent.{pairs}
use Rattle.received.specs.Lent as flat
use Rattle.contact_checks.specs.Asked.{Placed}
use Rattle.contact_checks.specs.Cells.{cells}
use Rattle.contact_checks.specs.Cells as stand
use Rattle.contact_checks.proofs.Cells.{standing, all_shown}
use Rattle.contact_checks.proofs.Fields.{range_at, range-shows, skipped-shows}

-- ---- no number of 4 bytes is above 2^32 - 1
abbrev most : ℕ
most = 4294967295

alone : (a : Bool) {b : Bool} → b ≡ true → a && b ≡ a
alone true e = e
alone false e = refl

none-above-cells : (n : ℕ) (l : List ℕ) → Bytes l → none_above most (cells (λ l. 8) range_at n l) ≡ true
unfolding stand.cells
none-above-cells zero l by = refl
none-above-cells (suc n) l by =
    let below = big-below 4 (drop 4 l) (bytes_drop 4 l by) in
    rw (le-leb (range_at l).to most (omega arith)) (none-above-cells n (drop 8 l) (bytes_drop 8 l by))

pub canonical-in-row : (row : List ℕ) (first count from : ℕ) → Bytes row → Stands (group range) row first count
    → canonical from (items (group range) count (drop first row)) && none_above most (items (group range) count (drop first row)) ≡ canonical from (items (group range) count (drop first row))
canonical-in-row row first count from by s =
    let m = standing (λ l. 8) range_at (λ r. r) (group range) range-shows row first count s in
    alone (canonical from (items (group range) count (drop first row))) (sym (ap (none_above most) (all_shown (λ l. 8) range_at m)) ∙ none-above-cells count (drop first row) (bytes_drop first row by))

none-above-pairs : (k : ℕ) (l : List ℕ) → ((i : ℕ) → get_or l i 0 ≤ most) → none_above most (pairs k l) ≡ true
unfolding flat.pairs
none-above-pairs zero l h = refl
none-above-pairs (suc k) [] h = refl
none-above-pairs (suc k) (a ∷ []) h = refl
none-above-pairs (suc k) (a ∷ b ∷ l) h = rw (le-leb b most (h 1)) (none-above-pairs k l (λ i. h (suc (suc i))))

pub canonical-lent : (k from : ℕ) (l : List ℕ) → ((i : ℕ) → get_or l i 0 ≤ most) → canonical from (pairs k l) && none_above most (pairs k l) ≡ canonical from (pairs k l)
canonical-lent k from l h = alone (canonical from (pairs k l)) (none-above-pairs k l h)

-- ---- skipped keys in places of 46 bytes
abbrev key : Form Skipped
key = group skipped

-- a key that fills its place is read in front of the others as it is by itself
in-front : (l : List ℕ) (k : Skipped) (rest : List ℕ) → Bytes l → 46 ≤ length l → key.read (take 46 l) ≡ value k rest → key.read l ≡ value k (drop 46 l)
in-front l k rest by h e =
    let by46 = bytes_take 46 l by in
    let none_left : rest ≡ [] = sym (skipped-shows (take 46 l) k rest e).left ∙ drop_of_length-le (take 46 l) {i = 46} (rw (length-take-le 46 l h) (omega arith)) in
    let whole : key.print k ≡ take 46 l = sym (append-nil (key.print k)) ∙ ap (λ (r : List ℕ). key.print k ++ r) (sym none_left) ∙ skipped-lawful.joins (take 46 l) k rest by46 e in
    let back : key.read (key.print k ++ drop 46 l) ≡ value k (drop 46 l) =
    skipped-lawful.printed k (drop 46 l) (skipped-lawful.fitted (take 46 l) k rest by46 e) ∙ ap (λ (o : Option ℕ). said o k (drop 46 l)) (skipped-lawful.granted (take 46 l) k rest by46 e) in
    rw (whole, take-append-drop 46 l) at back

record Same (n : ℕ) (l : List ℕ) (ks : List Skipped) : Type 0 where
  pub left : List ℕ
  pub reads : read_many key n l ≡ value ks left

same : (n : ℕ) (l : List ℕ) (ks : List Skipped) (rest : List ℕ) → Bytes l → 46 * n ≤ length l → read_places 46 key n l ≡ value ks rest → Same n l ks
unfolding form.read_many places.read_places
same zero l ks rest by h e = record { left = l; reads = let none_read : [] ≡ ks = cc in rw none_read }
same (suc n) l ks rest by h e =
    let s = split (key.read (take 46 l)) (λ b mid. onto (λ bs. b ∷ bs) (read_places 46 key n (drop 46 l))) ks rest e in
    let i = inner (λ bs. s.got ∷ bs) (read_places 46 key n (drop 46 l)) ks rest s.second in
    let more = same n (drop 46 l) i.got rest (bytes_drop 46 l by) (rw length-drop (omega arith)) i.read in
    record { left = more.left; reads = rw (in-front l s.got s.mid by (omega arith) s.first, more.reads, i.wraps) }

module _ (lent : List ℕ) (count : ℕ) (by : Bytes lent) (p : Placed 46 (group skipped) lent count) where
  pub skipped-stand : Stands (group skipped) lent 0 count
  unfolding at.read_at
  skipped-stand =
      let s = same count lent p.records p.rest by p.room p.so in
      record { next = length lent - length s.left; so = record { starts = omega arith; ends = rw s.reads } }

  pub skipped-items : items (group skipped) count lent ≡ places_of 46 (group skipped) count lent
  unfolding lists.items places.places_of
  skipped-items =
      let s = same count lent p.records p.rest by p.room p.so in
      rw (s.reads, p.so)

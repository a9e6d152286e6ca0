-- Laws of items that stand in bytes: those that were read are those that stand there, and a loop goes from one to the next.
-- Assumes nothing.
use Prim.Native.Nat.{ℕ, zero, suc, ◌+◌, ◌-◌, ◌*◌, ◌≤◌, ◌<◌}
use mathlib.Core.List.{List, [], ◌∷◌, map, map-id}
use mathlib.Core.Path.{◌≡◌, refl, sym, ◌∙◌}
use native.Mathlib.Omega.{arith}
use native.Mathlib.Nat.{mul-suc}
use native.Mathlib.Numerals.{add-one}
use lib.ListN.{length, take, drop, length-drop}
use lib.Seq.{drop-drop}
use Rattle.layout.specs.Read.{Read, value, refused, onto}
use Rattle.layout.specs.Form.{Form, read_many}
use Rattle.layout.specs.Form as form
use Rattle.layout.specs.Field.{takes, placed, read_at}
use Rattle.layout.specs.Field as field
use Rattle.layout.proofs.Lawful.{split}
use Rattle.layout.proofs.Wrapped.{inner}
use Rattle.reader.specs.Reader.{ended}
use Rattle.contact_lists.specs.Lists.{items, items_of, Stands}
use Rattle.contact_lists.specs.Lists as lists
use Rattle.contact_lists.specs.Places.{read_places, places_of}
use Rattle.contact_lists.specs.Places as places
use Rattle.contact_checks.specs.Asked.{Placed}
use Rattle.contact_checks.specs.Cells.{cells, Rooms, rooms-none, rooms-more}
use Rattle.contact_checks.specs.Cells as stand

-- ---- what was read is what stands there
-- an item that was read at the front of l: where it ends, and what of it is looked at
pub record Shows {B C : Type 0} (width : List ℕ → ℕ) (cell : List ℕ → C) (of : B → C) (l : List ℕ) (b : B) (rest : List ℕ) : Type 0 where
  pub room : width l ≤ length l
  pub left : drop (width l) l ≡ rest
  pub is : of b ≡ cell l

pub record Many {B C : Type 0} (width : List ℕ → ℕ) (cell : List ℕ → C) (of : B → C) (n : ℕ) (l : List ℕ) (bs : List B) : Type 0 where
  pub rooms : Rooms width n l
  pub are : map of bs ≡ cells width cell n l

module _ {B C : Type 0} (width : List ℕ → ℕ) (cell : List ℕ → C) (of : B → C) where
  pub many-none : (l : List ℕ) → Many width cell of zero l []
  unfolding stand.cells
  many-none l = record { rooms = rooms-none; are = refl }

  pub many_more : {n : ℕ} {l : List ℕ} {b : B} {rest : List ℕ} {bs : List B} → Shows width cell of l b rest → Many width cell of n rest bs → Many width cell of (suc n) l (b ∷ bs)
  unfolding stand.cells
  many_more {n} s m = record { rooms = rooms-more {n = n} s.room (rw s.left m.rooms); are = rw (s.left, s.is, m.are) }

  module _ (f : Form B) (shows : (l : List ℕ) (b : B) (rest : List ℕ) → f.read l ≡ value b rest → Shows width cell of l b rest) where
    many : (n : ℕ) (l : List ℕ) (bs : List B) (rest : List ℕ) → read_many f n l ≡ value bs rest → Many width cell of n l bs
    unfolding form.read_many
    many zero l bs rest e = let same : [] ≡ bs = cc in rw (← same) (many-none l)
    many (suc n) l bs rest e =
        let s = split (f.read l) (λ b mid. onto (λ bs. b ∷ bs) (read_many f n mid)) bs rest e in
        let i = inner (λ bs. s.got ∷ bs) (read_many f n s.mid) bs rest s.second in
        rw (← i.wraps) (many_more (shows l s.got s.mid s.first) (many n s.mid i.got rest i.read))

    -- the items of a row
    pub standing : (row : List ℕ) (first count : ℕ) → Stands f row first count → Many width cell of count (drop first row) (items f count (drop first row))
    unfolding field.read_at lists.items
    standing row first count s = go (read_many f count (drop first row)) refl s.so.ends
      where
        go : (x : Read (List B)) → read_many f count (drop first row) ≡ x → ended (placed row x) ≡ takes tt s.next → Many width cell of count (drop first row) (items_of f x)
        go (value bs rest) e p = many count (drop first row) bs rest e
        go (refused q) e p = absurd (let z : ◌≡◌ {A = ℕ} 0 1 = cc in omega arith)

-- the items of lent places
module _ {B C : Type 0} (w : ℕ) (cell : List ℕ → C) (of : B → C) (f : Form B) (shows : (l : List ℕ) (b : B) (rest : List ℕ) → f.read (take w l) ≡ value b rest → of b ≡ cell l) where
  in-places : (n : ℕ) (l : List ℕ) (bs : List B) (rest : List ℕ) → w * n ≤ length l → read_places w f n l ≡ value bs rest → Many (λ l. w) cell of n l bs
  unfolding places.read_places
  in-places zero l bs rest h e = let same : [] ≡ bs = cc in rw (← same) (many-none (λ l. w) cell of l)
  in-places (suc n) l bs rest h e =
      let fits : w * n + w ≤ length l = rw mul-suc at h in
      let s = split (f.read (take w l)) (λ b mid. onto (λ bs. b ∷ bs) (read_places w f n (drop w l))) bs rest e in
      let i = inner (λ bs. s.got ∷ bs) (read_places w f n (drop w l)) bs rest s.second in
      let one : Shows (λ l. w) cell of l s.got (drop w l) = record { room = omega arith; left = refl; is = shows l s.got s.mid s.first } in
      rw (← i.wraps) (many_more (λ l. w) cell of one (in-places n (drop w l) i.got rest (rw length-drop (omega arith)) i.read))

  pub lying : (lent : List ℕ) (count : ℕ) → Placed w f lent count → Many (λ l. w) cell of count lent (places_of w f count lent)
  unfolding places.places_of
  lying lent count p = rw p.so (in-places count lent p.records p.rest p.room p.so)

-- items of which all is looked at
pub all_shown : {B : Type 0} (width : List ℕ → ℕ) (cell : List ℕ → B) {n : ℕ} {l : List ℕ} {bs : List B} → Many width cell (λ b. b) n l bs → cells width cell n l ≡ bs
all_shown width cell {bs = bs} m = sym m.are ∙ map-id bs

-- ---- one turn of a loop: the item at p, and those behind it
pub record Turn {C : Type 0} (width : List ℕ → ℕ) (cell : List ℕ → C) (row : List ℕ) (n i p : ℕ) : Type 0 where
  pub fits : width (drop p row) ≤ length row - p
  pub here : cells width cell (n - i) (drop p row) ≡ cell (drop p row) ∷ cells width cell (n - (i + 1)) (drop (p + width (drop p row)) row)
  pub rooms : Rooms width (n - (i + 1)) (drop (p + width (drop p row)) row)

module _ {C : Type 0} (width : List ℕ → ℕ) (cell : List ℕ → C) (row : List ℕ) (n i p : ℕ) where
  pub turn : i < n → Rooms width (n - i) (drop p row) → Turn width cell row n i p
  unfolding stand.cells
  turn h r =
      let s : n - i ≡ suc (n - (i + 1)) = omega arith in
      go (rw s at r) s
    where
      go : Rooms width (suc (n - (i + 1))) (drop p row) → n - i ≡ suc (n - (i + 1)) → Turn width cell row n i p
      go (rooms-more room rest) s = record {
        fits = rw (← length-drop p row) room;
        here = rw (s, drop-drop (width (drop p row)) p row);
        rooms = rw (← drop-drop (width (drop p row)) p row) rest;
      }

  pub none_left : n ≤ i → cells width cell (n - i) (drop p row) ≡ []
  unfolding stand.cells
  none_left h = let s : n - i ≡ 0 = omega arith in rw s

-- ---- items of one width: the i-th of n stands at first + w * i
pub record TurnAt {C : Type 0} (w : ℕ) (cell : List ℕ → C) (row : List ℕ) (first n i : ℕ) : Type 0 where
  pub fits : w ≤ length row - (first + w * i)
  pub here : cells (λ l. w) cell (n - i) (drop (first + w * i) row) ≡ cell (drop (first + w * i) row) ∷ cells (λ l. w) cell (n - (i + 1)) (drop (first + w * (i + 1)) row)
  pub rooms : Rooms (λ l. w) (n - (i + 1)) (drop (first + w * (i + 1)) row)

pub turn_at : {C : Type 0} (w : ℕ) (cell : List ℕ → C) (row : List ℕ) (first n i : ℕ) → i < n → Rooms (λ l. w) (n - i) (drop (first + w * i) row) → TurnAt w cell row first n i
turn_at w cell row first n i h r =
    let t = turn (λ l. w) cell row n i (first + w * i) h r in
    let e : first + w * (i + 1) ≡ first + w * i + w = rw (add-one, mul-suc) (omega arith) in
    record { fits = t.fits; here = rw e t.here; rooms = rw e t.rooms }

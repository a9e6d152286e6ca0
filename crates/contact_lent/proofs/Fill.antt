-- Items of a row that was read, copied one by one into a lent list.
-- Assumes nothing.
use Prim.Native.Nat.{ℕ, suc, ◌+◌, ◌-◌, ◌≤◌, ◌<◌}
use mathlib.Core.List.{List, [], ◌∷◌, ◌++◌}
use mathlib.Core.Path.{◌≡◌, refl, sym, ◌∙◌}
use native.Mathlib.Omega.{arith}
use native.Mathlib.Nat.{sub-zero}
use lib.ListN.{length, take, drop}
use lib.Seq.{take_at}
use Rattle.layout.specs.Read.{Read, value, refused, and_then, onto}
use Rattle.layout.specs.Veil.{zeros}
use Rattle.layout.specs.Form.{Form, read_many}
use Rattle.layout.specs.Form as form
use Rattle.layout.specs.Field.{takes, refuses, placed, read_at}
use Rattle.layout.specs.Field as field
use Rattle.layout.specs.RowLaws.{Bytes}
use Rattle.layout.proofs.Lawful.{Lawful}
use Rattle.layout.proofs.At.{Took, took, takes_at, took-next, bytes_drop}
use Rattle.put.specs.Put.{put, Wrote}
use Rattle.put.proofs.Put.{Writing, writing_start, writing_step, writing-done}
use Rattle.reader.specs.Reader.{ended}
use Rattle.contact_lists.specs.Lists.{items, items_of, Stands}
use Rattle.contact_lists.specs.Lists as lists
use Rattle.contact_lists.specs.Places.{print_places}
use Rattle.contact_lists.specs.Places as places
use Rattle.contact_lists.proofs.Ends.{one_more}

-- what each item is in the list
module _ {B : Type 0} (shown : B → List ℕ) where
  abbrev pub show_all : List B → List ℕ
  show_all [] = []
  show_all (b ∷ bs) = shown b ++ show_all bs

pub show-numbers : (ns : List ℕ) → show_all (λ n. n ∷ []) ns ≡ ns
show-numbers [] = refl
show-numbers (n ∷ ns) = rw (show-numbers ns)

-- a record in its place
abbrev pub padded : {B : Type 0} → ℕ → Form B → B → List ℕ
padded w f b = f.print b ++ zeros (w - length (f.print b))

pub show-places : {B : Type 0} (w : ℕ) (f : Form B) (bs : List B) → show_all (padded w f) bs ≡ print_places w f bs
unfolding places.print_places
show-places w f [] = refl
show-places w f (b ∷ bs) = rw (show-places w f bs)

module _ {B : Type 0} (f : Form B) (row : List ℕ) where
  -- ---- the first of the items that are left
  pub record First (here : ℕ) : Type 0 where
    pub item : B
    pub after : ℕ
    pub takes : Took f row here item after

  pub first_of : Lawful f → Bytes row → (here count i : ℕ) → i < count → Stands f row here (count - i) → First here
  unfolding field.read_at form.read_many
  first_of law by here count i h l =
      let s : count - i ≡ suc (count - (i + 1)) = omega arith in
      go (f.read (drop here row)) refl (rw s at l.so.ends)
    where
      go : (x : Read B) → f.read (drop here row) ≡ x → ended (placed row (and_then x (λ b mid. onto (λ bs. b ∷ bs) (read_many f (count - (i + 1)) mid)))) ≡ takes tt l.next → First here
      go (value b mid) e p = record { item = b; after = length row - length mid; takes = took row here f law by (rw e) }
      go (refused q) e p = absurd (let z : ◌≡◌ {A = ℕ} 0 1 = cc in omega arith)

  -- where it ends, and its bytes
  pub record Taken (here : ℕ) (b : B) (next : ℕ) : Type 0 where
    pub ends : next ≡ here + length (f.print b)
    pub stands : f.print b ++ drop next row ≡ drop here row
    pub bytes : take (length (f.print b)) (drop here row) ≡ f.print b
    pub fits : f.fits b (drop next row)

  pub taken : Lawful f → Bytes row → {here : ℕ} {b : B} {next : ℕ} → here ≤ length row → Took f row here b next → Taken here b next
  taken law by {here} {b} {next} h t =
      let stands = law.joins (drop here row) b (drop next row) (bytes_drop here row by) t.reads in
      record {
        ends = took-next row here f law by (takes_at row here f t.reads t.inside) h;
        stands = stands;
        bytes = rw (← stands) (take_at (f.print b) (drop next row) (length (f.print b)) refl);
        fits = law.fitted (drop here row) b (drop next row) (bytes_drop here row by) t.reads;
      }

  -- it is not refused
  pub never-refused : {here : ℕ} → First here → {q : ℕ} → read_at f row here ≡ refuses q → ⊥
  never-refused {here} n {q} e =
      let yes : read_at f row here ≡ takes n.item n.after = takes_at row here f n.takes.reads n.takes.inside in
      let z : ◌≡◌ {A = ℕ} 0 1 = cc in
      omega arith

  -- it is taken: the others are left
  module _ {here count i : ℕ} (h : i < count) (l : Stands f row here (count - i)) {b : B} {next : ℕ} (t : Took f row here b next) where
    others : Stands f row next (count - (i + 1))
    others = record { next = l.next; so = record { starts = t.inside; ends = sym (one_more f row count i here h t) ∙ l.so.ends } }

    items-are : items f (count - i) (drop here row) ≡ b ∷ items f (count - (i + 1)) (drop next row)
    unfolding field.read_at form.read_many lists.items others
    items-are =
        let s : count - i ≡ suc (count - (i + 1)) = omega arith in
        rw (s, t.reads) (go (read_many f (count - (i + 1)) (drop next row)) others.so.ends)
      where
        go : (x : Read (List B)) → ended (placed row x) ≡ takes tt l.next → items_of f (onto (λ bs. b ∷ bs) x) ≡ b ∷ items_of f x
        go (value bs rest) e = refl
        go (refused q) e = absurd (let z : ◌≡◌ {A = ℕ} 0 1 = cc in omega arith)

  -- ---- on the way: i items are copied, the next one stands in the row at p, and goes to q
  module _ (shown : B → List ℕ) (first count : ℕ) (lent₀ : List ℕ) where
    pub record Filling (lent : List ℕ) (p q i : ℕ) : Type 0 where
      pub most : i ≤ count
      pub left : Stands f row p (count - i)
      pub writing : Writing lent₀ 0 (show_all shown (items f count (drop first row))) lent q (show_all shown (items f (count - i) (drop p row)))

    pub filling-start : Stands f row first count → Filling lent₀ first 0 0
    filling-start l = record { most = omega arith; left = rw sub-zero l; writing = rw sub-zero (writing_start _ _ _) }

    pub filling-turn : {lent lent' : List ℕ} {p q q' i : ℕ} → i < count → Filling lent p q i → {b : B} {next : ℕ} → Took f row p b next → Wrote lent q (shown b) lent' q' → Filling lent' next q' (i + 1)
    filling-turn {i = i} h fill {b} t w = record {
      most = omega arith;
      left = others h fill.left t;
      writing = writing_step (shown b) (rw (items-are h fill.left t) at fill.writing) w;
    }

    pub filling-end : {lent : List ℕ} {p q i : ℕ} → count ≤ i → Filling lent p q i → lent ≡ put lent₀ 0 (show_all shown (items f count (drop first row)))
    unfolding lists.items form.read_many
    filling-end {i = i} h fill = let none : count - i ≡ 0 = omega arith in (writing-done (rw none at fill.writing)).now-is

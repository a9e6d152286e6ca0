-- A loop that stores the items of a list, each of them bytes around a key, with 0 for the keys.
-- Assumes nothing.
use Prim.Native.Nat.{ℕ, ◌+◌, ◌≤◌, ◌<◌}
use mathlib.Core.List.{List, [], ◌∷◌, ◌++◌, append_assoc}
use mathlib.Core.Path.{◌≡◌, sym, ◌∙◌}
use native.Mathlib.Omega.{arith}
use lib.ListN.{length, drop, length-append}
use Rattle.layout.specs.Veil.{veil}
use Rattle.layout.specs.Form.{Form, print_many, fits_many, times}
use Rattle.layout.specs.Form as form
use Rattle.layout.specs.RowLaws.{Bytes}
use Rattle.layout.proofs.Lawful.{Lawful}
use Rattle.layout.proofs.Parts.{times-lawful}
use Rattle.layout.proofs.At.{took, bytes_drop, fits-at}
use Rattle.contact_lists.specs.Lists.{items, Listed}
use Rattle.contact_lists.proofs.Ends.{items_at}
use Rattle.put.specs.Put.{Wrote}
use Rattle.put.proofs.Put.{Writing, writing_start, writing_step, writing-done}
use Rattle.veil_contact.specs.Veiled.{around_key, Around, AroundKeys, veiled_many}
use Rattle.veil_contact.proofs.Around.{hidden-long, inside, behind, copied}

module _ {B : Type 0} (f : Form B) where
  pub items-long : Lawful f → (row : List ℕ) → Bytes row → {first n next : ℕ} → Listed f row first n next → length (items f n (drop first row)) ≡ n
  items-long law row by {first} {n} listed = (fits-at row first (times f n) (times-lawful f law n) by (items_at f row n first listed.ends)).0

  -- i of n items were stored: `left` are to come, and stand in the row at p; `whole` is what is stored from `at` on, once it is done
  pub record Copying (l : List ℕ) (at : ℕ) (whole row : List ℕ) (n : ℕ) (m : List ℕ) (q p i : ℕ) : Type 0 where
    pub left : List B
    pub post : List ℕ
    pub count : i + length left ≡ n
    pub joins : print_many f left ++ post ≡ drop p row
    pub fits : fits_many f left post
    pub writing : Writing l at whole m q (veiled_many f left)

  pub copying-start : Lawful f → (row : List ℕ) → Bytes row → {first n next : ℕ} → Listed f row first n next → (l : List ℕ) (at : ℕ)
      → Copying l at (veiled_many f (items f n (drop first row))) row n l at first 0
  copying-start law row by {first} {n} {next} listed l at =
      let e = items_at f row n first listed.ends in
      let all = times-lawful f law n in
      let fit = fits-at row first (times f n) all by e in
      record {
        left = items f n (drop first row);
        post = drop next row;
        count = omega (arith, items-long law row by listed);
        joins = all.joins (drop first row) _ (drop next row) (bytes_drop first row by) (took row first (times f n) all by e).reads;
        fits = fit.1;
        writing = writing_start l at _;
      }

  pub copying-done : {l whole row m : List ℕ} {at n q p : ℕ} → Copying l at whole row n m q p n → Wrote l at whole m q
  unfolding form.print_many
  copying-done {l} {whole} {row} {m} {at} {n} {q} c = go c.left c.count c.writing
    where
      go : (left : List B) → n + length left ≡ n → Writing l at whole m q (veiled_many f left) → Wrote l at whole m q
      go [] e w = writing-done w
      go (b ∷ bs) e w = absurd (omega arith)

  -- ---- one turn
  record Turn (l : List ℕ) (at : ℕ) (whole row : List ℕ) (n : ℕ) (m : List ℕ) (q p i : ℕ) : Type 0 where
    pub item : B
    pub more : List B
    pub post : List ℕ
    pub count : i + 1 + length more ≡ n
    pub fit : f.fits item (print_many f more ++ post)
    pub fits : fits_many f more post
    pub stands : f.print item ++ (print_many f more ++ post) ≡ drop p row
    pub writing : Writing l at whole m q (f.print (f.blank veil item) ++ veiled_many f more)

  turn : {l whole row m : List ℕ} {at n q p i : ℕ} → Copying l at whole row n m q p i → i < n → Turn l at whole row n m q p i
  unfolding form.print_many
  turn {l} {whole} {row} {m} {at} {n} {q} {p} {i} c h = go c.left c.count c.joins c.fits c.writing
    where
      go : (left : List B) → i + length left ≡ n → print_many f left ++ c.post ≡ drop p row → fits_many f left c.post → Writing l at whole m q (veiled_many f left) → Turn l at whole row n m q p i
      go [] e j t w = absurd (omega arith)
      go (b ∷ bs) e j t w = record {
        item = b;
        more = bs;
        post = c.post;
        count = omega arith;
        fit = t.0;
        fits = t.1;
        stands = sym (append_assoc (f.print b) (print_many f bs) c.post) ∙ j;
        writing = w;
      }

  module _ {head : ℕ} {tail : List ℕ → ℕ → ℕ} (keys : AroundKeys f head tail) {l whole row m : List ℕ} {at n q p i : ℕ} (c : Copying l at whole row n m q p i) (h : i < n) where
    this : Turn l at whole row n m q p i
    this = turn c h

    around : Around (f.print this.item) (f.print (f.blank veil this.item)) head (tail row p)
    around = keys.around this.item row p _ this.fit this.stands

    pub turn_inside : p + head + 32 + tail row p ≤ length row
    turn_inside = inside around row p _ this.stands

    pub turn-some : p + head + 32 < length row
    turn-some = omega (arith, turn_inside, keys.some row p)

    pub turn-room : at + length whole ≤ length l → q + head + 32 + tail row p ≤ length m
    turn-room h = omega (arith, this.writing.room, this.writing.same, length-append (f.print (f.blank veil this.item)) (veiled_many f this.more), hidden-long around)

    pub turn_more : {m' : List ℕ} {q' : ℕ} → Wrote m q (around_key row p head (tail row p)) m' q' → Copying l at whole row n m' q' (p + (head + 32 + tail row p)) (i + 1)
    turn_more {m'} {q'} w =
        let rest = print_many f this.more ++ this.post in
        record {
          left = this.more;
          post = this.post;
          count = this.count;
          joins = sym (behind around row p rest this.stands);
          fits = this.fits;
          writing = writing_step (f.print (f.blank veil this.item)) this.writing (rw (copied around row p rest this.stands) at w);
        }

-- What the items of a contact row's lists show of their bytes.
-- Assumes nothing.
use Prim.Native.Nat.{ℕ, ◌+◌, ◌*◌, ◌-◌, ◌^◌, ◌≤◌, ◌<◌}
use mathlib.Core.List.{List, [], ◌∷◌}
use mathlib.Core.Bool.{Bool, true, false, cond}
use mathlib.Core.Option.{Option, none, some}
use mathlib.Core.Path.{◌≡◌, refl, sym, ap, ap₂, ◌∙◌}
use native.Mathlib.Omega.{arith}
use native.Mathlib.Nat.{zero-mul, zero-add}
use lib.ListN.{length, get_or, take, drop, length-drop}
use lib.Seq.{drop-drop}
use lib.Dec.{leb}
use borrow.Author.Tests.{leb-true}
use Rattle.layout.specs.Questions.{FIELD, CODE}
use Rattle.layout.specs.Veil.{Sensitivity, veiled}
use Rattle.layout.specs.Read.{value, refused}
use Rattle.layout.specs.Form.{Form, bytes, code, or_refused, big_endian, bytes_of, number, u8, one}
use Rattle.layout.specs.Form as form
use Rattle.layout.specs.Field.{takes, read_at}
use Rattle.layout.specs.Field as at
use Rattle.layout.specs.Layout.{Layout, done, field, parse, group}
use Rattle.layout.specs.Layout as layout
use Rattle.layout.proofs.Lawful.{value≢refused, split}
use Rattle.layout.proofs.At.{number_in}
use Rattle.rows.specs.Values.{Skipped, Range}
use Rattle.rows.specs.Checks.{key_of}
use Rattle.rows.specs.Rows.{dir_of, dir_byte, dir, skipped, range}
use Rattle.rows.specs.declared.Dir.{Dir}
use Rattle.contact_checks.specs.Cells.{cells, key_at}
use Rattle.contact_checks.proofs.Cells.{Shows, Turn, TurnAt}

-- ---- the first n bytes of l were taken, and mid is left
pub record Cut (n : ℕ) (l mid : List ℕ) : Type 0 where
  pub room : n ≤ length l
  pub left : drop n l ≡ mid

pub cut-more : (n m : ℕ) {l mid rest : List ℕ} → Cut n l mid → Cut m mid rest → Cut (n + m) l rest
cut-more n m {l} a b = record {
  room = omega (arith, a.room, b.room, ap (λ (x : List ℕ). length x) a.left, length-drop n l);
  left = sym (drop-drop m n l) ∙ ap (λ (x : List ℕ). drop m x) a.left ∙ b.left;
}

-- ---- fields of n bytes
pub record Coded {B : Type 0} (n : ℕ) (of : List ℕ → Option B) (l : List ℕ) (b : B) (rest : List ℕ) : Type 0 where
  pub cut : Cut n l rest
  pub is : of (take n l) ≡ some b

pub coded : {B : Type 0} (n q : ℕ) (of : List ℕ → Option B) (to : B → List ℕ) (ok : B → Type 0) (l : List ℕ) (b : B) (rest : List ℕ) → (code n q of to ok).read l ≡ value b rest → Coded n of l b rest
coded {B} n q of to ok l b rest e = go (leb n (length l)) (of (take n l)) refl refl e
  where
    go : (t : Bool) (o : Option B) → leb n (length l) ≡ t → of (take n l) ≡ o → cond t (or_refused q (drop n l) o) (refused FIELD) ≡ value b rest → Coded n of l b rest
    go true (some x) p h e = record { cut = record { room = leb-true n (length l) p; left = cc }; is = let same : x ≡ b = cc in rw (← same) h }
    go true none p h e = absurd (value≢refused (sym e))
    go false o p h e = absurd (value≢refused (sym e))

pub number-shows : (w : ℕ) (l : List ℕ) (b : ℕ) (rest : List ℕ) → (number w).read l ≡ value b rest → Shows (λ l. w) (big_endian w) (λ n. n) l b rest
unfolding at.read_at
number-shows w l b rest e =
    let c = coded w FIELD (λ bs. some (big_endian w bs)) (bytes_of w) (λ n. n < 256 ^ w) l b rest e in
    let p : read_at (number w) l 0 ≡ takes b (length l - length rest) = rw e in
    let q : read_at (number w) l 0 ≡ takes (big_endian w l) (0 + w) = number_in l 0 w (omega (arith, c.cut.room)) in
    record { room = c.cut.room; left = c.cut.left; is = cc }

pub number_cut : (w : ℕ) (l : List ℕ) (b : ℕ) (rest : List ℕ) → (number w).read l ≡ value b rest → Cut w l rest
number_cut w l b rest e = let s = number-shows w l b rest e in record { room = s.room; left = s.left }

-- ---- a layout that was read: its first field, and what follows
pub record Parsed {A : Type 0} (l : Layout A) (row : List ℕ) (v : A) (rest : List ℕ) : Type 0 where
  pub so : parse l row ≡ value v rest

pub record First {A B : Type 0} (f : Form B) (k : B → Layout A) (row : List ℕ) (v : A) (rest : List ℕ) : Type 0 where
  pub got : B
  pub mid : List ℕ
  pub reads : f.read row ≡ value got mid
  pub then : Parsed (k got) mid v rest

pub first : {A B : Type 0} {f : Form B} {get : A → B} {k : B → Layout A} {row : List ℕ} {v : A} {rest : List ℕ} → Parsed (field f get k) row v rest → First f k row v rest
unfolding layout.parse
first {f = f} {k = k} {row = row} {v = v} {rest = rest} p =
    let s = split (f.read row) (λ b mid. parse (k b) mid) v rest p.so in
    record { got = s.got; mid = s.mid; reads = s.first; then = record { so = s.second } }

pub record Done {A : Type 0} (a v : A) (row rest : List ℕ) : Type 0 where
  pub same : a ≡ v
  pub left : row ≡ rest

pub at-end : {A : Type 0} {a : A} {row : List ℕ} {v : A} {rest : List ℕ} → Parsed (done a) row v rest → Done a v row rest
unfolding layout.parse
at-end p = let so = p.so in record { same = cc; left = cc }

-- ---- ranges
abbrev pub range_at : List ℕ → Range
range_at l = record { from = big_endian 4 l; to = big_endian 4 (drop 4 l) }

abbrev pub ranges : ℕ → List ℕ → List Range
ranges = cells (λ l. 8) range_at

-- of n ranges, those from the i-th on, which stand from p on, begin with a..b
abbrev pub Begin : (row : List ℕ) (n i p a b : ℕ) → Type 0
Begin row n i p a b = ranges (n - i) (drop p row) ≡ record { from = a; to = b } ∷ ranges (n - (i + 1)) (drop (p + 8) row)

-- ... once both numbers are read
pub range-read : {row : List ℕ} {n i p a b : ℕ} → Turn (λ l. 8) range_at row n i p → a ≡ big_endian 4 (drop p row) → b ≡ big_endian 4 (drop (p + 4) row) → Begin row n i p a b
range-read {row = row} {p = p} t e f = rw (e, f, ← drop-drop 4 p row) t.here

-- the same where the i-th stands at start + 8 * i
abbrev pub BeginAt : (row : List ℕ) (start n i a b : ℕ) → Type 0
BeginAt row start n i a b = ranges (n - i) (drop (start + 8 * i) row) ≡ record { from = a; to = b } ∷ ranges (n - (i + 1)) (drop (start + 8 * (i + 1)) row)

pub range-read_at : {row : List ℕ} {start n i a b : ℕ} → TurnAt 8 range_at row start n i → a ≡ big_endian 4 (drop (start + 8 * i) row) → b ≡ big_endian 4 (drop (start + 8 * i + 4) row) → BeginAt row start n i a b
range-read_at {row = row} {start = start} {i = i} t e f = rw (e, f, ← drop-drop 4 (start + 8 * i) row) t.here

pub range-shows : (l : List ℕ) (r : Range) (rest : List ℕ) → (group range).read l ≡ value r rest → Shows (λ l. 8) range_at (λ r. r) l r rest
range-shows l r rest e =
    let f1 = first (record { so = e }) in
    let f2 = first f1.then in
    let end = at-end f2.then in
    let n1 = number-shows 4 l f1.got f1.mid f1.reads in
    let n2 = number-shows 4 f1.mid f2.got f2.mid f2.reads in
    let cut = cut-more 4 4 (number_cut 4 l f1.got f1.mid f1.reads) (number_cut 4 f1.mid f2.got f2.mid f2.reads) in
    record { room = cut.room; left = cut.left ∙ end.left; is = sym end.same ∙ ap₂ (λ (a b : ℕ). record { from = a; to = b }) n1.is (n2.is ∙ ap (big_endian 4) (sym n1.left)) }

-- ---- skipped keys
pub byte-is : (l : List ℕ) (b : ℕ) (rest : List ℕ) → u8.read l ≡ value b rest → b ≡ get_or l 0 0
unfolding form.big_endian
byte-is l b rest e = (number-shows 1 l b rest e).is ∙ simp (zero-mul, zero-add)

pub bytes_cut : (s : Sensitivity) (n : ℕ) (l bs rest : List ℕ) → (bytes s n).read l ≡ value bs rest → Cut n l rest
bytes_cut s n l bs rest e = go (leb n (length l)) refl e
  where
    go : (t : Bool) → leb n (length l) ≡ t → cond t (value (take n l) (drop n l)) (refused FIELD) ≡ value bs rest → Cut n l rest
    go true p e = record { room = leb-true n (length l) p; left = cc }
    go false p e = absurd (value≢refused (sym e))

pub dir-cut : (l : List ℕ) (d : Dir) (rest : List ℕ) → dir.read l ≡ value d rest → Cut 1 l rest
dir-cut l d rest e = (coded 1 CODE (one dir_of) (λ d. dir_byte d ∷ []) (λ d. dir_of (dir_byte d) ≡ some d) l d rest e).cut

pub skipped-shows : (l : List ℕ) (k : Skipped) (rest : List ℕ) → (group skipped).read l ≡ value k rest → Shows (λ l. 46) key_at key_of l k rest
skipped-shows l k rest e =
    let f1 = first (record { so = e }) in
    let f2 = first f1.then in
    let f3 = first f2.then in
    let f4 = first f3.then in
    let f5 = first f4.then in
    let end = at-end f5.then in
    let c2 = cut-more 1 1 (number_cut 1 l f1.got f1.mid f1.reads) (dir-cut f1.mid f2.got f2.mid f2.reads) in
    let c3 = cut-more 2 4 c2 (number_cut 4 f2.mid f3.got f3.mid f3.reads) in
    let c4 = cut-more 6 32 c3 (bytes_cut veiled 32 f3.mid f4.got f4.mid f4.reads) in
    let c5 = cut-more 38 8 c4 (number_cut 8 f4.mid f5.got f5.mid f5.reads) in
    let gen : f1.got ≡ get_or l 0 0 = byte-is l f1.got f1.mid f1.reads in
    let idx : f3.got ≡ big_endian 4 (drop 2 l) = (number-shows 4 f2.mid f3.got f3.mid f3.reads).is ∙ ap (big_endian 4) (sym c2.left) in
    record { room = c5.room; left = c5.left ∙ end.left; is = ap key_of (sym end.same) ∙ ap₂ (λ (a b : ℕ). record { gen = a; idx = b }) gen idx }

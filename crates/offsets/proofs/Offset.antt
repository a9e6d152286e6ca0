-- What stands at an offset: the field's own print.
-- Assumes nothing.
use Prim.Native.Nat.{ℕ, zero, suc, ◌+◌, ◌-◌, ◌≤◌, ◌<◌}
use mathlib.Core.List.{List, [], ◌++◌, append_assoc, append-nil}
use mathlib.Core.Bool.{Bool, true, false, cond}
use mathlib.Core.Option.{Option, none, some}
use mathlib.Core.Logic.{inl, inr}
use mathlib.Core.Path.{◌≡◌, refl, sym, ap, subst, ◌∙◌}
use native.Mathlib.Omega.{arith}
use native.Mathlib.Nat.{zero-add}
use lib.Dec.{leb}
use lib.ListN.{length, take, drop, length-append, length-drop, drop_of_length-le}
use lib.Seq.{drop-drop, drop-append_seam, take_at}
use borrow.Author.Tests.{leb-true, leb-false}
use Rattle.layout.specs.Read.{Read, value, refused, first, said}
use Rattle.layout.specs.Veil.{Sensitivity}
use Rattle.layout.specs.Form.{Form, bytes, flag, to_end, either}
use Rattle.layout.specs.Field.{Field, read_at, takes, refuses, placed}
use Rattle.layout.specs.Field as place
use Rattle.layout.specs.Layout.{Layout, done, field, ask, parse, print, refusal_of, group, optional, optional_layout}
use Rattle.layout.specs.RowLaws.{Bytes}
use Rattle.layout.proofs.Lawful.{Lawful}
use Rattle.layout.proofs.Front.{flag-lawful, none≢some}
use Rattle.layout.proofs.At.{Took, took, took-next, bytes_drop, takes_at, refuses-at}
use Rattle.layout.proofs.Steps.{optional-no-flag}
use Rattle.offsets.specs.Offset.{offset, located}

-- what is printed of a value stands in a row, from a place on, and would be read there
pub record Stands {B : Type 0} (f : Form B) (b : B) (row : List ℕ) (at : ℕ) : Type 0 where
  pub post : List ℕ
  pub joins : f.print b ++ post ≡ drop at row
  pub fits : f.fits b post
  pub granted : f.refusal b ≡ none

-- ---- where a value was read it stands
module _ {B : Type 0} (f : Form B) (law : Lawful f) {row : List ℕ} (by : Bytes row) where
  pub stands : {at next : ℕ} {b : B} → read_at f row at ≡ takes b next → Stands f b row at
  stands {at} {next} {b} e =
      let read = (took row at f law by e).reads in
      let bytes = bytes_drop at row by in
      record {
        post = drop next row;
        joins = law.joins (drop at row) b (drop next row) bytes read;
        fits = law.fitted (drop at row) b (drop next row) bytes read;
        granted = law.granted (drop at row) b (drop next row) bytes read;
      }

  pub stands-first : {b : B} {rest : List ℕ} → f.read row ≡ value b rest → Stands f b row 0
  stands-first {b} {rest} e = record { post = rest; joins = law.joins row b rest by e; fits = law.fitted row b rest by e; granted = law.granted row b rest by e }

-- ... and where it stands it is read
pub stands_read : {B : Type 0} (f : Form B) → Lawful f → {b : B} {row : List ℕ} {at : ℕ} → Stands f b row at → at ≤ length row → read_at f row at ≡ takes b (at + length (f.print b))
unfolding place.read_at
stands_read f law {b} {row} {at} s inside =
    let long : length (f.print b) + length s.post ≡ length row - at = sym (length-append (f.print b) s.post) ∙ ap (λ (l : List ℕ). length l) s.joins ∙ length-drop at row in
    let next : length row - length s.post ≡ at + length (f.print b) = omega (arith, long, inside) in
    ap (λ (x : Read _). placed row x) (ap f.read (sym s.joins) ∙ law.printed b s.post s.fits ∙ ap (λ (o : Option ℕ). said o b s.post) s.granted) ∙ ap (λ (n : ℕ). takes b n) next

-- ---- ... and so do its fields
first-none : (o o' : Option ℕ) → first o o' ≡ none → (o ≡ none) × (o' ≡ none)
first-none none o' e = (refl, e)
first-none (some q) o' e = absurd (none≢some (sym e))

asked-none : (t : Bool) (o : Option ℕ) (q : ℕ) → cond t o (some q) ≡ none → o ≡ none
asked-none true o q e = e
asked-none false o q e = absurd (none≢some (sym e))

module _ {A : Type 0} (row : List ℕ) where
  abbrev pub FieldStands : Layout A → ℕ → A → ℕ → Type 0
  FieldStands (done a) i v at = Unit {0}
  FieldStands (field f get k) zero v at = Stands f (get v) row at
  FieldStands (field f get k) (suc i) v at = FieldStands (k (get v)) i v at
  FieldStands (ask q t k) i v at = FieldStands k i v at

  pub field-stands : (l : Layout A) (i : ℕ) (v : A) {from : ℕ} → Stands (group l) v row from → FieldStands l i v (from + offset l i v)
  unfolding print refusal_of
  field-stands (done a) i v s = tt
  field-stands (field f get k) zero v {from} s =
      let place : from ≡ from + 0 = omega arith in
      rw (← place) (record {
        post = print (k (get v)) v ++ s.post;
        joins = sym (append_assoc (f.print (get v)) (print (k (get v)) v) s.post) ∙ s.joins;
        fits = s.fits.0;
        granted = (first-none (f.refusal (get v)) (refusal_of (k (get v)) v) s.granted).0;
      })
  field-stands (field f get k) (suc i) v {from} s =
      let n = length (f.print (get v)) in
      let rest = print (k (get v)) v in
      let next : Stands (group (k (get v))) v row (from + n) = record {
        post = s.post;
        joins = sym (sym (drop-drop n from row) ∙ ap (λ (l : List ℕ). drop n l) (sym s.joins ∙ append_assoc (f.print (get v)) rest s.post) ∙ drop-append_seam (f.print (get v)) (rest ++ s.post));
        fits = s.fits.1;
        granted = (first-none (f.refusal (get v)) (refusal_of (k (get v)) v) s.granted).1;
      } in
      let place : from + n + offset (k (get v)) i v ≡ from + (n + offset (k (get v)) i v) = omega arith in
      subst (FieldStands (k (get v)) i v) place (field-stands (k (get v)) i v next)
  field-stands (ask q t k) i v s =
      field-stands k i v (record { post = s.post; joins = s.joins; fits = s.fits; granted = asked-none t (refusal_of k v) q s.granted })

  -- of a whole row
  pub row-stands : (l : Layout A) (i : ℕ) (v : A) → Stands (group l) v row 0 → FieldStands l i v (offset l i v)
  row-stands l i v s = subst (FieldStands l i v) (zero-add (offset l i v)) (field-stands l i v s)

  -- an offset lies within the row
  short : (l : Layout A) (i : ℕ) (v : A) → offset l i v ≤ length (print l v)
  unfolding print
  short (done a) i v = omega arith
  short (field f get k) zero v = omega arith
  short (field f get k) (suc i) v = rw (length-append (f.print (get v)) (print (k (get v)) v)) (omega (arith, short (k (get v)) i v))
  short (ask q t k) i v = short k i v

  pub offset-inside : (l : Layout A) (i : ℕ) (v : A) {from : ℕ} → Stands (group l) v row from → from ≤ length row → from + offset l i v ≤ length row
  offset-inside l i v {from} s h =
      let long : length (print l v ++ s.post) ≡ length (drop from row) = ap (λ (bs : List ℕ). length bs) s.joins in
      omega (arith, short l i v, long, length-append (print l v) s.post, length-drop from row)

-- ---- behind the last field is the end
module _ {A : Type 0} where
  abbrev fields : Layout A → A → ℕ
  fields (done a) v = 0
  fields (field f get k) v = suc (fields (k (get v)) v)
  fields (ask q t k) v = fields k v

  pub whole : (l : Layout A) (v : A) → offset l (fields l v) v ≡ length (print l v)
  unfolding print
  whole (done a) v = refl
  whole (field f get k) v = ap (λ (n : ℕ). length (f.print (get v)) + n) (whole (k (get v)) v) ∙ sym (length-append (f.print (get v)) (print (k (get v)) v))
  whole (ask q t k) v = whole k v

-- ---- one layout behind another
pub record Behind {A : Type 0} (l : Layout A) (a : A) (row : List ℕ) (at : ℕ) (rest : List ℕ) : Type 0 where
  pub here : Stands (group l) a row at
  pub rest-is : rest ≡ drop (at + length (print l a)) row

pub behind : {A : Type 0} (l : Layout A) → Lawful (group l) → (row : List ℕ) → Bytes row → (at : ℕ) {mid : List ℕ} → mid ≡ drop at row
    → {a : A} {rest : List ℕ} → parse l mid ≡ value a rest → Behind l a row at rest
behind l law row by at same {a} {rest} e =
    let read : parse l (drop at row) ≡ value a rest = ap (λ (m : List ℕ). parse l m) (sym same) ∙ e in
    let bytes = bytes_drop at row by in
    let joins = law.joins (drop at row) a rest bytes read in
    record {
      here = record { post = rest; joins = joins; fits = law.fitted (drop at row) a rest bytes read; granted = law.granted (drop at row) a rest bytes read };
      rest-is = sym (sym (drop-drop (length (print l a)) at row) ∙ ap (λ (m : List ℕ). drop (length (print l a)) m) (sym joins) ∙ drop-append_seam (print l a) rest);
    }

-- ---- runs, and a part behind a flag
module _ {row : List ℕ} {at : ℕ} where
  module _ (s : Sensitivity) (n : ℕ) {bs : List ℕ} (here : Stands (bytes s n) bs row at) where
    pub run_is : take n (drop at row) ≡ bs
    run_is = rw (← here.joins) (take_at bs here.post n here.fits)

    pub run_inside : 0 < n → at + n ≤ length row
    run_inside h =
        let long : length (bs ++ here.post) ≡ length (drop at row) = ap (λ (l : List ℕ). length l) here.joins in
        omega (arith, h, here.fits, long, length-append bs here.post, length-drop at row)

  pub to-end-is : (s : Sensitivity) (q : ℕ) (allowed : ℕ → Bool) {bs : List ℕ} → Stands (to_end s q allowed) bs row at → drop at row ≡ bs
  to-end-is s q allowed {bs} here = sym here.joins ∙ ap (λ (l : List ℕ). bs ++ l) here.fits ∙ append-nil bs

  pub optional-stands : {B : Type 0} (f : Form B) {b : B} → Stands (optional f) (some b) row at → Stands f b row (at + offset (optional_layout f) 1 (some b))
  optional-stands f {b} s = let k = field-stands row (optional_layout f) 1 (some b) s in record { post = k.post; joins = k.joins; fits = k.fits; granted = k.granted }

-- ---- behind the byte that says which of two
module _ {B C : Type 0} (q : ℕ) (f : Form B) (g : Form C) {row : List ℕ} {at : ℕ} where
  pub either_left : {b : B} → Stands (either q f g) (inl b) row at → Stands f b row (at + 1)
  either_left s = record { post = s.post; joins = ap (λ (l : List ℕ). drop 1 l) s.joins ∙ drop-drop 1 at row; fits = s.fits; granted = s.granted }

  pub either-right : {c : C} → Stands (either q f g) (inr c) row at → Stands g c row (at + 1)
  either-right s = record { post = s.post; joins = ap (λ (l : List ℕ). drop 1 l) s.joins ∙ drop-drop 1 at row; fits = s.fits; granted = s.granted }

takes≢refuses : {B : Type 0} {b : B} {n q : ℕ} → takes b n ≡ refuses q → ⊥
takes≢refuses e = let z : ◌≡◌ {A = ℕ} 0 1 = cc in omega arith

-- ---- a field that was read stands in the row, if it cannot be read of nothing
pub not-past : {B : Type 0} (row : List ℕ) (at : ℕ) (f : Form B) {next q : ℕ} {b : B} → f.read [] ≡ refused q → read_at f row at ≡ takes b next → at ≤ length row
not-past row at f {q = q} empty e = go (leb at (length row)) refl
  where
    go : (t : Bool) → leb at (length row) ≡ t → at ≤ length row
    go true h = leb-true at (length row) h
    go false h = absurd (takes≢refuses {q = q} (sym e ∙ refuses-at row at f (rw (drop_of_length-le row {i = at} (omega (arith, leb-false at (length row) h))) empty)))

pub optional-not-past : {B : Type 0} (row : List ℕ) (at : ℕ) (f : Form B) {next : ℕ} {o : Option B} → read_at (optional f) row at ≡ takes o next → at ≤ length row
optional-not-past row at f read = not-past row at (optional f) (optional-no-flag f [] 0 refl) read

-- ---- where the next field starts
pub next-is : {B : Type 0} (row : List ℕ) (at : ℕ) (f : Form B) → Lawful f → Bytes row → at ≤ length row → {b : B} {next : ℕ} → Took f row at b next → next ≡ at + length (f.print b)
next-is row at f law by inside t = took-next row at f law by (takes_at row at f t.reads t.inside) inside

pub flag-next : (row : List ℕ) (at : ℕ) → Bytes row → {t : Bool} {next : ℕ} → read_at flag row at ≡ takes t next → next ≡ at + 1
flag-next row at by read = took-next row at flag flag-lawful by read (not-past row at flag refl read)

-- ---- what a reader that says where a field stands has to show
module _ {B P : Type 0} (row : List ℕ) (at : ℕ) (f : Form B) (places : B → P) where
  pub locates : {b : B} {next : ℕ} {p : P} → f.read (drop at row) ≡ value b (drop next row) → next ≤ length row → p ≡ places b → takes p next ≡ located places (read_at f row at)
  locates {next = next} read inside place = ap (λ (p : P). takes p next) place ∙ sym (ap (located places) (takes_at row at f read inside))

  pub locates-not : {q : ℕ} → f.read (drop at row) ≡ refused q → refuses q ≡ located places (read_at f row at)
  locates-not not = sym (ap (located places) (refuses-at row at f not))

-- ---- what is known once it is known which case a reader's answer is
pub record Located {B P : Type 0} (places : B → P) (x : Field B) (p : P) (next : ℕ) : Type 0 where
  pub value : B
  pub read : x ≡ takes value next
  pub place : p ≡ places value

module _ {B P : Type 0} (places : B → P) where
  pub located-at : (x : Field B) {p : P} {next : ℕ} → located places x ≡ takes p next → Located places x p next
  located-at (takes b n) {p} {next} e =
      let same : n ≡ next = cc in
      let place : places b ≡ p = cc in
      record { value = b; read = ap (takes b) same; place = sym place }
  located-at (refuses q) e = absurd (takes≢refuses (sym e))

  pub located-not : (x : Field B) {q : ℕ} → located places x ≡ refuses q → x ≡ refuses q
  located-not (takes b n) e = absurd (takes≢refuses e)
  located-not (refuses p) {q} e = let same : p ≡ q = cc in ap refuses same

-- ---- a part of a row whose places were found: what is read there, which places they are, and that they lie in the row
module _ {A P : Type 0} (l : Layout A) (row : List ℕ) (at : ℕ) (from : P → A) (places : A → P) (Inside : P → Type 0) where
  pub record Part (p : P) (next : ℕ) : Type 0 where
    pub read : read_at (group l) row at ≡ takes (from p) next
    pub place : p ≡ places (from p)
    pub inside : Inside p

  -- by an answer r that says so
  module _ {R : Type 0} (says : R → Field P) (found : Field A → R) (agrees : (x : Field A) → says (found x) ≡ located places x) {r : R} (answer : r ≡ found (read_at (group l) row at)) where
    said_at : {y : Field P} → says r ≡ y → located places (read_at (group l) row at) ≡ y
    said_at e = sym (agrees (read_at (group l) row at)) ∙ ap says (sym answer) ∙ e

    pub part-found : Lawful (group l) → Bytes row → {q : ℕ} → (group l).read [] ≡ refused q
        → (at ≤ length row → (v : A) → Stands (group l) v row at → (from (places v) ≡ v) × Inside (places v)) → {p : P} {next : ℕ} → says r ≡ takes p next → Part p next
    part-found law by empty is {p} {next} e =
        let its = located-at places (read_at (group l) row at) (said_at e) in
        let known = is (not-past row at (group l) empty its.read) its.value (stands (group l) law by its.read) in
        let same : from p ≡ its.value = ap from its.place ∙ known.0 in
        record {
          read = its.read ∙ ap (λ (v : A). takes v next) (sym same);
          place = its.place ∙ ap places (sym same);
          inside = subst Inside (sym its.place) known.1;
        }

    pub part-not : {q : ℕ} → says r ≡ refuses q → read_at (group l) row at ≡ refuses q
    part-not e = located-not places (read_at (group l) row at) (said_at e)

-- How far a reader has come: what is left of the layout, and where. A reader's proof takes one of these steps for each field and question.
-- Assumes nothing.
use Prim.Native.Nat.{ℕ, suc, ◌≤◌, ◌<◌}
use mathlib.Core.List.{List, [], ◌∷◌}
use mathlib.Core.Bool.{Bool, true, false, cond}
use mathlib.Core.Option.{none, some}
use mathlib.Core.Path.{◌≡◌, refl, sym, ap, ◌∙◌}
use native.Mathlib.Omega.{arith}
use lib.ListN.{length, get_or, take, drop, drop_of_length-le}
use lib.Seq.{drop-cons}
use lib.Dec.{leb}
use Rattle.layout.specs.Questions.{FIELD}
use Rattle.layout.specs.Veil.{Sensitivity}
use Rattle.layout.specs.Read.{Read, value, refused, and_then}
use Rattle.layout.specs.Form.{Form, bytes, u16, flag, no_more, only_if, times, inside, used_up}
use Rattle.layout.specs.Layout.{Layout, done, field, ask, end, parse, optional, list, sized, Answer, accepted, refused_by, answer, read_row}
use Rattle.layout.proofs.Lawful.{value≢refused}
use Rattle.layout.proofs.At.{Took}

-- reading l at `from` is reading `rest` at `here`
pub record Came {A : Type 0} (l : Layout A) (row : List ℕ) (from : ℕ) (rest : Layout A) (here : ℕ) : Type 0 where
  pub same : parse l (drop from row) ≡ parse rest (drop here row)

pub record Reached {A : Type 0} (l : Layout A) (row : List ℕ) (from : ℕ) : Type 1 where
  pub rest : Layout A
  pub here : ℕ
  pub so : Came l row from rest here

abbrev pub start : {A : Type 0} {l : Layout A} {row : List ℕ} {from : ℕ} → Reached l row from
start {l = l} {from = from} = record { rest = l; here = from; so = record { same = refl } }

-- ---- one node of a layout
module _ {A : Type 0} (row : List ℕ) where
  pub field_is : {B : Type 0} (f : Form B) (get : A → B) (k : B → Layout A) (x : Read B) → f.read row ≡ x → parse (field f get k) row ≡ and_then x (λ b rest. parse (k b) rest)
  unfolding parse
  field_is {B} f get k x e = ap (λ (y : Read B). and_then y (λ b rest. parse (k b) rest)) e

  pub ask-is : (q : ℕ) (t u : Bool) (k : Layout A) → t ≡ u → parse (ask q t k) row ≡ cond u (parse k row) (refused q)
  unfolding parse
  ask-is q t u k e = ap (λ (b : Bool). cond b (parse k row) (refused q)) e

  done-is : (a : A) → parse (done a) row ≡ value a row
  unfolding parse
  done-is a = refl

-- ---- the steps: on, or to the refusal
module _ {A : Type 0} {l : Layout A} {row : List ℕ} {from here : ℕ} where
  module _ {B : Type 0} {f : Form B} {get : A → B} {k : B → Layout A} (so : Came l row from (field f get k) here) where
    abbrev pub field-yes : {b : B} {next : ℕ} → Took f row here b next → Reached l row from
    field-yes {b} {next} t = record { rest = k b; here = next; so = record { same = so.same ∙ field_is (drop here row) f get k (value b (drop next row)) t.reads } }

    pub field-no : {q : ℕ} → f.read (drop here row) ≡ refused q → parse l (drop from row) ≡ refused q
    field-no {q} e = so.same ∙ field_is (drop here row) f get k (refused q) e

  module _ {q : ℕ} {t : Bool} {k : Layout A} (so : Came l row from (ask q t k) here) where
    abbrev pub ask-yes : t ≡ true → Reached l row from
    ask-yes e = record { rest = k; here = here; so = record { same = so.same ∙ ask-is (drop here row) q t true k e } }

    pub ask-no : t ≡ false → parse l (drop from row) ≡ refused q
    ask-no e = so.same ∙ ask-is (drop here row) q t false k e

  module _ {q : ℕ} {k : Layout A} (so : Came l row from (end q k) here) where
    abbrev pub end-yes : length row ≤ here → Reached l row from
    end-yes e = record { rest = k; here = here; so = record { same = so.same ∙ ended (drop_of_length-le row e) } }
      where
        ended : drop here row ≡ [] → parse (end q k) (drop here row) ≡ parse k (drop here row)
        ended h = rw h (field_is [] (no_more q) (λ v. tt) (λ u. k) (value tt []) refl)

    pub end-no : here < length row → parse l (drop from row) ≡ refused q
    end-no e = so.same ∙ rw (drop-cons row here 0 e) (field_is (get_or row here 0 ∷ drop (suc here) row) (no_more q) (λ v. tt) (λ u. k) (refused q) refl)

  pub done-yes : {a : A} → Came l row from (done a) here → parse l (drop from row) ≡ value a (drop here row)
  done-yes {a} so = so.same ∙ done-is (drop here row) a

-- ---- a part that is there or not
module _ {B : Type 0} (f : Form B) (row : List ℕ) (here : ℕ) (t : Bool) where
  pub if_yes : {b : B} {next : ℕ} → t ≡ true → Took f row here b next → Took (only_if f t) row here (some b) next
  if_yes h u = record { reads = rw (h, u.reads); inside = u.inside; onward = u.onward }

  pub if-not : t ≡ false → here ≤ length row → Took (only_if f t) row here none here
  if-not h i = record { reads = rw h; inside = i; onward = λ l. omega arith }

  pub if_no : {q : ℕ} → t ≡ true → f.read (drop here row) ≡ refused q → (only_if f t).read (drop here row) ≡ refused q
  if_no h e = rw (h, e)

-- ---- a part behind a flag, and a counted list
module _ {B : Type 0} (f : Form B) (row : List ℕ) (here : ℕ) where
  pub optional-some : {b : B} {mid next : ℕ} → Took flag row here true mid → Took f row mid b next → Took (optional f) row here (some b) next
  unfolding parse
  optional-some t u = record { reads = rw (t.reads, u.reads); inside = u.inside; onward = λ l. omega (arith, t.onward l, u.onward t.inside) }

  pub optional-none : {next : ℕ} → Took flag row here false next → Took (optional f) row here none next
  unfolding parse
  optional-none t = record { reads = rw t.reads; inside = t.inside; onward = t.onward }

  pub optional-no-flag : {q : ℕ} → flag.read (drop here row) ≡ refused q → (optional f).read (drop here row) ≡ refused q
  unfolding parse
  optional-no-flag e = rw e

  pub optional-no : {q mid : ℕ} → Took flag row here true mid → f.read (drop mid row) ≡ refused q → (optional f).read (drop here row) ≡ refused q
  unfolding parse
  optional-no t e = rw (t.reads, e)

  pub list-yes : {n mid next : ℕ} {bs : List B} → Took u16 row here n mid → Took (times f n) row mid bs next → Took (list f) row here bs next
  unfolding parse
  list-yes t u = record { reads = rw (t.reads, u.reads); inside = u.inside; onward = λ l. omega (arith, t.onward l, u.onward t.inside) }

  pub list-no-count : {q : ℕ} → u16.read (drop here row) ≡ refused q → (list f).read (drop here row) ≡ refused q
  unfolding parse
  list-no-count e = rw e

  pub list-no : {n mid q : ℕ} → Took u16 row here n mid → (times f n).read (drop mid row) ≡ refused q → (list f).read (drop here row) ≡ refused q
  unfolding parse
  list-no t e = rw (t.reads, e)

-- ---- a row within the row, behind its length: read as a row that stands alone
abbrev pub alone : {B : Type 0} → Form B → ℕ → Layout B
alone f q = field f (λ b. b) (λ b. end q (done b))

module _ {B : Type 0} (f : Form B) (q : ℕ) where
  abbrev pub in_row : List ℕ → Answer B → Read B
  in_row rest (accepted b) = value b rest
  in_row rest (refused_by p) = refused p

  used-up : (rest : List ℕ) (x : Read B) → used_up q rest x ≡ in_row rest (answer (and_then x (λ b left. parse (end q (done b)) left)))
  unfolding parse
  used-up rest (value b []) = refl
  used-up rest (value b (x ∷ xs)) = refl
  used-up rest (refused p) = refl

  module _ (row : List ℕ) (here : ℕ) where
    pub sized-no-length : {p : ℕ} → u16.read (drop here row) ≡ refused p → (sized f q).read (drop here row) ≡ refused p
    unfolding parse
    sized-no-length e = rw e

    module _ {n mid : ℕ} (t : Took u16 row here n mid) where
      sized-is : (x : Read B) → (inside n q f).read (drop mid row) ≡ x → (sized f q).read (drop here row) ≡ x
      unfolding parse
      sized-is (value b rest) e = rw (t.reads, e)
      sized-is (refused p) e = rw (t.reads, e)

      pub sized-short : (s : Sensitivity) → (bytes s n).read (drop mid row) ≡ refused FIELD → (sized f q).read (drop here row) ≡ refused FIELD
      sized-short s e = sized-is (refused FIELD) (go (leb n (length (drop mid row))) e)
        where
          go : (t : Bool) → cond t (value (take n (drop mid row)) (drop n (drop mid row))) (refused FIELD) ≡ refused FIELD
              → cond t (used_up q (drop n (drop mid row)) (f.read (take n (drop mid row)))) (refused FIELD) ≡ refused FIELD
          go true e = absurd (value≢refused e)
          go false e = refl

      pub sized-part : (s : Sensitivity) {part : List ℕ} {next : ℕ} → Took (bytes s n) row mid part next → (sized f q).read (drop here row) ≡ in_row (drop next row) (read_row (alone f q) part)
      unfolding parse
      sized-part s {part} {next} u = sized-is _ (go (leb n (length (drop mid row))) u.reads ∙ used-up (drop next row) (f.read part))
        where
          go : (t : Bool) → cond t (value (take n (drop mid row)) (drop n (drop mid row))) (refused FIELD) ≡ value part (drop next row)
              → cond t (used_up q (drop n (drop mid row)) (f.read (take n (drop mid row)))) (refused FIELD) ≡ used_up q (drop next row) (f.read part)
          go true e =
              let same : take n (drop mid row) ≡ part = cc in
              let rest : drop n (drop mid row) ≡ drop next row = cc in
              rw (same, rest)
          go false e = absurd (value≢refused (sym e))

-- Laws of ends: of one item, and of n items one after the other; and of a list that code has walked over.
-- Assumes nothing.
use Prim.Native.Nat.{ℕ, zero, suc, ◌+◌, ◌-◌, ◌≤◌, ◌<◌}
use mathlib.Core.List.{List, ◌∷◌}
use mathlib.Core.Path.{◌≡◌, refl, sym, ap, ◌∙◌}
use native.Mathlib.Omega.{arith}
use lib.ListN.{length, drop, length-drop}
use Rattle.std.specs.Prelude.{Result, Ok, Err}
use Rattle.layout.specs.declared.question.Question.{Question}
use Rattle.layout.specs.Read.{Read, value, refused, and_then, onto}
use Rattle.layout.specs.Form.{Form, u16, times, read_many}
use Rattle.layout.specs.Form as form
use Rattle.layout.specs.Field.{Field, takes, refuses, placed, read_at}
use Rattle.layout.specs.Field as field
use Rattle.layout.specs.Layout.{accepted, refused_by, list, list_layout}
use Rattle.layout.specs.RowLaws.{Bytes}
use Rattle.layout.specs.Says.{answers}
use Rattle.layout.proofs.Lawful.{Lawful}
use Rattle.layout.proofs.Along.{on, part-along}
use Rattle.layout.proofs.At.{Took, took, fits-at, refused-at}
use Rattle.layout.proofs.Front.{number-lawful}
use Rattle.layout.proofs.Parts.{times-lawful}
use Rattle.layout.proofs.Theorems.{accepted≢}
use Rattle.reader.specs.Reader.{ended}
use Rattle.contact_lists.specs.declared.ListAt.{ListAt}
use Rattle.contact_lists.specs.Lists.{list_says, ListedAt, items, items_of, Listed}
use Rattle.contact_lists.specs.Lists as lists
use Rattle.contact_lists.specs.Walked.{end_of, onward, found_at, found}
use Rattle.contact_lists.specs.Walked as walked

-- ---- n items, of which i are behind: one more of them
pub one_end : (ends : ℕ → Field (Unit {0})) (n i at : ℕ) → i < n → end_of ends (n - i) at ≡ onward (ends at) (λ next. end_of ends (n - (i + 1)) next)
unfolding walked.end_of
one_end ends n i at h = let s : n - i ≡ suc (n - (i + 1)) = omega arith in rw s refl

module _ {B : Type 0} (f : Form B) (row : List ℕ) where
  ended-onto : {C D : Type 0} (g : C → D) (x : Read C) → ended (placed row (onto g x)) ≡ ended (placed row x)
  ended-onto g (value c rest) = refl
  ended-onto g (refused q) = refl

  pub one_more : (n i here : ℕ) → i < n → {b : B} {next : ℕ} → Took f row here b next → ended (read_at (times f (n - i)) row here) ≡ ended (read_at (times f (n - (i + 1))) row next)
  unfolding field.read_at form.read_many
  one_more n i here h {b} {next} t =
      let s : n - i ≡ suc (n - (i + 1)) = omega arith in
      rw (s, t.reads) (ended-onto (λ bs. b ∷ bs) (read_many f (n - (i + 1)) (drop next row)))

  pub none_left : (n i here : ℕ) → i ≡ n → here ≤ length row → ended (read_at (times f (n - i)) row here) ≡ takes tt here
  unfolding field.read_at form.read_many
  none_left n i here e h =
      let s : n - i ≡ 0 = omega arith in
      let place : length row - length (drop here row) ≡ here = rw length-drop (omega arith) in
      rw (s, place)

  -- ---- all of them, item by item
  pub items_end : Lawful f → Bytes row → (n at : ℕ) → at ≤ length row → end_of (λ p. ended (read_at f row p)) n at ≡ ended (read_at (times f n) row at)
  unfolding field.read_at form.read_many walked.end_of
  items_end law by zero at h = sym (none_left 0 0 at refl h)
  items_end law by (suc n) at h = go (read_at f row at) refl (λ next i. items_end law by n next i)
    where
      go : (x : Field B) → read_at f row at ≡ x → ((next : ℕ) → next ≤ length row → end_of (λ p. ended (read_at f row p)) n next ≡ ended (read_at (times f n) row next))
          → onward (ended x) (λ p. end_of (λ p. ended (read_at f row p)) n p) ≡ ended (placed row (and_then (f.read (drop at row)) (λ b mid. onto (λ bs. b ∷ bs) (read_many f n mid))))
      go (takes b next) e others =
          let t = took row at f law by e in
          rw t.reads (others next t.inside ∙ sym (ended-onto (λ bs. b ∷ bs) (read_many f n (drop next row))))
      go (refuses q) e others = rw (refused-at row at f e) refl

  -- ---- the items are those that stand there
  pub items_at : (n here : ℕ) {next : ℕ} → ended (read_at (times f n) row here) ≡ takes tt next → read_at (times f n) row here ≡ takes (items f n (drop here row)) next
  unfolding field.read_at lists.items
  items_at n here {next} e = go (read_many f n (drop here row)) e
    where
      go : (x : Read (List B)) → ended (placed row x) ≡ takes tt next → placed row x ≡ takes (items_of f x) next
      go (value bs rest) e = let same : length row - length rest ≡ next = cc in rw same
      go (refused q) e = absurd (let z : ◌≡◌ {A = ℕ} 0 1 = cc in omega arith)

-- items that stand in a row are as many as were counted, and fit
pub listed-fits : {B : Type 0} (f : Form B) → Lawful f → {row : List ℕ} {first count next : ℕ} → Bytes row → Listed f row first count next
    → (times f count).fits (items f count (drop first row)) (drop next row)
listed-fits f law {row} {first} {count} by l = fits-at row first (times f count) (times-lawful f law count) by (items_at f row count first l.ends)

-- ---- a counted list: its count, and then its items
module _ {B : Type 0} (f : Form B) (law : Lawful f) (row : List ℕ) (by : Bytes row) (at : ℕ) (ends : ℕ → ℕ → Field (Unit {0}))
    (same : (n first : ℕ) → first ≤ length row → ends n first ≡ ended (read_at (times f n) row first)) where
  abbrev Lists : Result ListAt Question → Type 0
  Lists r = (list_says f row r ≡ read_at (list f) row at) × ListedAt f row r

  abbrev rest : ℕ → ℕ → Field (List B)
  rest n first = on (read_at (times f n) row first) (λ bs next. takes bs next)

  list-along : read_at (list f) row at ≡ on (read_at u16 row at) rest
  list-along = part-along row by (list_layout f) (number-lawful 2, λ n. (times-lawful f law n, λ bs. tt)) at tt

  pub listed : (r : Result ListAt Question) → answers r ≡ found ends (read_at u16 row at) → Lists r
  listed r e = rw list-along (counted (read_at u16 row at) refl e)
    where
      Along : Field (List B) → Type 0
      Along x = (list_says f row r ≡ x) × ListedAt f row r

      not-there : {q : ℕ} (r : Result ListAt Question) → answers r ≡ refused_by q → (list_says f row r ≡ refuses q) × ListedAt f row r
      not-there (Ok l) a = absurd (accepted≢ a)
      not-there (Err p) a = (cc, tt)

      ended-at : (count first : ℕ) → first ≤ length row → (x : Field (List B)) → read_at (times f count) row first ≡ x → answers r ≡ found_at count first (ended x) → Along (on x (λ bs next. takes bs next))
      ended-at count first h (takes bs next) e a = taken r a
        where
          ends-there : ended (read_at (times f count) row first) ≡ takes tt next
          ends-there = ap ended e

          taken : (r : Result ListAt Question) → answers r ≡ accepted (record { first = first; next = next; count = count }) → (list_says f row r ≡ takes bs next) × ListedAt f row r
          taken (Ok l) a =
              let is : l ≡ record { first = first; next = next; count = count } = cc in
              rw is (sym (items_at f row count first ends-there) ∙ e, record { starts = h; ends = ends-there })
          taken (Err q) a = absurd (accepted≢ (sym a))
      ended-at count first h (refuses q) e a = not-there r a

      counted : (x : Field ℕ) → read_at u16 row at ≡ x → answers r ≡ found ends x → Along (on x rest)
      counted (takes count first) e a =
          let h = (took row at u16 (number-lawful 2) by e).inside in
          ended-at count first h (read_at (times f count) row first) refl (rw (same count first h) at a)
      counted (refuses q) e a = not-there r a

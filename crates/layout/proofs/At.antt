-- Laws of `read_at`: what is known once a field was taken at a position, and what is to be shown of a reader of fields.
-- Assumes nothing.
use Prim.Native.Nat.{ℕ, zero, suc, ◌+◌, ◌-◌, ◌^◌, ◌≤◌, ◌<◌}
use mathlib.Core.List.{List, [], ◌∷◌, ◌++◌}
use mathlib.Core.Option.{Option, none, some}
use mathlib.Core.Path.{◌≡◌, refl, sym, ap, ◌∙◌}
use native.Mathlib.Omega.{arith}
use native.Mathlib.Nat.{zero-mul, zero-add, add-zero}
use lib.ListN.{length, get_or, take, drop, length-append, length-drop, drop_of_length-le}
use lib.Seq.{get_or-take, get_or-drop, drop-drop, drop-cons, drop_at}
use mir.Val.{Fits}
use mir.Syntax.{w8}
use borrow.Author.Tests.{le-leb, lt-leb}
use Rattle.layout.specs.Questions.{FIELD}
use Rattle.layout.specs.Read.{Read, value, refused}
use Rattle.layout.specs.Veil.{Sensitivity}
use Rattle.layout.specs.Form.{Form, bytes, code, big_endian, bytes_of, number, u8, one, letter}
use Rattle.layout.specs.Field.{takes, refuses, placed, read_at}
use Rattle.layout.specs.RowLaws.{Bytes}
use Rattle.layout.proofs.Lawful.{Lawful}
use Rattle.layout.proofs.Front.{bytes-lawful, number-lawful, length-bytes_of}

-- what a call's answer says, once it is known which case the answer is
pub learn : {A B : Type 0} (says : A → B) {r v : A} {x : B} → says r ≡ x → r ≡ v → x ≡ says v
learn says p q = sym p ∙ ap says q

-- ---- what is known once a field was taken
pub record Took {B : Type 0} (f : Form B) (row : List ℕ) (here : ℕ) (b : B) (next : ℕ) : Type 0 where
  pub reads : f.read (drop here row) ≡ value b (drop next row)
  pub inside : next ≤ length row
  pub onward : here ≤ length row → here ≤ next

-- a slice of bytes is bytes
pub typed : (row : List ℕ) → ((i : ℕ) → Fits w8 (get_or row i 0)) → Bytes row
typed row h i = (h i).fits

pub bytes_drop : (n : ℕ) (row : List ℕ) → Bytes row → Bytes (drop n row)
bytes_drop n row by i = rw (get_or-drop n row i 0) (by (n + i))

takes≢refuses : {B : Type 0} {b : B} {n q : ℕ} → takes b n ≡ refuses q → ⊥
takes≢refuses e = let z : ◌≡◌ {A = ℕ} 0 1 = cc in omega arith

module _ (row : List ℕ) (here : ℕ) where
  -- what is left behind n bytes from `here` stands at the place that its length tells
  left_at : (n : ℕ) (rest : List ℕ) → n + length rest ≡ length row - here → drop n (drop here row) ≡ rest → drop (length row - length rest) row ≡ rest
  left_at n [] long left = drop_of_length-le row {i = length row - 0} (omega arith)
  left_at n (x ∷ xs) long left =
      let at : length row - length (x ∷ xs) ≡ here + n = omega arith in
      rw at (sym (drop-drop n here row) ∙ left)

  module _ {B : Type 0} (f : Form B) where
    pub took : Lawful f → Bytes row → {b : B} {next : ℕ} → read_at f row here ≡ takes b next → Took f row here b next
    unfolding read_at
    took law by {b} {next} e = go (f.read (drop here row)) refl e
      where
        go : (x : Read B) → f.read (drop here row) ≡ x → placed row x ≡ takes b next → Took f row here b next
        go (value c rest) h e =
            let j = law.joins (drop here row) c rest (bytes_drop here row by) h in
            let n = length (f.print c) in
            let long : n + length rest ≡ length row - here = sym (length-append (f.print c) rest) ∙ ap (λ (l : List ℕ). length l) j ∙ length-drop here row in
            let left : drop n (drop here row) ≡ rest = ap (λ (l : List ℕ). drop n l) (sym j) ∙ drop_at (f.print c) rest n refl in
            let place : length row - length rest ≡ next = cc in
            let same : c ≡ b = cc in
            record { reads = rw (h, same, ← place, left_at n rest long left); inside = omega arith; onward = λ l. omega arith }
        go (refused q) h e = absurd (takes≢refuses (sym e))

    -- the next position is behind what the value prints
    pub took-next : Lawful f → Bytes row → {b : B} {next : ℕ} → read_at f row here ≡ takes b next → here ≤ length row → next ≡ here + length (f.print b)
    took-next law by {b} {next} e h =
        let t = took law by e in
        let j = law.joins (drop here row) b (drop next row) (bytes_drop here row by) t.reads in
        let long : length (f.print b ++ drop next row) ≡ length (drop here row) = ap (λ (l : List ℕ). length l) j in
        omega (arith, t.inside, long, length-append (f.print b) (drop next row), length-drop here row, length-drop next row)

    -- and the value fits
    pub fits-at : Lawful f → Bytes row → {b : B} {next : ℕ} → read_at f row here ≡ takes b next → f.fits b (drop next row)
    fits-at law by {b} {next} e = law.fitted (drop here row) b (drop next row) (bytes_drop here row by) (took law by e).reads

    pub refused-at : {q : ℕ} → read_at f row here ≡ refuses q → f.read (drop here row) ≡ refused q
    unfolding read_at
    refused-at {q} e = go (f.read (drop here row)) e
      where
        go : (x : Read B) → placed row x ≡ refuses q → x ≡ refused q
        go (value c rest) e = absurd (takes≢refuses e)
        go (refused p) e = let same : p ≡ q = cc in rw same

    -- ---- what a reader has to show
    pub takes_at : {b : B} {next : ℕ} → f.read (drop here row) ≡ value b (drop next row) → next ≤ length row → read_at f row here ≡ takes b next
    unfolding read_at
    takes_at {b} {next} e h = let place : length row - length (drop next row) ≡ next = rw length-drop (omega arith) in rw (e, place)

    pub refuses-at : {q : ℕ} → f.read (drop here row) ≡ refused q → read_at f row here ≡ refuses q
    unfolding read_at
    refuses-at e = rw e

-- ---- fields of n bytes: they lie in the row, or do not
module _ (row : List ℕ) (here n : ℕ) where
  room : here + n ≤ length row → n ≤ length (drop here row)
  room h = rw length-drop (omega arith)

  short : length row < here + n → 0 < n → length (drop here row) < n
  short h z = rw length-drop (omega arith)

  pub bytes-in : (s : Sensitivity) → here + n ≤ length row → read_at (bytes s n) row here ≡ takes (take n (drop here row)) (here + n)
  bytes-in s h = takes_at row here (bytes s n) (rw (le-leb n (length (drop here row)) (room h), drop-drop n here row)) h

  pub bytes-out : (s : Sensitivity) → length row < here + n → 0 < n → read_at (bytes s n) row here ≡ refuses FIELD
  bytes-out s h z = refuses-at row here (bytes s n) (rw (lt-leb n (length (drop here row)) (short h z)))

  module _ {B : Type 0} (q : ℕ) (of : List ℕ → Option B) (to : B → List ℕ) (ok : B → Type 0) where
    pub code_in : {b : B} → here + n ≤ length row → of (take n (drop here row)) ≡ some b → read_at (code n q of to ok) row here ≡ takes b (here + n)
    code_in h e = takes_at row here (code n q of to ok) (rw (le-leb n (length (drop here row)) (room h), e, drop-drop n here row)) h

    pub code-no : here + n ≤ length row → of (take n (drop here row)) ≡ none → read_at (code n q of to ok) row here ≡ refuses q
    code-no h e = refuses-at row here (code n q of to ok) (rw (le-leb n (length (drop here row)) (room h), e))

    pub code_out : length row < here + n → 0 < n → read_at (code n q of to ok) row here ≡ refuses FIELD
    code_out h z = refuses-at row here (code n q of to ok) (rw (lt-leb n (length (drop here row)) (short h z)))

-- no bytes, past the row's end
pub bytes-none : (row : List ℕ) (here : ℕ) (s : Sensitivity) → length row ≤ here → read_at (bytes s 0) row here ≡ takes [] (length row)
bytes-none row here s h = takes_at row here (bytes s 0) (rw (drop_of_length-le row {i = here} h, drop_of_length-le row {i = length row} (omega arith))) (omega arith)

-- where a run and a number end
pub bytes_next : (row : List ℕ) (here n : ℕ) (s : Sensitivity) → Bytes row → {bs : List ℕ} {next : ℕ} → read_at (bytes s n) row here ≡ takes bs next → here ≤ length row → next ≡ here + n
bytes_next row here n s by e h = took-next row here (bytes s n) (bytes-lawful s n) by e h ∙ ap (λ (k : ℕ). here + k) (fits-at row here (bytes s n) (bytes-lawful s n) by e)

pub number-next : (row : List ℕ) (here w : ℕ) → Bytes row → {n next : ℕ} → read_at (number w) row here ≡ takes n next → here ≤ length row → next ≡ here + w
number-next row here w by {n} e h = took-next row here (number w) (number-lawful w) by e h ∙ ap (λ (k : ℕ). here + k) (length-bytes_of w n)

-- ---- numbers of w bytes
big-take : (w n : ℕ) (bs : List ℕ) → w ≤ n → big_endian w (take n bs) ≡ big_endian w bs
unfolding big_endian
big-take zero n bs h = refl
big-take (suc w) n bs h = rw (big-take w n bs (omega arith), get_or-take n bs w 0 h)

module _ (row : List ℕ) (here w : ℕ) where
  pub number_in : here + w ≤ length row → read_at (number w) row here ≡ takes (big_endian w (drop here row)) (here + w)
  number_in h = code_in row here w FIELD (λ bs. some (big_endian w bs)) (bytes_of w) (λ n. n < 256 ^ w) h (ap (λ (n : ℕ). some n) (big-take w w (drop here row) (omega arith)))

  pub number-out : length row < here + w → 0 < w → read_at (number w) row here ≡ refuses FIELD
  number-out h z = code_out row here w FIELD (λ bs. some (big_endian w bs)) (bytes_of w) (λ n. n < 256 ^ w) h z

pub byte-in : (row : List ℕ) (here : ℕ) → here < length row → read_at u8 row here ≡ takes (get_or row here 0) (here + 1)
unfolding big_endian
byte-in row here h = rw (number_in row here 1 (omega arith), get_or-drop here row 0 0) (simp (zero-mul, zero-add, add-zero))

-- ---- a byte of a table
module _ {B : Type 0} (row : List ℕ) (here q : ℕ) (of : ℕ → Option B) (to : B → ℕ) where
  first_byte : here < length row → get_or (take 1 (drop here row)) 0 0 ≡ get_or row here 0
  first_byte h = rw (drop-cons row here 0 h)

  pub letter-in : {b : B} → here < length row → of (get_or row here 0) ≡ some b → read_at (letter q of to) row here ≡ takes b (here + 1)
  letter-in h e = code_in row here 1 q (one of) (λ b. to b ∷ []) (λ b. of (to b) ≡ some b) (omega arith) (ap of (first_byte h) ∙ e)

  pub letter-no : here < length row → of (get_or row here 0) ≡ none → read_at (letter q of to) row here ≡ refuses q
  letter-no h e = code-no row here 1 q (one of) (λ b. to b ∷ []) (λ b. of (to b) ≡ some b) (omega arith) (ap of (first_byte h) ∙ e)

  pub letter-out : length row ≤ here → read_at (letter q of to) row here ≡ refuses FIELD
  letter-out h = code_out row here 1 q (one of) (λ b. to b ∷ []) (λ b. of (to b) ≡ some b) (omega arith) (omega arith)

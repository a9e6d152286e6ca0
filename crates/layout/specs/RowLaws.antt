-- What is proved of every row that has a layout (proofs/Theorems.antt).
-- Assumes nothing.
use Rattle.std.specs.Prelude.{ℕ, ◌<◌, List, [], false, ◌≡◌, length, get_or}
use Rattle.std.proofs.Math.Option.{none, some}
use Rattle.layout.specs.Veil.{Level, veil, excused, Outside}
use Rattle.layout.specs.Layout.{Layout, print, mask_of, blank_of, fits_of, refusal_of, Answer, accepted, refused_by, read_row, veiled_bytes, hidden_row}

-- what the type of a row says
abbrev pub Bytes : List ℕ → Type 0
Bytes row = (i : ℕ) → get_or row i 0 < 256

module _ {A : Type 0} (l : Layout A) where
  -- the same refusal, or values alike outside what is hidden
  abbrev pub Alike : Level → Answer A → Answer A → Type 0
  Alike lv (accepted v) (accepted v') = blank_of l lv v ≡ blank_of l lv v'
  Alike lv (refused_by p) (refused_by q) = p ≡ q
  Alike lv (accepted v) (refused_by q) = ⊥
  Alike lv (refused_by p) (accepted v) = ⊥

  -- no question that `lv` excuses refuses the row
  abbrev pub Judged : Level → List ℕ → Type 0
  Judged lv row = (q : ℕ) → read_row l row ≡ refused_by q → excused lv q ≡ false

  -- a value that the layout can print and no question refuses
  pub record Valid (v : A) : Type 0 where
    pub fits : fits_of l v []
    pub granted : refusal_of l v ≡ none

  pub record RowLaws : Type 0 where
    -- write then read: the same value, or the refusal that the value has
    pub print-read : (v : A) → Valid v → read_row l (print l v) ≡ accepted v
    pub print-refused : (v : A) (q : ℕ) → fits_of l v [] → refusal_of l v ≡ some q → read_row l (print l v) ≡ refused_by q
    -- read then write: the same bytes, and what is read is such a value
    pub read-print : (row : List ℕ) → Bytes row → (v : A) → read_row l row ≡ accepted v → print l v ≡ row
    pub read-valid : (row : List ℕ) → Bytes row → (v : A) → read_row l row ≡ accepted v → Valid v
    -- one reading: two values that print alike are equal
    pub one-reading : (v v' : A) → Valid v → Valid v' → print l v ≡ print l v' → v ≡ v'
    -- rows of equal length that agree outside what the first hides are answered alike, and hide the same bytes
    pub blind : (lv : Level) (row row' : List ℕ) → Judged lv row → Judged lv row' → length row ≡ length row' → Outside (mask_of l lv row) row row'
        → Alike lv (read_row l row) (read_row l row')
    pub same-hidden : (lv : Level) (row row' : List ℕ) → Judged lv row → Judged lv row' → length row ≡ length row' → Outside (mask_of l lv row) row row'
        → mask_of l lv row' ≡ mask_of l lv row
    -- the copy with 0 for what is hidden prints the value with 0 for it; hiding twice is hiding once
    pub hidden-prints : (lv : Level) (row : List ℕ) → Judged lv (hidden_row l lv row) → Bytes row → (v : A) → read_row l row ≡ accepted v → print l (blank_of l lv v) ≡ hidden_row l lv row
    pub hidden-twice : (lv : Level) (row : List ℕ) → Judged lv row → Judged lv (hidden_row l lv row) → hidden_row l lv (hidden_row l lv row) ≡ hidden_row l lv row

  -- ---- the same of veiled bytes, where no question is excused
  pub record VeilLaws : Type 0 where
    pub blind : (row row' : List ℕ) → length row ≡ length row' → Outside (veiled_bytes l row) row row' → Alike veil (read_row l row) (read_row l row')
    pub same-veiled : (row row' : List ℕ) → length row ≡ length row' → Outside (veiled_bytes l row) row row' → veiled_bytes l row' ≡ veiled_bytes l row
    -- a row and its copy with 0 for the veiled bytes
    pub copy-alike : (row : List ℕ) → Alike veil (read_row l row) (read_row l (hidden_row l veil row))
    pub copy-twice : (row : List ℕ) → hidden_row l veil (hidden_row l veil row) ≡ hidden_row l veil row

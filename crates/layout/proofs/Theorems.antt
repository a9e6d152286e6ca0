-- Every row that has a layout of lawful forms, and ends where the layout ends, has `RowLaws`.
-- Assumes nothing.
use Prim.Native.Nat.{ℕ, ◌<◌}
use mathlib.Core.List.{List, [], append-nil}
use mathlib.Core.Bool.{Bool, true, false, cond, true≢false}
use mathlib.Core.Option.{some}
use mathlib.Core.Path.{◌≡◌, refl, sym, ap, ◌∙◌, subst}
use native.Mathlib.Omega.{arith}
use lib.ListN.{length, get_or}
use lib.Dec.{lit<}
use Rattle.layout.specs.Read.{Read, value, refused, after, said}
use Rattle.layout.specs.Veil.{Level, veil, hide, Outside, excused}
use Rattle.layout.specs.Layout.{Layout, parse, print, mask_of, blank_of, fits_of, refusal_of, group, accepted, refused_by, answer, read_row, hidden_row}
use Rattle.layout.specs.RowLaws.{Bytes, Alike, Judged, Valid, RowLaws, VeilLaws}
use Rattle.layout.proofs.Hide.{length-hide, outside-hide, hide-outside, hide-hide, hide-at}
use Rattle.layout.proofs.Lawful.{ReadAlike, Same, Excused, Outcome, same, excuse, excuse', Lawful, value≢refused}

pub accepted≢ : {A : Type 0} {v : A} {n : ℕ} → accepted v ≡ refused_by n → ⊥
accepted≢ e = let z : ◌≡◌ {A = ℕ} 0 1 = cc in omega arith

accepted-is : {A : Type 0} {v v' : A} → accepted v ≡ accepted v' → v ≡ v'
accepted-is e = cc

bytes-hide : (m : List Bool) (row : List ℕ) → Bytes row → Bytes (hide m row)
bytes-hide m row by i = subst (λ (n : ℕ). n < 256) (sym (hide-at m row i)) (go (get_or m i false))
  where
    go : (t : Bool) → cond t 0 (get_or row i 0) < 256
    go true = lit< tt
    go false = by i

-- `ends`: nothing is left after a value that was read
module _ {A : Type 0} (l : Layout A) (law : Lawful (group l)) (ends : (v : A) (rest : List ℕ) → fits_of l v rest → rest ≡ []) where
  -- ---- write, then read
  printed : (v : A) → fits_of l v [] → parse l (print l v) ≡ said (refusal_of l v) v []
  printed v h = rw (append-nil (print l v)) at (law.printed v [] h)

  print-read : (v : A) → Valid l v → read_row l (print l v) ≡ accepted v
  print-read v h = rw (printed v h.fits, h.granted)

  print-refused : (v : A) (q : ℕ) → fits_of l v [] → refusal_of l v ≡ some q → read_row l (print l v) ≡ refused_by q
  print-refused v q h n = rw (printed v h, n)

  -- ---- read, then write
  read-value : (row : List ℕ) → Bytes row → (v : A) → read_row l row ≡ accepted v → parse l row ≡ value v []
  read-value row by v e = go (parse l row) refl e
    where
      go : (x : Read A) → parse l row ≡ x → answer x ≡ accepted v → x ≡ value v []
      go (value u rest) p q = let none_left = ends u rest (law.fitted row u rest by p) in rw (accepted-is q, none_left)
      go (refused n) p q = absurd (accepted≢ (sym q))

  read-print : (row : List ℕ) → Bytes row → (v : A) → read_row l row ≡ accepted v → print l v ≡ row
  read-print row by v e = sym (append-nil (print l v)) ∙ law.joins row v [] by (read-value row by v e)

  read-valid : (row : List ℕ) → Bytes row → (v : A) → read_row l row ≡ accepted v → Valid l v
  read-valid row by v e = let r = read-value row by v e in record { fits = law.fitted row v [] by r; granted = law.granted row v [] by r }

  one-reading : (v v' : A) → Valid l v → Valid l v' → print l v ≡ print l v' → v ≡ v'
  one-reading v v' h h' e = accepted-is (sym (print-read v h) ∙ ap (λ (row : List ℕ). read_row l row) e ∙ print-read v' h')

  -- ---- what is hidden does not show
  module _ (lv : Level) where
    abbrev Alikes : Read A → Read A → Type 0
    Alikes x x' = ReadAlike (λ v v'. blank_of l lv v ≡ blank_of l lv v') (λ v rest. []) x x'

    abbrev Sames : List ℕ → List ℕ → Type 0
    Sames row row' = Same (λ v v'. blank_of l lv v ≡ blank_of l lv v') (λ v rest. []) (parse l row) (parse l row') (mask_of l lv row) (mask_of l lv row')

    after_none : (x : Read A) → after x (λ v rest. []) ≡ []
    after_none (value v rest) = refl
    after_none (refused q) = refl

    stands : (row : List ℕ) → Judged l lv row → Excused lv (parse l row) → ⊥
    stands row h = go (parse l row) h
      where
        go : (x : Read A) → ((q : ℕ) → answer x ≡ refused_by q → excused lv q ≡ false) → Excused lv x → ⊥
        go (value v rest) h e = e
        go (refused q) h e = true≢false (sym e ∙ h q refl)

    blind-hide : (row row' : List ℕ) → Judged l lv row → Judged l lv row' → hide (mask_of l lv row) row ≡ hide (mask_of l lv row) row' → Sames row row'
    blind-hide row row' j j' e = go (law.blind lv row row' (λ v rest. []) (rw (after_none (parse l row), append-nil (mask_of l lv row)) e))
      where
        go : Outcome lv (λ v v'. blank_of l lv v ≡ blank_of l lv v') (λ v rest. []) (parse l row) (parse l row') (mask_of l lv row) (mask_of l lv row') → Sames row row'
        go (same h) = h
        go (excuse h) = absurd (stands row j h)
        go (excuse' h) = absurd (stands row' j' h)

    answers : (x x' : Read A) → Alikes x x' → Alike l lv (answer x) (answer x')
    answers (value v rest) (value v' rest') a = a.0
    answers (refused p) (refused q) a = a
    answers (value v rest) (refused q) a = absurd a
    answers (refused p) (value v rest) a = absurd a

    blinded : (row row' : List ℕ) → Judged l lv row → Judged l lv row' → length row ≡ length row' → Outside (mask_of l lv row) row row' → Sames row row'
    blinded row row' j j' len eqs = blind-hide row row' j j' (outside-hide (mask_of l lv row) row row' len eqs)

    -- ---- the copy with 0 for what is hidden
    module _ (row : List ℕ) (j : Judged l lv row) (j' : Judged l lv (hidden_row l lv row)) where
      copied : Sames row (hidden_row l lv row)
      copied = blind-hide row (hidden_row l lv row) j j' (sym (hide-hide (mask_of l lv row) row))

      hidden-twice : hidden_row l lv (hidden_row l lv row) ≡ hidden_row l lv row
      hidden-twice = ap (λ (m : List Bool). hide m (hidden_row l lv row)) copied.masks ∙ hide-hide (mask_of l lv row) row

      hidden-read : Bytes row → (v : A) → parse l row ≡ value v [] → parse l (hidden_row l lv row) ≡ value (blank_of l lv v) []
      hidden-read by v e = go (parse l row) (parse l (hidden_row l lv row)) copied.alike e refl
        where
          go : (x x' : Read A) → Alikes x x' → x ≡ value v [] → parse l (hidden_row l lv row) ≡ x' → x' ≡ value (blank_of l lv v) []
          go (value u r) (value u' r') a h p =
              let eq : u ≡ v = cc in
              let ends : r ≡ [] = cc in
              let z : blank_of l lv u' ≡ u' = law.bare lv (hidden_row l lv row) u' r' (bytes-hide (mask_of l lv row) row by) p hidden-twice in
              rw (← z, ← a.0, eq, ← a.1, ends)
          go (refused p) (refused p') a h r = absurd (value≢refused (sym h))
          go (value u r) (refused p) a h r₁ = absurd a
          go (refused p) (value u r) a h r₁ = absurd a

    hidden-prints : (row : List ℕ) → Judged l lv (hidden_row l lv row) → Bytes row → (v : A) → read_row l row ≡ accepted v → print l (blank_of l lv v) ≡ hidden_row l lv row
    hidden-prints row j' by v e =
        let j : Judged l lv row = λ q r. absurd (accepted≢ (sym e ∙ r)) in
        let h = hidden-read row j j' by v (read-value row by v e) in
        sym (append-nil (print l (blank_of l lv v))) ∙ law.joins (hidden_row l lv row) (blank_of l lv v) [] (bytes-hide (mask_of l lv row) row by) h

  pub row_laws : RowLaws l
  row_laws = record {
    print-read = print-read;
    print-refused = print-refused;
    read-print = read-print;
    read-valid = read-valid;
    one-reading = one-reading;
    blind = λ lv row row' j j' len eqs. answers lv (parse l row) (parse l row') (blinded lv row row' j j' len eqs).alike;
    same-hidden = λ lv row row' j j' len eqs. (blinded lv row row' j j' len eqs).masks;
    hidden-prints = hidden-prints;
    hidden-twice = hidden-twice;
  }

-- ---- at 01's level nothing is excused
module _ {A : Type 0} (l : Layout A) (laws : RowLaws l) where
  judged : (row : List ℕ) → Judged l veil row
  judged row q e = refl

  pub veil-laws : VeilLaws l
  veil-laws = record {
    blind = λ row row' len eqs. laws.blind veil row row' (judged row) (judged row') len eqs;
    same-veiled = λ row row' len eqs. laws.same-hidden veil row row' (judged row) (judged row') len eqs;
    copy-alike = λ row. let copy = hidden_row l veil row in
        laws.blind veil row copy (judged row) (judged copy) (sym (length-hide (mask_of l veil row) row))
        (hide-outside (mask_of l veil row) row copy (sym (hide-hide (mask_of l veil row) row)));
    copy-twice = λ row. laws.hidden-twice veil row (judged row) (judged (hidden_row l veil row));
  }

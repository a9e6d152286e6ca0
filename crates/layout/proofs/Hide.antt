-- Laws of `hide`, and of lists that are joined.
-- Assumes nothing.
use Prim.Native.Nat.{ℕ, zero, suc, ◌+◌, ◌≤◌}
use mathlib.Core.List.{List, [], ◌∷◌, ◌++◌}
use mathlib.Core.Bool.{Bool, true, false, cond}
use mathlib.Core.Path.{◌≡◌, refl, sym, ap, ◌∙◌, subst}
use native.Mathlib.Omega.{arith}
use lib.ListN.{length, get_or, take, drop, replicate, length-append, take-append-drop}
use lib.Seq.{take-append_seam, drop-append_seam, length-take-le, take_at, drop_at, ext_get_or}
use Rattle.layout.specs.Veil.{hide, zeros, Outside}

pub length-hide : (m : List Bool) (bs : List ℕ) → length (hide m bs) ≡ length bs
length-hide [] bs = refl
length-hide (m ∷ ms) [] = refl
length-hide (m ∷ ms) (b ∷ bs) = ap suc (length-hide ms bs)

-- two rows that are alike once hidden are as long
pub as_long : (m : List Bool) (row row' : List ℕ) → hide m row ≡ hide m row' → length row ≡ length row'
as_long m row row' e = sym (length-hide m row) ∙ ap (λ (l : List ℕ). length l) e ∙ length-hide m row'

-- a mask that is as long as the first part
pub hide-seam : (ms m : List Bool) (xs ys : List ℕ) → length ms ≡ length xs → hide (ms ++ m) (xs ++ ys) ≡ hide ms xs ++ hide m ys
hide-seam [] m [] ys h = refl
hide-seam [] m (x ∷ xs) ys h = absurd (omega arith)
hide-seam (b ∷ ms) m [] ys h = absurd (omega arith)
hide-seam (b ∷ ms) m (x ∷ xs) ys h = ap (λ (l : List ℕ). cond b 0 x ∷ l) (hide-seam ms m xs ys (omega arith))

-- a mask that is not longer
pub hide-front : (ms : List Bool) (xs ys : List ℕ) → length ms ≤ length xs → hide ms (xs ++ ys) ≡ hide ms xs ++ ys
hide-front [] xs ys h = refl
hide-front (b ∷ ms) [] ys h = absurd (omega arith)
hide-front (b ∷ ms) (x ∷ xs) ys h = ap (λ (l : List ℕ). cond b 0 x ∷ l) (hide-front ms xs ys (omega arith))

pub hide-false : (n : ℕ) (xs : List ℕ) → hide (replicate n false) xs ≡ xs
hide-false zero xs = refl
hide-false (suc n) [] = refl
hide-false (suc n) (x ∷ xs) = ap (λ (l : List ℕ). x ∷ l) (hide-false n xs)

pub hide-true : (n : ℕ) (xs : List ℕ) → length xs ≡ n → hide (replicate n true) xs ≡ zeros n
hide-true zero [] h = refl
hide-true zero (x ∷ xs) h = absurd (omega arith)
hide-true (suc n) [] h = absurd (omega arith)
hide-true (suc n) (x ∷ xs) h = ap (λ (l : List ℕ). 0 ∷ l) (hide-true n xs (omega arith))

-- hiding twice is hiding once
pub hide-hide : (m : List Bool) (bs : List ℕ) → hide m (hide m bs) ≡ hide m bs
hide-hide [] bs = refl
hide-hide (m ∷ ms) [] = refl
hide-hide (true ∷ ms) (b ∷ bs) = ap (λ (l : List ℕ). 0 ∷ l) (hide-hide ms bs)
hide-hide (false ∷ ms) (b ∷ bs) = ap (λ (l : List ℕ). b ∷ l) (hide-hide ms bs)

-- what is joined can be told apart
pub record Parts (xs xs' ys ys' : List ℕ) : Type 0 where
  pub front : xs ≡ xs'
  pub back : ys ≡ ys'

pub parts : (xs xs' ys ys' : List ℕ) → length xs ≡ length xs' → xs ++ ys ≡ xs' ++ ys' → Parts xs xs' ys ys'
parts xs xs' ys ys' h e = record {
  front = sym (take-append_seam xs ys) ∙ ap (λ (l : List ℕ). take (length xs) l) e ∙ take_at xs' ys' (length xs) (sym h);
  back = sym (drop-append_seam xs ys) ∙ ap (λ (l : List ℕ). drop (length xs) l) e ∙ drop_at xs' ys' (length xs) (sym h);
}

-- a mask on the first n bytes of two rows, and another on the rest
pub record Cut (n : ℕ) (m k : List Bool) (row row' : List ℕ) : Type 0 where
  pub front : hide m (take n row) ≡ hide m (take n row')
  pub back : hide k (drop n row) ≡ hide k (drop n row')

pub hide-cut : (n : ℕ) (m k : List Bool) (row : List ℕ) → length m ≡ n → n ≤ length row → hide (m ++ k) row ≡ hide m (take n row) ++ hide k (drop n row)
hide-cut n m k row h l =
    ap (λ (r : List ℕ). hide (m ++ k) r) (sym (take-append-drop n row)) ∙ hide-seam m k (take n row) (drop n row) (h ∙ sym (length-take-le n row l))

pub cut : (n : ℕ) (m k : List Bool) (row row' : List ℕ) → length m ≡ n → n ≤ length row → hide (m ++ k) row ≡ hide (m ++ k) row' → Cut n m k row row'
cut n m k row row' h l e =
    let same = as_long (m ++ k) row row' e in
    let l' : n ≤ length row' = omega arith in
    let p = parts (hide m (take n row)) (hide m (take n row')) (hide k (drop n row)) (hide k (drop n row'))
    (length-hide m (take n row) ∙ length-take-le n row l ∙ sym (length-hide m (take n row') ∙ length-take-le n row' l'))
    (sym (hide-cut n m k row h l) ∙ e ∙ hide-cut n m k row' h l') in
    record { front = p.front; back = p.back }

-- ---- position by position: hidden alike is as long, and equal wherever the mask is not set
pub hide-at : (m : List Bool) (bs : List ℕ) (i : ℕ) → get_or (hide m bs) i 0 ≡ cond (get_or m i false) 0 (get_or bs i 0)
hide-at [] bs i = refl
hide-at (true ∷ ms) [] zero = refl
hide-at (false ∷ ms) [] zero = refl
hide-at (m ∷ ms) [] (suc i) = go (get_or ms i false)
  where
    go : (t : Bool) → ◌≡◌ {A = ℕ} 0 (cond t 0 0)
    go true = refl
    go false = refl
hide-at (m ∷ ms) (b ∷ bs) zero = refl
hide-at (m ∷ ms) (b ∷ bs) (suc i) = hide-at ms bs i

pub outside-hide : (m : List Bool) (row row' : List ℕ) → length row ≡ length row' → Outside m row row' → hide m row ≡ hide m row'
outside-hide m row row' len same =
    ext_get_or 0 (hide m row) (hide m row') (length-hide m row ∙ len ∙ sym (length-hide m row'))
    (λ i h. hide-at m row i ∙ go (get_or m i false) (get_or row i 0) (get_or row' i 0) (same i) ∙ sym (hide-at m row' i))
  where
    go : (t : Bool) (x y : ℕ) → (t ≡ false → x ≡ y) → cond t 0 x ≡ cond t 0 y
    go true x y h = refl
    go false x y h = h refl

pub hide-outside : (m : List Bool) (row row' : List ℕ) → hide m row ≡ hide m row' → Outside m row row'
hide-outside m row row' e i h =
    let x : get_or (hide m row) i 0 ≡ get_or row i 0 = hide-at m row i ∙ ap (λ (t : Bool). cond t 0 (get_or row i 0)) h in
    let y : get_or (hide m row') i 0 ≡ get_or row' i 0 = hide-at m row' i ∙ ap (λ (t : Bool). cond t 0 (get_or row' i 0)) h in
    sym x ∙ ap (λ (l : List ℕ). get_or l i 0) e ∙ y

-- a row whose hidden bytes are 0: so are those of its parts
pub record Bare (mf mk : List Bool) (mid row : List ℕ) : Type 0 where
  pub all : hide mf row ≡ row
  pub rest : hide mk mid ≡ mid

pub bare_parts : (mf mk : List Bool) (pb mid row : List ℕ) → pb ++ mid ≡ row → length mf + length mid ≡ length row → hide (mf ++ mk) row ≡ row → Bare mf mk mid row
bare_parts mf mk pb mid row j n h =
    let long : length mf ≡ length pb = omega (arith, length-append pb mid, ap (λ (l : List ℕ). length l) j) in
    let h1 : hide (mf ++ mk) (pb ++ mid) ≡ pb ++ mid = rw j h in
    let p = parts (hide mf pb) pb (hide mk mid) mid (length-hide mf pb) (sym (hide-seam mf mk pb mid long) ∙ h1) in
    record {
      all = subst (λ (r : List ℕ). hide mf r ≡ r) j (hide-front mf pb mid (omega arith) ∙ ap (λ (l : List ℕ). l ++ mid) p.front);
      rest = p.back;
    }

-- two rows alike under a mask that ends at a seam, or before it
pub seam-cut : (m k : List Bool) (t t' rest rest' : List ℕ) → length m ≡ length t → length t ≡ length t' → hide (m ++ k) (t ++ rest) ≡ hide (m ++ k) (t' ++ rest')
    → Parts (hide m t) (hide m t') (hide k rest) (hide k rest')
seam-cut m k t t' rest rest' l l' e =
    parts (hide m t) (hide m t') (hide k rest) (hide k rest') (length-hide m t ∙ l' ∙ sym (length-hide m t'))
    (sym (hide-seam m k t rest l) ∙ e ∙ hide-seam m k t' rest' (l ∙ l'))

pub front_cut : (m : List Bool) (t t' rest rest' : List ℕ) → length m ≤ length t → length t ≡ length t' → hide m (t ++ rest) ≡ hide m (t' ++ rest') → Parts (hide m t) (hide m t') rest rest'
front_cut m t t' rest rest' l l' e =
    parts (hide m t) (hide m t') rest rest' (length-hide m t ∙ l' ∙ sym (length-hide m t'))
    (sym (hide-front m t rest l) ∙ e ∙ hide-front m t' rest' (omega arith))

pub take-zeros : (n : ℕ) (row : List ℕ) → n ≤ length row → take n (hide (replicate n true) row) ≡ zeros n
take-zeros zero row h = refl
take-zeros (suc n) [] h = absurd (omega arith)
take-zeros (suc n) (x ∷ xs) h = ap (λ (l : List ℕ). 0 ∷ l) (take-zeros n xs (omega arith))

-- the first n bytes, under a mask that is not longer
pub take-hidden : (n : ℕ) (m : List Bool) (row : List ℕ) → length m ≤ n → n ≤ length row → hide m row ≡ row → hide m (take n row) ≡ take n row
take-hidden n m row h l e =
    let p = parts (hide m (take n row)) (take n row) (drop n row) (drop n row) (length-hide m (take n row))
    (sym (hide-front m (take n row) (drop n row) (omega (arith, length-take-le n row l))) ∙ ap (λ (r : List ℕ). hide m r) (take-append-drop n row) ∙ e ∙ sym (take-append-drop n row)) in
    p.front

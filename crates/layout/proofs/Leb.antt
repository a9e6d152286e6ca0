-- LEB128 is lawful: what is printed is read again, what is read was printed, and nothing of it is hidden.
-- Assumes nothing.
use Prim.Native.Nat.{ℕ, zero, suc, ◌+◌, ◌*◌, ◌/◌, ◌%◌, ◌^◌, ◌≤◌, ◌<◌}
use mathlib.Core.List.{List, [], ◌∷◌, ◌++◌}
use mathlib.Core.Bool.{Bool, true, false, cond, ◌&&◌, ◌||◌, and-false}
use mathlib.Core.Path.{◌≡◌, refl, ap, subst}
use native.Mathlib.Omega.{arith}
use native.Mathlib.Decide.{dec_lt}
use native.Mathlib.Nat.{pow-suc, one-le-pow}
use lib.ListN.{length}
use lib.Dec.{leb, ltb, eqb}
use borrow.Author.Tests.{leb-true, leb-false, le-leb, lt-leb, ltb-false, lt-ltb, le-ltb, eqb-false, ne_eqb}
use Rattle.layout.specs.Questions.{LEB128}
use Rattle.layout.specs.Read.{Read, value, refused, onto, after}
use Rattle.layout.specs.Veil.{Level, hide}
use Rattle.layout.specs.Form.{leb_read, leb_print, leb_mask, leb128}
use Rattle.layout.specs.RowLaws.{Bytes}
use Rattle.layout.proofs.Hide.{as_long}
use Rattle.layout.proofs.Lawful.{ReadAlike, Outcome, same, Blinds, Lawful}
use Rattle.layout.proofs.Wrapped.{onto-blind, more-mask, bytes-tail, cons}

-- ---- what is printed is read again: `left` and `later` are as in the reader
pub print-read : (left : ℕ) (later : Bool) (n : ℕ) (rest : List ℕ) → n < 16 * 128 ^ left → (later && eqb n 0) ≡ false
    → leb_read left later (leb_print left n ++ rest) ≡ value n rest
unfolding leb_read leb_print
print-read zero later n rest h p = rw (le-ltb 15 n (omega arith), p)
print-read (suc l) later n rest h p =
    elim (dec_lt n 128) [
      | yes s ↦ rw (lt-ltb n 128 s, lt-leb 128 n s, p)
      | no s ↦
          let again = print-read l true (n / 128) rest (omega (arith, rw pow-suc at h)) (ne_eqb (n / 128) 0 (omega arith)) in
          let whole : (n % 128 + 128) % 128 + 128 * (n / 128) ≡ n = omega arith in
          rw (le-ltb n 128 (omega arith), le-leb 128 (n % 128 + 128) (omega arith), again, whole)
    ]

-- ---- what is read was printed
pub record Found (left : ℕ) (later : Bool) (row : List ℕ) (n : ℕ) (rest : List ℕ) : Type 0 where
  pub joins : leb_print left n ++ rest ≡ row
  pub below : n < 16 * 128 ^ left
  pub proper : (later && eqb n 0) ≡ false

abbrev pub Reads : ℕ → Bool → List ℕ → Read ℕ → Type 0
Reads left later row (value n rest) = Found left later row n rest
Reads left later row (refused q) = Unit {0}

pub read-printed : (left : ℕ) (later : Bool) (row : List ℕ) → Bytes row → Reads left later row (leb_read left later row)
unfolding leb_read leb_print
read-printed zero later [] by = tt
read-printed zero later (b ∷ row) by = go (ltb 15 b) (later && eqb b 0) refl refl
  where
    go : (s t : Bool) → ltb 15 b ≡ s → (later && eqb b 0) ≡ t → Reads zero later (b ∷ row) (cond (s || t) (refused LEB128) (value b row))
    go true t p q = tt
    go false true p q = tt
    go false false p q = record { joins = refl; below = omega (arith, ltb-false); proper = q }
read-printed (suc l) later [] by = tt
read-printed (suc l) later (b ∷ row) by =
    go (leb 128 b) (later && eqb b 0) (leb_read l true row) refl refl (read-printed l true row (bytes-tail b row by))
  where
    go : (s t : Bool) (r : Read ℕ) → leb 128 b ≡ s → (later && eqb b 0) ≡ t → Reads l true row r
        → Reads (suc l) later (b ∷ row) (cond s (onto (λ n. b % 128 + 128 * n) r) (cond t (refused LEB128) (value b row)))
    go true t (value m rest) p q f =
        let n : ℕ = b % 128 + 128 * m in
        let high : 128 ≤ b = leb-true 128 b p in
        let byte : b < 256 = by 0 in
        let positive : 1 ≤ m = omega (arith, eqb-false m 0 f.proper) in
        let head : n % 128 + 128 ≡ b = omega arith in
        let tail : n / 128 ≡ m = omega arith in
        record {
          joins = rw (le-ltb n 128 (omega arith), head, tail) (ap (λ (r : List ℕ). b ∷ r) f.joins);
          below = rw pow-suc (omega (arith, f.below));
          proper = rw (ne_eqb n 0 (omega arith)) (and-false later);
        }
    go true t (refused q) p q' f = tt
    go false true r p q f = tt
    go false false r p q f =
        let low : b < 128 = leb-false 128 b p in
        record { joins = rw (lt-ltb b 128 low); below = rw pow-suc (omega (arith, one-le-pow l 128 (omega arith))); proper = q }

-- ---- the mask, and blindness
leb-short : (left : ℕ) (row : List ℕ) → length (leb_mask left row) ≤ length row
unfolding leb_mask
leb-short zero [] = omega arith
leb-short zero (b ∷ row) = omega arith
leb-short (suc l) [] = omega arith
leb-short (suc l) (b ∷ row) = go (leb 128 b) (leb-short l row)
  where
    go : (t : Bool) → length (leb_mask l row) ≤ length row → length (false ∷ cond t (leb_mask l row) []) ≤ length (b ∷ row)
    go true h = omega arith
    go false h = omega arith

abbrev Rests : ℕ → List ℕ → Read ℕ → Type 0
Rests left row (value n rest) = length (leb_mask left row) + length rest ≡ length row
Rests left row (refused q) = Unit {0}

leb_long : (left : ℕ) (later : Bool) (row : List ℕ) → Rests left row (leb_read left later row)
unfolding leb_read leb_mask
leb_long zero later [] = tt
leb_long zero later (b ∷ row) = go (ltb 15 b || (later && eqb b 0))
  where
    go : (t : Bool) → Rests zero (b ∷ row) (cond t (refused LEB128) (value b row))
    go true = tt
    go false = omega arith
leb_long (suc l) later [] = tt
leb_long (suc l) later (b ∷ row) = go (leb 128 b) (later && eqb b 0) (leb_read l true row) refl (leb_long l true row)
  where
    go : (s t : Bool) (r : Read ℕ) → leb 128 b ≡ s → Rests l row r → Rests (suc l) (b ∷ row) (cond s (onto (λ n. b % 128 + 128 * n) r) (cond t (refused LEB128) (value b row)))
    go true t (value m rest) p h = rw p (omega arith)
    go true t (refused q) p h = tt
    go false true r p h = tt
    go false false r p h = rw p (omega arith)

tested : (t : Bool) (q b : ℕ) (xs ys : List ℕ) (k : ℕ → List ℕ → List Bool) → hide (after (cond t (refused q) (value b xs)) k) xs ≡ hide (after (cond t (refused q) (value b xs)) k) ys
    → ReadAlike (λ n n'. n ≡ n') k (cond t (refused q) (value b xs)) (cond t (refused q) (value b ys))
tested true q b xs ys k e = refl
tested false q b xs ys k e = (refl, e)

leb-blind : (lv : Level) (left : ℕ) (later : Bool) → Blinds lv (λ (n n' : ℕ). n ≡ n') (leb_read left later) (leb_read left later) (leb_mask left) (leb_mask left)
unfolding leb_read leb_mask
leb-blind lv zero later [] [] k e = same (record { alike = refl; masks = refl })
leb-blind lv zero later [] (y ∷ ys) k e = let l = as_long [] [] (y ∷ ys) e in absurd (omega arith)
leb-blind lv zero later (x ∷ xs) [] k e = let l = as_long (false ∷ after (leb_read zero later (x ∷ xs)) k) (x ∷ xs) [] e in absurd (omega arith)
leb-blind lv zero later (x ∷ xs) (y ∷ ys) k e =
    let c = cons x y _ _ e in
    subst (λ (z : ℕ). Outcome lv (λ (n n' : ℕ). n ≡ n') k (leb_read zero later (x ∷ xs)) (leb_read zero later (z ∷ ys)) (false ∷ []) (false ∷ [])) c.head
    (same (record { alike = tested (ltb 15 x || (later && eqb x 0)) LEB128 x xs ys k c.tail; masks = refl }))
leb-blind lv (suc l) later [] [] k e = same (record { alike = refl; masks = refl })
leb-blind lv (suc l) later [] (y ∷ ys) k e = let l = as_long [] [] (y ∷ ys) e in absurd (omega arith)
leb-blind lv (suc l) later (x ∷ xs) [] k e = let l = as_long (leb_mask (suc l) (x ∷ xs) ++ after (leb_read (suc l) later (x ∷ xs)) k) (x ∷ xs) [] e in absurd (omega arith)
leb-blind lv (suc l) later (x ∷ xs) (y ∷ ys) k e =
    let c = cons x y _ _ e in
    subst (λ (z : ℕ). Outcome lv (λ (n n' : ℕ). n ≡ n') k (leb_read (suc l) later (x ∷ xs)) (leb_read (suc l) later (z ∷ ys)) (leb_mask (suc l) (x ∷ xs)) (leb_mask (suc l) (z ∷ ys))) c.head
    (go (leb 128 x) (leb-blind lv l true) c.tail)
  where
    go : (t : Bool) → Blinds lv (λ (n n' : ℕ). n ≡ n') (leb_read l true) (leb_read l true) (leb_mask l) (leb_mask l)
        → hide (cond t (leb_mask l xs) [] ++ after (cond t (onto (λ n. x % 128 + 128 * n) (leb_read l true xs)) (cond (later && eqb x 0) (refused LEB128) (value x xs))) k) xs
        ≡ hide (cond t (leb_mask l xs) [] ++ after (cond t (onto (λ n. x % 128 + 128 * n) (leb_read l true xs)) (cond (later && eqb x 0) (refused LEB128) (value x xs))) k) ys
        → Outcome lv (λ (n n' : ℕ). n ≡ n') k (cond t (onto (λ n. x % 128 + 128 * n) (leb_read l true xs)) (cond (later && eqb x 0) (refused LEB128) (value x xs)))
        (cond t (onto (λ n. x % 128 + 128 * n) (leb_read l true ys)) (cond (later && eqb x 0) (refused LEB128) (value x ys)))
        (false ∷ cond t (leb_mask l xs) []) (false ∷ cond t (leb_mask l ys) [])
    go true ih e =
        more-mask lv (λ (n n' : ℕ). n ≡ n') k (onto (λ n. x % 128 + 128 * n) (leb_read l true xs)) (onto (λ n. x % 128 + 128 * n) (leb_read l true ys)) (leb_mask l xs) (leb_mask l ys)
        (onto-blind lv (λ (n n' : ℕ). n ≡ n') (λ (n n' : ℕ). n ≡ n') (λ n. x % 128 + 128 * n) (λ n. x % 128 + 128 * n) (λ n n' r. ap (λ (m : ℕ). x % 128 + 128 * m) r)
        (leb_read l true) (leb_read l true) (leb_mask l) (leb_mask l) ih xs ys k e)
    go false ih e = same (record { alike = tested (later && eqb x 0) LEB128 x xs ys k e; masks = refl })

-- ---- what was read, from the answer
found : (row : List ℕ) (n : ℕ) (rest : List ℕ) → Bytes row → leb_read 4 false row ≡ value n rest → Found 4 false row n rest
found row n rest by e = rw e at (read-printed 4 false row by)

pub leb128-lawful : Lawful leb128
leb128-lawful = record {
  printed = λ n post h. print-read 4 false n post h refl;
  joins = λ row n rest by e. (found row n rest by e).joins;
  fitted = λ row n rest by e. (found row n rest by e).below;
  granted = λ row n rest by e. refl;
  short = λ lv row. leb-short 4 row;
  long = λ lv row n rest e. rw e at (leb_long 4 false row);
  blind = λ lv. leb-blind lv 4 false;
  bare = λ lv row n rest by e h. refl;
}

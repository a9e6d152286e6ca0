-- Numbers that rise are distinct, and so are those that a table has not seen; keys are the same exactly if they are as numbers.
-- Assumes nothing.
use Prim.Native.Nat.{ℕ, zero, suc, ◌+◌, ◌<◌}
use mathlib.Core.List.{List, [], ◌∷◌}
use mathlib.Core.Bool.{Bool, true, false, not, ◌&&◌, ◌||◌}
use mathlib.Core.Path.{◌≡◌, refl, sym, ◌∙◌}
use native.Mathlib.Omega.{arith}
use lib.ListN.{length, get_or, drop, set, replicate, length-set, length-replicate, get_or-replicate}
use lib.Seq.{get_or-set_same, get_or-set_other}
use lib.Dec.{leb, eqb}
use borrow.Author.Tests.{leb-true, eqb-true, eqb-false, eq-eqb, ne_eqb}
use Rattle.layout.specs.RowLaws.{Bytes}
use Rattle.layout.proofs.Front.{big-below}
use Rattle.layout.proofs.At.{bytes_drop}
use Rattle.rows.specs.Checks.{any, distinct, ChainKey, same_key}
use Rattle.rows.proofs.Tests.{and_both}
use Rattle.contact_checks.specs.Cells.{cells, key_at, number_of, key_numbers, ascending, chain_width, gens}
use Rattle.contact_checks.specs.Cells as stand

-- ---- keys as numbers
abbrev Narrow : ChainKey → Type 0
Narrow p = p.idx < 4294967296

same_number : (x y : ChainKey) → Narrow x → Narrow y → same_key x y ≡ eqb (number_of x) (number_of y)
same_number x y nx ny = go (eqb x.gen y.gen) (eqb x.idx y.idx) refl refl
  where
    go : (s t : Bool) → eqb x.gen y.gen ≡ s → eqb x.idx y.idx ≡ t → s && t ≡ eqb (number_of x) (number_of y)
    go true true p q = sym (eq-eqb (number_of x) (number_of y) (omega (arith, eqb-true x.gen y.gen p, eqb-true x.idx y.idx q)))
    go true false p q = sym (ne_eqb (number_of x) (number_of y) (λ e. eqb-false x.idx y.idx q (omega arith)))
    go false t p q = sym (ne_eqb (number_of x) (number_of y) (λ e. eqb-false x.gen y.gen p (omega arith)))

narrow : (l : List ℕ) → Bytes l → Narrow (key_at l)
narrow l by = big-below 4 (drop 2 l) (bytes_drop 2 l by)

any-number : (x : ChainKey) → Narrow x → (n : ℕ) (l : List ℕ) → Bytes l → any (same_key x) (cells (λ l. 46) key_at n l) ≡ any (eqb (number_of x)) (key_numbers n l)
unfolding stand.cells
any-number x nx zero l by = refl
any-number x nx (suc n) l by = rw (same_number x (key_at l) nx (narrow l by), any-number x nx n (drop 46 l) (bytes_drop 46 l by))

pub distinct-number : (n : ℕ) (l : List ℕ) → Bytes l → distinct same_key (cells (λ l. 46) key_at n l) ≡ distinct eqb (key_numbers n l)
unfolding stand.cells
distinct-number zero l by = refl
distinct-number (suc n) l by =
    rw (any-number (key_at l) (narrow l by) n (drop 46 l) (bytes_drop 46 l by), distinct-number n (drop 46 l) (bytes_drop 46 l by))

-- ---- rising numbers
not-among : (n lo : ℕ) (xs : List ℕ) → n < lo → ascending lo xs ≡ true → any (eqb n) xs ≡ false
not-among n lo [] h e = refl
not-among n lo (x ∷ xs) h e =
    let both = and_both (leb lo x) (ascending (x + 1) xs) e in
    let le = leb-true lo x both.0 in
    rw (ne_eqb n x (λ e. omega arith)) (not-among n (x + 1) xs (omega arith) both.1)

pub ascending-distinct : (lo : ℕ) (xs : List ℕ) → ascending lo xs ≡ true → distinct eqb xs ≡ true
ascending-distinct lo [] e = refl
ascending-distinct lo (x ∷ xs) e =
    let both = and_both (leb lo x) (ascending (x + 1) xs) e in
    rw (not-among x (x + 1) xs (omega arith) both.1) (ascending-distinct (x + 1) xs both.1)

-- ---- a table of what was seen: nothing of xs is marked in it, nor comes twice
abbrev pub fresh : List Bool → List ℕ → Bool
fresh s [] = true
fresh s (x ∷ xs) = not (get_or s x false) && fresh (set s x true) xs

abbrev unmarked : List Bool → List ℕ → Bool
unmarked s [] = true
unmarked s (x ∷ xs) = not (get_or s x false) && unmarked s xs

swap : (a b c : Bool) → not a && (not b && c) ≡ not b && (not a && c)
swap true true c = refl
swap true false c = refl
swap false true c = refl
swap false false c = refl

unmarked-set : (s : List Bool) (x : ℕ) (xs : List ℕ) → x < length s → unmarked (set s x true) xs ≡ not (any (eqb x) xs) && unmarked s xs
unmarked-set s x [] h = refl
unmarked-set s x (y ∷ ys) h = go (unmarked-set s x ys h) (eqb x y) refl
  where
    go : unmarked (set s x true) ys ≡ not (any (eqb x) ys) && unmarked s ys → (t : Bool) → eqb x y ≡ t
        → not (get_or (set s x true) y false) && unmarked (set s x true) ys ≡ not (t || any (eqb x) ys) && (not (get_or s y false) && unmarked s ys)
    go ih true e = let z : x ≡ y = eqb-true x y e in rw (← z, get_or-set_same s x true false h)
    go ih false e = rw (get_or-set_other s x y true false (λ z. eqb-false x y e (sym z)), ih) (swap (get_or s y false) (any (eqb x) ys) (unmarked s ys))

four : (a h u d : Bool) → not a && ((not h && u) && d) ≡ (not a && u) && (not h && d)
four true true u d = refl
four true false u d = refl
four false true true d = refl
four false true false d = refl
four false false u d = refl

-- every number is an index of the table
pub data Within (n : ℕ) : List ℕ → Type 0 where
  within_none : Within n []
  within_more : {x : ℕ} {xs : List ℕ} → x < n → Within n xs → Within n (x ∷ xs)

fresh-is : (n : ℕ) (s : List Bool) (xs : List ℕ) → length s ≡ n → Within n xs → fresh s xs ≡ unmarked s xs && distinct eqb xs
fresh-is n s [] e within_none = refl
fresh-is n s (x ∷ xs) e (within_more h w) =
    rw (fresh-is n (set s x true) xs (length-set s x true ∙ e) w, unmarked-set s x xs (omega arith)) (four (get_or s x false) (any (eqb x) xs) (unmarked s xs) (distinct eqb xs))

unmarked-none : (n : ℕ) (xs : List ℕ) → Within n xs → unmarked (replicate n false) xs ≡ true
unmarked-none n [] within_none = refl
unmarked-none n (x ∷ xs) (within_more h w) = rw (get_or-replicate n x false false h, unmarked-none n xs w)

pub fresh-distinct : (n : ℕ) (xs : List ℕ) → Within n xs → fresh (replicate n false) xs ≡ distinct eqb xs
fresh-distinct n xs w = fresh-is n (replicate n false) xs (length-replicate n false) w ∙ rw (unmarked-none n xs w)

-- the gens of bytes are
pub gens-within : (padded : Bool) (n : ℕ) (l : List ℕ) → Bytes l → Within 256 (gens padded n l)
unfolding stand.cells
gens-within padded zero l by = within_none
gens-within padded (suc n) l by = within_more (by 0) (gens-within padded n (drop (chain_width padded l) l) (bytes_drop (chain_width padded l) l by))

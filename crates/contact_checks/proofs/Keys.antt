-- Skipped keys by their places of 46 bytes: the numbers of the places are those of the bytes, and one place follows another.
-- Assumes nothing.
use Rattle.std.proofs.Common.{ℕ, zero, suc, ◌+◌, ◌-◌, ◌*◌, ◌/◌, ◌≤◌, ◌<◌, List, [], ◌∷◌, length, get_or, map, take, drop, ◌≡◌, refl, sym, ap, ◌∙◌, arith}
use native.Mathlib.Numerals.{add-one}
use lib.ListN.{length-drop, drop_of_length-le, get_or-map}
use lib.Seq.{drop-cons, take_all, get_or-take, get_or-drop}
use lib.Dec.{eqb}
use Rattle.std.proofs.lemmas.List.{length-map, drop-map}
use Rattle.std.specs.Simd.{first_chunks}
use Rattle.std.specs.List.{list_any}
use Rattle.layout.specs.Form.{big_endian}
use Rattle.layout.specs.Layout.{group}
use Rattle.layout.specs.RowLaws.{Bytes}
use Rattle.layout.proofs.At.{bytes_drop}
use Rattle.rows.specs.Checks.{any, distinct, key_of, same_key, keys_distinct}
use Rattle.rows.specs.Rows.{skipped}
use Rattle.contact_lists.specs.Lists.{items, Stands}
use Rattle.contact_checks.specs.Cells.{cells, rooms-more, key_at, key_number, key_numbers, KeysStand}
use Rattle.contact_checks.specs.Cells as stand
use Rattle.contact_checks.proofs.Cells.{Many, standing}
use Rattle.contact_checks.proofs.Fields.{skipped-shows}
use Rattle.contact_checks.proofs.Distinct.{distinct-number}

-- ---- the first k places of bytes
front-number : (l : List ℕ) → key_number (take 46 l) ≡ key_number l
unfolding big_endian
front-number l =
    rw (get_or-take 46 l 0 0 (omega arith), get_or-drop 2 (take 46 l) 0 0, get_or-drop 2 (take 46 l) 1 0, get_or-drop 2 (take 46 l) 2 0, get_or-drop 2 (take 46 l) 3 0)
    (rw (get_or-take 46 l 2 0 (omega arith), get_or-take 46 l 3 0 (omega arith), get_or-take 46 l 4 0 (omega arith), get_or-take 46 l 5 0 (omega arith))
    (rw (get_or-drop 2 l 0 0, get_or-drop 2 l 1 0, get_or-drop 2 l 2 0, get_or-drop 2 l 3 0)))

places-taken : (k n : ℕ) (l : List ℕ) → k ≤ n → map key_number (take k (first_chunks 46 n l)) ≡ key_numbers k l
unfolding stand.cells
places-taken zero n l h = refl
places-taken (suc k) zero l h = absurd (omega arith)
places-taken (suc k) (suc n) l h = rw (front-number l, places-taken k n (drop 46 l) (omega arith))

-- what is left of bytes from a place on
rest-is : (i : ℕ) {A : Type 0} (l : List A) → take (length l - i) (drop i l) ≡ drop i l
rest-is i l = take_all (length l - i) (drop i l) (omega (arith, length-drop i l))

keys-long : (n : ℕ) (l : List ℕ) → KeysStand n l → 46 * n ≤ length l
keys-long zero l r = omega arith
keys-long (suc n) l (rooms-more fits rest) = let long : 46 * n ≤ length l - 46 = rw (length-drop 46 l) at (keys-long n (drop 46 l) rest) in omega arith

module _ (bytes : List ℕ) (first count : ℕ) (s : Stands (group skipped) bytes first count) where
  keys-read : Many (λ l. 46) key_at key_of count (drop first bytes) (items (group skipped) count (drop first bytes))
  keys-read = standing (λ l. 46) key_at key_of (group skipped) skipped-shows bytes first count s

  abbrev rest : List ℕ
  rest = take (length bytes - first) (drop first bytes)

  pub places-fit : count ≤ length rest / 46
  places-fit = rw (rest-is first bytes) (omega (arith, keys-long count (drop first bytes) keys-read.rooms))

  pub places-read : map key_number (take count (first_chunks 46 (length rest / 46) rest)) ≡ key_numbers count (drop first bytes)
  places-read = rw (rest-is first bytes) (places-taken count _ (drop first bytes) (rw (rest-is first bytes) at places-fit))

  -- keys are distinct exactly if their numbers are
  pub keys-asked : Bytes bytes → distinct eqb (key_numbers count (drop first bytes)) ≡ keys_distinct (items (group skipped) count (drop first bytes))
  keys-asked by = sym (ap (distinct same_key) keys-read.are ∙ distinct-number count (drop first bytes) (bytes_drop first bytes by))

-- ---- one place after the other
pub any-number : (key : ℕ) (places : List (List ℕ)) → list_any (λ p. eqb key (key_number p)) places ≡ any (eqb key) (map key_number places)
any-number key [] = refl
any-number key (p ∷ ps) = rw (any-number key ps)

module _ (places : List (List ℕ)) (i : ℕ) where
  pub one-before : i < length places → drop i (map key_number places) ≡ key_number (get_or places i []) ∷ drop (i + 1) (map key_number places)
  one-before h = rw (add-one i, drop-cons (map key_number places) i (key_number []) (rw (length-map places key_number) h), get_or-map key_number places i [])

  pub none-behind : length places ≤ i → drop i (map key_number places) ≡ []
  none-behind h = drop_of_length-le (map key_number places) {i = i} (rw (length-map places key_number) h)

  pub numbers-behind : map key_number (take (length places - i) (drop i places)) ≡ drop i (map key_number places)
  numbers-behind = rw (rest-is i places) (sym (drop-map key_number i places))

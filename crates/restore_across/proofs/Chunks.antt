-- Numbers that stand in a row, four bytes each, and what the library's search finds among them.
-- Assumes nothing.
use Rattle.std.proofs.Common.{◌≡◌, ℕ, zero, suc, ◌+◌, ◌*◌, ◌/◌, ◌≤◌, ◌<◌, List, [], Result, Ok, Err, length, take, drop, get_or, sym, ap, ◌∙◌, refl, arith}
use Rattle.std.specs.Int.{from_be_bytes, w32}
use Rattle.std.specs.List.Sorted.{IsSearchInRange, IsBinarySearchResult, IsNonDecreasingBy}
use Rattle.std.specs.Ordering.{nat_cmp, ordering_index}
use Rattle.std.specs.Simd.{first_chunks}
use Rattle.std.specs.Prelude.{is_ok}
use Rattle.std.proofs.lemmas.Cmp.{ranked}
use Rattle.std.proofs.lemmas.List.{get_or-take, length-drop}
use Rattle.std.proofs.lemmas.Bool.Decides.{nat_tests}
use lib.Seq.{drop-drop}
use lib.Dec.{T, eqb}
use Rattle.layout.specs.Form.{big_endian, u32}
use Rattle.layout.specs.Form as form
use Rattle.rows.specs.Checks.{any, rising}
use Rattle.contact_lists.specs.Lists.{items, Stands}
use Rattle.contact_checks.specs.Cells.{cells, Rooms, rooms-more}
use Rattle.contact_checks.specs.Cells as stand
use Rattle.contact_checks.proofs.Cells.{Many, standing, all_shown}
use Rattle.contact_checks.proofs.Fields.{number-shows}
use Rattle.restore_across.proofs.Halves.{nowhere, among, in_order}

-- ---- numbers that stand in a row
abbrev words : ℕ → List ℕ → List ℕ
words = cells (λ l. 4) (big_endian 4)

long : (n : ℕ) (l : List ℕ) → length (words n l) ≡ n
unfolding stand.cells
long zero l = refl
long (suc n) l = ap suc (long n (drop 4 l))

behind : (k : ℕ) (l : List ℕ) → drop (4 * k) (drop 4 l) ≡ drop (4 * suc k) l
behind k l = let next : 4 + 4 * k ≡ 4 * suc k = omega arith in drop-drop (4 * k) 4 l ∙ ap (λ (m : ℕ). drop m l) next

word : (n : ℕ) (l : List ℕ) (k : ℕ) → k < n → get_or (words n l) k 0 ≡ big_endian 4 (drop (4 * k) l)
unfolding stand.cells
word zero l k h = absurd (omega arith)
word (suc n) l zero h = refl
word (suc n) l (suc k) h = word n (drop 4 l) k (omega arith) ∙ ap (big_endian 4) (behind k l)

wide : (n : ℕ) (l : List ℕ) → Rooms (λ l. 4) n l → 4 * n ≤ length l
wide zero l r = omega arith
wide (suc n) l (rooms-more room after) = omega (arith, room, wide n (drop 4 l) after, length-drop 4 l)

module _ (row : List ℕ) (first count : ℕ) (s : Stands u32 row first count) where
  all : Many (λ l. 4) (big_endian 4) (λ n. n) count (drop first row) (items u32 count (drop first row))
  all = standing (λ l. 4) (big_endian 4) (λ n. n) u32 (number-shows 4) row first count s

  same : words count (drop first row) ≡ items u32 count (drop first row)
  same = all_shown (λ l. 4) (big_endian 4) all

  counted : length (items u32 count (drop first row)) ≡ count
  counted = ap length (sym same) ∙ long count (drop first row)

  pub roomy : 4 * count ≤ length (drop first row)
  roomy = wide count (drop first row) all.rooms

  stood : (k : ℕ) → k < count → big_endian 4 (drop (4 * k) (drop first row)) ≡ get_or (items u32 count (drop first row)) k 0
  stood k h = sym (word count (drop first row) k h) ∙ ap (λ (xs : List ℕ). get_or xs k 0) same

-- ---- the library's chunks of four bytes
chunk : (n : ℕ) (l : List ℕ) (k : ℕ) (d : List ℕ) → k < n → get_or (first_chunks 4 n l) k d ≡ take 4 (drop (4 * k) l)
chunk zero l k d h = absurd (omega arith)
chunk (suc n) l zero d h = refl
chunk (suc n) l (suc k) d h = chunk n (drop 4 l) k d (omega arith) ∙ ap (λ (m : List ℕ). take 4 m) (behind k l)

number-in : (l : List ℕ) → from_be_bytes w32 (take 4 l) ≡ big_endian 4 l
unfolding form.big_endian
number-in l = omega (arith, get_or-take 4 l 0 0 (omega arith), get_or-take 4 l 1 0 (omega arith), get_or-take 4 l 2 0 (omega arith), get_or-take 4 l 3 0 (omega arith))

module _ (row : List ℕ) (first count : ℕ) (s : Stands u32 row first count) (part : List ℕ) (rest : part ≡ drop first row) (chunks : List (List ℕ)) (front : chunks ≡ first_chunks 4 (length part / 4) part) where
  abbrev numbers : List ℕ
  numbers = items u32 count (drop first row)

  enough : count ≤ length part / 4
  enough = omega (arith, ap (λ (l : List ℕ). length l) rest, roomy row first count s)

  key-at : (k : ℕ) (d : List ℕ) → k < count → from_be_bytes w32 (get_or (take count chunks) k d) ≡ get_or numbers k 0
  key-at k d h =
      ap (λ (l : List ℕ). from_be_bytes w32 l) (get_or-take count chunks k d h ∙ ap (λ (l : List (List ℕ)). get_or l k d) front ∙ chunk (length part / 4) part k d (omega (arith, enough)))
      ∙ number-in (drop (4 * k) part) ∙ ap (λ (l : List ℕ). big_endian 4 (drop (4 * k) l)) rest ∙ stood row first count s k h

  module _ (m highest : ℕ) (rises : T (rising 1 highest numbers)) (long : length (take count chunks) ≡ count) where
    rise : IsNonDecreasingBy (λ y. ordering_index (nat_cmp (from_be_bytes w32 y) m)) (take count chunks)
    rise i j d le lt = grind (arith, nat_tests, key-at i d (omega (arith, long)), key-at j d (omega (arith, long)), λ (h : i < j). in_order 1 highest numbers rises i j h (omega (arith, long, counted row first count s)), λ (e : i ≡ j). ap (λ (k : ℕ). get_or numbers k 0) e)

    pub searched : (r : Result ℕ ℕ) → IsSearchInRange r (length (take count chunks)) → IsBinarySearchResult (λ y. nat_cmp (from_be_bytes w32 y) m) (take count chunks) r → is_ok r ≡ any (eqb m) numbers
    searched (Ok i) inside equal =
        among m numbers i (omega (arith, long, counted row first count s)) (sym (ranked _ m _ (sym (equal []))) ∙ key-at i [] (omega (arith, long)))
    searched (Err i) inside parted =
        nowhere {n = m} {xs = numbers} {low = i} {high = i} (record {
          below = λ k h. omega (arith, key-at k [] (omega (arith, long, inside)), ranked _ m _ (sym ((parted rise).0 k [] (omega arith) h)));
          above = λ k h l. omega (arith, key-at k [] (omega (arith, counted row first count s)), ranked _ m _ (sym ((parted rise).1 k [] h (omega (arith, long, counted row first count s)))));
        }) (omega arith)

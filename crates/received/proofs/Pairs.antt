-- The ranges that a flat list holds, and the flat list of ranges.
-- Assumes nothing.
use Prim.Native.Nat.{ℕ, zero, suc, ◌+◌, ◌-◌, ◌*◌, ◌/◌, ◌≤◌, ◌<◌, min}
use mathlib.Core.List.{List, [], ◌∷◌, ◌++◌}
use mathlib.Core.Path.{◌≡◌, refl, sym, ap, ◌∙◌}
use native.Mathlib.Omega.{arith}
use native.Mathlib.Numerals.{add-one}
use mathlib.Core.Bool.{Bool}
use lib.ListN.{length, get_or, take, drop, drop_of_length-le, length-drop, get_or-map}
use Rattle.std.proofs.lemmas.List.{length-map, drop-map}
use Rattle.std.specs.Simd.{first_chunks}
use Rattle.std.specs.List.{list_any}
use Rattle.rows.specs.Checks.{any}
use lib.Seq.{drop-cons, take-nil, take_all, drop-nil, take-take}
use Rattle.rows.specs.Values.{Range}
use Rattle.numbers.specs.Ranges.{range}
use Rattle.received.specs.Lent.{pairs, flat, as_range, ranges_of}

two : (k : ℕ) → 2 * suc k ≡ suc (suc (2 * k))
two k = omega arith

-- ---- the pairs of a list that is long enough
pub length_pairs : (k : ℕ) (l : List ℕ) → 2 * k ≤ length l → length (pairs k l) ≡ k
unfolding pairs
length_pairs zero l h = refl
length_pairs (suc k) [] h = absurd (omega arith)
length_pairs (suc k) (a ∷ []) h = absurd (omega arith)
length_pairs (suc k) (a ∷ b ∷ l) h = ap suc (length_pairs k l (omega arith))

pub flat-pairs : (k : ℕ) (l : List ℕ) → 2 * k ≤ length l → flat (pairs k l) ≡ take (2 * k) l
unfolding pairs
flat-pairs zero l h = refl
flat-pairs (suc k) [] h = absurd (omega arith)
flat-pairs (suc k) (a ∷ []) h = absurd (omega arith)
flat-pairs (suc k) (a ∷ b ∷ l) h = rw (two k, flat-pairs k l (omega arith))

pub length-flat : (rs : List Range) → length (flat rs) ≡ 2 * length rs
length-flat [] = refl
length-flat (r ∷ rs) = omega (arith, length-flat rs)

pub flat_append : (rs ss : List Range) → flat (rs ++ ss) ≡ flat rs ++ flat ss
flat_append [] ss = refl
flat_append (r ∷ rs) ss = rw (flat_append rs ss)

flat-of-take : (i : ℕ) (rs : List Range) → flat (take i rs) ≡ take (2 * i) (flat rs)
flat-of-take zero rs = refl
flat-of-take (suc i) [] = sym (take-nil (2 * suc i))
flat-of-take (suc i) (r ∷ rs) = rw (two i, flat-of-take i rs)

flat-of-drop : (i : ℕ) (rs : List Range) → flat (drop i rs) ≡ drop (2 * i) (flat rs)
flat-of-drop zero rs = refl
flat-of-drop (suc i) [] = sym (drop-nil (2 * suc i))
flat-of-drop (suc i) (r ∷ rs) = rw (two i) (flat-of-drop i rs)

pub pairs-flat : (rs : List Range) (l : List ℕ) → pairs (length rs) (flat rs ++ l) ≡ rs
unfolding pairs
pairs-flat [] l = refl
pairs-flat (r ∷ rs) l = rw (pairs-flat rs l)

-- a part of the pairs is a part of the list
pub flat-take : (k i : ℕ) (l : List ℕ) → 2 * k ≤ length l → i ≤ k → flat (take i (pairs k l)) ≡ take (2 * i) l
flat-take k i l fits h = flat-of-take i (pairs k l) ∙ rw (flat-pairs k l fits) (take-take (2 * i) (2 * k) l (omega arith))

pub flat-drop : (k i : ℕ) (l : List ℕ) → 2 * k ≤ length l → flat (drop i (pairs k l)) ≡ drop (2 * i) (take (2 * k) l)
flat-drop k i l fits = flat-of-drop i (pairs k l) ∙ rw (flat-pairs k l fits)

-- the i-th
abbrev pub pair : List ℕ → ℕ → Range
pair l i = range (get_or l (2 * i) 0) (get_or l (2 * i + 1) 0)

get_d-pairs : (k i : ℕ) (l : List ℕ) (d : Range) → i < k → 2 * k ≤ length l → get_or (pairs k l) i d ≡ pair l i
unfolding pairs
get_d-pairs zero i l d h fits = absurd (omega arith)
get_d-pairs (suc k) i [] d h fits = absurd (omega arith)
get_d-pairs (suc k) i (a ∷ []) d h fits = absurd (omega arith)
get_d-pairs (suc k) zero (a ∷ b ∷ l) d h fits = refl
get_d-pairs (suc k) (suc i) (a ∷ b ∷ l) d h fits =
    let n : suc (suc (2 * i)) + 1 ≡ suc (suc (2 * i + 1)) = omega arith in
    rw (two i, n) (get_d-pairs k i l d (omega arith) (omega arith))

pub drop-pairs : (l : List ℕ) (k i : ℕ) → i < k → 2 * k ≤ length l → drop i (pairs k l) ≡ pair l i ∷ drop (i + 1) (pairs k l)
drop-pairs l k i h fits =
    rw (add-one i, drop-cons (pairs k l) i (range 0 0) (rw (length_pairs k l fits) h), get_d-pairs k i l (range 0 0) h fits)

pub drop-pairs-all : (l : List ℕ) (k i : ℕ) → k ≤ i → 2 * k ≤ length l → drop i (pairs k l) ≡ []
drop-pairs-all l k i h fits = drop_of_length-le (pairs k l) {i = i} (rw (length_pairs k l fits) h)

-- a count above the pairs that there are counts as these
pairs-enough : (j k : ℕ) (l : List ℕ) → length l < 2 * j + 2 → j ≤ k → pairs j l ≡ pairs k l
unfolding pairs
pairs-enough zero zero l h le = refl
pairs-enough zero (suc k) [] h le = refl
pairs-enough zero (suc k) (a ∷ []) h le = refl
pairs-enough zero (suc k) (a ∷ b ∷ l) h le = absurd (omega arith)
pairs-enough (suc j) zero l h le = absurd (omega arith)
pairs-enough (suc j) (suc k) [] h le = refl
pairs-enough (suc j) (suc k) (a ∷ []) h le = refl
pairs-enough (suc j) (suc k) (a ∷ b ∷ l) h le = ap {B = List Range} (λ (rs : List Range). range a b ∷ rs) (pairs-enough j k l (omega arith) (omega arith))

pub pairs-lent : (k : ℕ) (l : List ℕ) → length l / 2 ≤ k → pairs (length l / 2) l ≡ pairs k l
pairs-lent k l h = pairs-enough (length l / 2) k l (omega arith) h

-- ---- the ranges of a list of pairs
pub ranges-first : (n k j : ℕ) (l : List ℕ) → j ≡ min k n → 2 * n ≤ length l → length l < 2 * n + 2 → ranges_of (take j (first_chunks 2 n l)) ≡ pairs k l
unfolding pairs
ranges-first zero zero j l e h g = ap ranges_of (take-nil j)
ranges-first zero (suc k) j [] e h g = ap ranges_of (take-nil j)
ranges-first zero (suc k) j (a ∷ []) e h g = ap ranges_of (take-nil j)
ranges-first zero (suc k) j (a ∷ b ∷ l) e h g = absurd (omega arith)
ranges-first (suc n) zero j l e h g = let z : j ≡ 0 = omega arith in rw z
ranges-first (suc n) (suc k) j [] e h g = absurd (omega arith)
ranges-first (suc n) (suc k) j (a ∷ []) e h g = absurd (omega arith)
ranges-first (suc n) (suc k) j (a ∷ b ∷ l) e h g =
    let m : j ≡ suc (min k n) = omega arith in
    rw (m, ranges-first n k (min k n) l refl (omega arith) (omega arith))

pub any-of : (test : Range → Bool) (ps : List (List ℕ)) → list_any (λ p. test (as_range p)) ps ≡ any test (ranges_of ps)
any-of test [] = refl
any-of test (p ∷ ps) = rw (any-of test ps)

pub length-ranges : (ps : List (List ℕ)) → length (ranges_of ps) ≡ length ps
length-ranges ps = length-map ps as_range

pub drop-ranges : (ps : List (List ℕ)) (i : ℕ) → i < length ps → drop i (ranges_of ps) ≡ as_range (get_or ps i []) ∷ drop (i + 1) (ranges_of ps)
drop-ranges ps i h = rw (add-one i, drop-cons (ranges_of ps) i (range 0 0) (rw (length-ranges ps) h), get_or-map as_range ps i [])

pub ranges-behind : (ps : List (List ℕ)) (i : ℕ) → ranges_of (take (length ps - i) (drop i ps)) ≡ drop i (ranges_of ps)
ranges-behind ps i = rw (take_all (length ps - i) (drop i ps) (omega (arith, length-drop i ps))) (sym (drop-map as_range i ps))

-- the ranges that are counted are those that the list holds
pub pairs-counted : (k : ℕ) (l : List ℕ) → pairs (length (pairs k l)) l ≡ pairs k l
unfolding pairs
pairs-counted zero l = refl
pairs-counted (suc k) [] = refl
pairs-counted (suc k) (a ∷ []) = refl
pairs-counted (suc k) (a ∷ b ∷ l) = rw (pairs-counted k l)

pub pairs-held : (ps : List (List ℕ)) (k : ℕ) (l : List ℕ) → ranges_of ps ≡ pairs k l → pairs (length ps) l ≡ pairs k l
pairs-held ps k l e = rw (← length-ranges ps, e) (pairs-counted k l)

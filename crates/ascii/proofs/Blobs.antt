-- Digits in hexadecimal: where they stand among the bytes, that each says a number below 16, and the bytes that pairs of them are.
-- Assumes nothing.
use Prim.Native.Nat.{ℕ, zero, suc, ◌+◌, ◌-◌, ◌*◌, ◌/◌, ◌%◌, ◌≤◌, ◌<◌}
use mathlib.Core.List.{List, [], ◌∷◌}
use mathlib.Core.Bool.{Bool, true, false, cond, ◌&&◌, ◌||◌}
use mathlib.Core.Option.{Option, none, some}
use mathlib.Core.Path.{◌≡◌, refl}
use native.Mathlib.Omega.{arith}
use lib.ListN.{length, get_or, take}
use lib.Seq.{take-nil}
use Rattle.std.specs.Simd.{first_chunks}
use Rattle.std.specs.List.{list_all, prefix_len}
use lib.Dec.{leb}
use borrow.Author.Tests.{leb-true, leb-false, le-leb, lt-leb, eq-eqb, ne_eqb}
use Rattle.layout.specs.Questions.{BLOB}
use Rattle.layout.specs.Layout.{accepted, refused_by}
use Rattle.rows.specs.Checks.{all}
use Rattle.rows.proofs.Tests.{and_both}
use Rattle.ascii.specs.Hex as hex
use Rattle.ascii.specs.Hex.{is_hex, hex_value, with_byte, blob_of, unpaired, hex_pairs, blob_says, dash_of, bytes_of}
use Rattle.ascii.proofs.Never.{no_way}

-- ---- `0` to `9`, or `a` to `f`
data Hex (d : ℕ) : Type 0 where
  low : 0x30 ≤ d → d ≤ 0x39 → Hex d
  letter : 0x61 ≤ d → d ≤ 0x66 → Hex d

is_one : (d : ℕ) → is_hex d ≡ true → Hex d
is_one d e = go (leb 0x30 d) (leb d 0x39) (leb 0x61 d) (leb d 0x66) refl refl refl refl e
  where
    go : (p q r s : Bool) → leb 0x30 d ≡ p → leb d 0x39 ≡ q → leb 0x61 d ≡ r → leb d 0x66 ≡ s → ((p && q) || (r && s)) ≡ true → Hex d
    go true true r s ep eq er es f = low (leb-true _ _ ep) (leb-true _ _ eq)
    go true false true true ep eq er es f = letter (leb-true _ _ er) (leb-true _ _ es)
    go false q true true ep eq er es f = letter (leb-true _ _ er) (leb-true _ _ es)
    go true false true false ep eq er es f = no_way f
    go true false false s ep eq er es f = no_way f
    go false q true false ep eq er es f = no_way f
    go false q false s ep eq er es f = no_way f

letter-low : (d : ℕ) → is_hex d ≡ true → 0x39 < d → (0x61 ≤ d) × (d ≤ 0x66)
letter-low d e h = go (is_one d e)
  where
    go : Hex d → (0x61 ≤ d) × (d ≤ 0x66)
    go (low a b) = absurd (omega arith)
    go (letter a b) = (a, b)

pub hex-above : (d : ℕ) → is_hex d ≡ true → 0x30 ≤ d
hex-above d e = go (is_one d e)
  where
    go : Hex d → 0x30 ≤ d
    go (low a b) = a
    go (letter a b) = omega arith

pub hex-small : (d : ℕ) → is_hex d ≡ true → hex_value d < 16
hex-small d e = go (leb d 0x39) refl
  where
    go : (t : Bool) → leb d 0x39 ≡ t → cond t (d - 0x30) (d - 0x61 + 10) < 16
    go true f = omega (arith, leb-true d 0x39 f)
    go false f = omega (arith, (letter-low d e (leb-false d 0x39 f)).1)

-- from the last four bits, and the bit of 64 that letters have
pub hex-bits : (d : ℕ) → is_hex d ≡ true → d % 16 + d / 64 * 9 ≡ hex_value d
hex-bits d e = go (is_one d e)
  where
    go : Hex d → d % 16 + d / 64 * 9 ≡ hex_value d
    go (low a b) = rw (le-leb d 0x39 b) (omega arith)
    go (letter a b) = rw (lt-leb d 0x39 (omega arith)) (omega arith)

-- ---- digits only
pub all-of : (test : ℕ → Bool) (t : List ℕ) → list_all test t ≡ all test t
all-of test [] = refl
all-of test (b ∷ bs) = rw (all-of test bs)

pub hex-at : (t : List ℕ) (i : ℕ) → all is_hex t ≡ true → i < length t → is_hex (get_or t i 0) ≡ true
hex-at [] i e h = absurd (omega arith)
hex-at (b ∷ bs) zero e h = (and_both (is_hex b) (all is_hex bs) e).0
hex-at (b ∷ bs) (suc i) e h = hex-at bs i (and_both (is_hex b) (all is_hex bs) e).1 (omega arith)

pub hex-take : (n : ℕ) (t : List ℕ) → all is_hex t ≡ true → all is_hex (take n t) ≡ true
hex-take zero t e = refl
hex-take (suc n) [] e = refl
hex-take (suc n) (b ∷ bs) e = let h = and_both (is_hex b) (all is_hex bs) e in rw (h.0, hex-take n bs h.1)

-- ---- pairs
pub length-unpaired : (t : List ℕ) → length (unpaired t) ≡ length t / 2
unfolding hex.unpaired
length-unpaired [] = refl
length-unpaired (d ∷ []) = refl
length-unpaired (d ∷ e ∷ ds) = omega (arith, length-unpaired ds)

pub unpaired-at : (t : List ℕ) (i : ℕ) → i < length (unpaired t) → get_or (unpaired t) i 0 ≡ hex_value (get_or t (2 * i) 0) * 16 + hex_value (get_or t (2 * i + 1) 0)
unfolding hex.unpaired
unpaired-at [] i h = absurd (omega arith)
unpaired-at (d ∷ []) i h = absurd (omega arith)
unpaired-at (d ∷ e ∷ ds) zero h = refl
unpaired-at (d ∷ e ∷ ds) (suc i) h =
    let two : 2 * suc i ≡ suc (suc (2 * i)) = omega arith in
    let three : 2 * suc i + 1 ≡ suc (suc (2 * i + 1)) = omega arith in
    rw (three, two) (unpaired-at ds i (omega arith))

-- the pairs in front of a text: they stand in it, they are digits, and the k-th byte on they are those behind the first k pairs
pub pairs-long : (t : List ℕ) → 2 * hex_pairs t ≤ length t
unfolding hex.hex_pairs
pairs-long [] = omega arith
pairs-long (d ∷ []) = omega arith
pairs-long (d ∷ e ∷ ds) = go (is_hex d && is_hex e) (pairs-long ds)
  where
    go : (b : Bool) → 2 * hex_pairs ds ≤ length ds → 2 * cond b (suc (hex_pairs ds)) 0 ≤ length (d ∷ e ∷ ds)
    go true h = omega arith
    go false h = omega arith

pub pairs-hex : (t : List ℕ) → all is_hex (take (2 * hex_pairs t) t) ≡ true
unfolding hex.hex_pairs
pairs-hex [] = refl
pairs-hex (d ∷ []) = refl
pairs-hex (d ∷ e ∷ ds) = go (is_hex d) (is_hex e) refl refl (pairs-hex ds)
  where
    go : (p q : Bool) → is_hex d ≡ p → is_hex e ≡ q → all is_hex (take (2 * hex_pairs ds) ds) ≡ true → all is_hex (take (2 * cond (p && q) (suc (hex_pairs ds)) 0) (d ∷ e ∷ ds)) ≡ true
    go true true hd he h = let two : 2 * suc (hex_pairs ds) ≡ suc (suc (2 * hex_pairs ds)) = omega arith in rw (two, hd, he) h
    go true false hd he h = refl
    go false q hd he h = refl

-- a text as pairs of bytes: the i-th, and how many in front are digits
pair_at : (n i : ℕ) (t : List ℕ) → i < n → 2 * n ≤ length t → get_or (first_chunks 2 n t) i [] ≡ get_or t (2 * i) 0 ∷ get_or t (2 * i + 1) 0 ∷ []
pair_at zero i t h fits = absurd (omega arith)
pair_at (suc n) i [] h fits = absurd (omega arith)
pair_at (suc n) i (d ∷ []) h fits = absurd (omega arith)
pair_at (suc n) zero (d ∷ e ∷ ds) h fits = refl
pair_at (suc n) (suc i) (d ∷ e ∷ ds) h fits =
    let two : 2 * suc i ≡ suc (suc (2 * i)) = omega arith in
    let three : 2 * suc i + 1 ≡ suc (suc (2 * i + 1)) = omega arith in
    rw (three, two) (pair_at n i ds (omega arith) (omega arith))

pub pair-of : (t : List ℕ) (ps : List (List ℕ)) (i : ℕ) → ps ≡ first_chunks 2 (length t / 2) t → i < length t / 2 → get_or ps i [] ≡ get_or t (2 * i) 0 ∷ get_or t (2 * i + 1) 0 ∷ []
pair-of t ps i e h = rw e (pair_at (length t / 2) i t h (omega arith))

abbrev pub both_hex : List ℕ → Bool
both_hex p = is_hex (get_or p 0 0) && is_hex (get_or p 1 0)

pub pairs-front : (n : ℕ) (t : List ℕ) → 2 * n ≤ length t → length t < 2 * n + 2 → prefix_len both_hex (first_chunks 2 n t) ≡ hex_pairs t
unfolding hex.hex_pairs
pairs-front zero [] h g = refl
pairs-front zero (d ∷ []) h g = refl
pairs-front zero (d ∷ e ∷ ds) h g = absurd (omega arith)
pairs-front (suc n) [] h g = absurd (omega arith)
pairs-front (suc n) (d ∷ []) h g = absurd (omega arith)
pairs-front (suc n) (d ∷ e ∷ ds) h g = go (is_hex d && is_hex e) (pairs-front n ds (omega arith) (omega arith))
  where
    go : (b : Bool) → prefix_len both_hex (first_chunks 2 n ds) ≡ hex_pairs ds → cond b (1 + prefix_len both_hex (first_chunks 2 n ds)) 0 ≡ cond b (suc (hex_pairs ds)) 0
    go true e = omega arith
    go false e = refl

-- the first k bytes of pairs are those of the first k pairs
pub unpaired-take : (k : ℕ) (t : List ℕ) → unpaired (take (2 * k) t) ≡ take k (unpaired t)
unfolding hex.unpaired
unpaired-take zero t = refl
unpaired-take (suc k) [] = rw (take-nil (2 * suc k))
unpaired-take (suc k) (d ∷ []) = let two : 2 * suc k ≡ suc (suc (2 * k)) = omega arith in rw two
unpaired-take (suc k) (d ∷ e ∷ ds) =
    let two : 2 * suc k ≡ suc (suc (2 * k)) = omega arith in
    rw (two, unpaired-take k ds)

-- a blob is an even number of digits, and these its bytes
pub odd-blob : (t : List ℕ) → length t % 2 ≡ 1 → blob_of t ≡ none
unfolding hex.blob_of
odd-blob [] h = absurd (omega arith)
odd-blob (d ∷ []) h = refl
odd-blob (d ∷ e ∷ ds) h = rw (odd-blob ds (omega arith)) (go (is_hex d && is_hex e))
  where
    go : (b : Bool) → cond {A = Option (List ℕ)} b none none ≡ none
    go true = refl
    go false = refl

pub even-blob : (t : List ℕ) → length t % 2 ≡ 0 → blob_of t ≡ cond (all is_hex t) (some (unpaired t)) none
unfolding hex.blob_of hex.unpaired
even-blob [] h = refl
even-blob (d ∷ []) h = absurd (omega arith)
even-blob (d ∷ e ∷ ds) h = rw (even-blob ds (omega arith)) (go (is_hex d) (is_hex e) (all is_hex ds))
  where
    go : (p q r : Bool) → cond (p && q) (with_byte (hex_value d * 16 + hex_value e) (cond r (some (unpaired ds)) none)) none
        ≡ cond (p && (q && r)) (some ((hex_value d * 16 + hex_value e) ∷ unpaired ds)) none
    go true true true = refl
    go true true false = refl
    go true false r = refl
    go false q r = refl

pub blob-says : (t : List ℕ) → length t % 2 ≡ 0 → blob_says (blob_of t) ≡ cond (all is_hex t) (accepted (unpaired t)) (refused_by BLOB)
blob-says t h = rw (even-blob t h) (go (all is_hex t))
  where
    go : (b : Bool) → blob_says (cond b (some (unpaired t)) none) ≡ cond b (accepted (unpaired t)) (refused_by BLOB)
    go true = refl
    go false = refl

-- ---- a field that is bytes, by its tests
dash-some : (t : List ℕ) → dash_of t ≡ true → length t ≡ 0 → ⊥
dash-some [] e p = no_way e
dash-some (b ∷ bs) e p = absurd (omega arith)

pub dash-bytes : (t : List ℕ) → dash_of t ≡ true → bytes_of t ≡ accepted []
unfolding hex.bytes_of
dash-bytes t e = rw (ne_eqb (length t) 0 (dash-some t e), e)

pub no-bytes : (t : List ℕ) → length t ≡ 0 → bytes_of t ≡ refused_by BLOB
unfolding hex.bytes_of
no-bytes t e = rw (eq-eqb _ 0 e)

module _ (t : List ℕ) (dash : dash_of t ≡ false) where
  pub odd-bytes : length t % 2 ≡ 1 → bytes_of t ≡ refused_by BLOB
  unfolding hex.bytes_of
  odd-bytes h = rw (ne_eqb (length t) 0 (λ e. omega arith), dash, odd-blob t h)

  pub even-bytes : (length t ≡ 0 → ⊥) → length t % 2 ≡ 0 → bytes_of t ≡ cond (all is_hex t) (accepted (unpaired t)) (refused_by BLOB)
  unfolding hex.bytes_of
  even-bytes p h = rw (ne_eqb (length t) 0 p, dash) (blob-says t h)

-- The text of bytes in hexadecimal, digit by digit.
-- Assumes nothing.
use Prim.Native.Nat.{ℕ, zero, suc, ◌+◌, ◌*◌, ◌/◌, ◌%◌, ◌<◌}
use mathlib.Core.List.{List, [], ◌∷◌}
use mathlib.Core.Path.{◌≡◌, refl}
use native.Mathlib.Omega.{arith}
use lib.ListN.{length, get_or}
use Rattle.ascii.specs.Hex as hex
use Rattle.ascii.specs.Hex.{hex_digit, pairs_of}

pub length_pairs : (bs : List ℕ) → length (pairs_of bs) ≡ 2 * length bs
unfolding hex.pairs_of
length_pairs [] = refl
length_pairs (b ∷ bs) = omega (arith, length_pairs bs)

-- the digits of the i-th byte
pub high_digit : (bs : List ℕ) (i : ℕ) → i < length bs → get_or (pairs_of bs) (2 * i) 0 ≡ hex_digit (get_or bs i 0 / 16)
unfolding hex.pairs_of
high_digit [] i h = absurd (omega arith)
high_digit (b ∷ bs) zero h = refl
high_digit (b ∷ bs) (suc i) h =
    let two : 2 * suc i ≡ suc (suc (2 * i)) = omega arith in
    rw two (high_digit bs i (omega arith))

pub low_digit : (bs : List ℕ) (i : ℕ) → i < length bs → get_or (pairs_of bs) (2 * i + 1) 0 ≡ hex_digit (get_or bs i 0 % 16)
unfolding hex.pairs_of
low_digit [] i h = absurd (omega arith)
low_digit (b ∷ bs) zero h = refl
low_digit (b ∷ bs) (suc i) h =
    let three : 2 * suc i + 1 ≡ suc (suc (2 * i + 1)) = omega arith in
    rw three (low_digit bs i (omega arith))

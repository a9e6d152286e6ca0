-- Hexadecimal that was written is read back as the same bytes.
-- Assumes nothing.
use Prim.Native.Nat.{ℕ, suc, ◌+◌, ◌*◌, ◌/◌, ◌%◌, ◌≤◌, ◌<◌}
use mathlib.Core.List.{List, [], ◌∷◌}
use mathlib.Core.Bool.{true}
use mathlib.Core.Option.{some}
use mathlib.Core.Path.{◌≡◌, refl}
use native.Mathlib.Omega.{arith}
use native.Mathlib.Decide.{dec_le}
use lib.ListN.{length}
use borrow.Author.Tests.{ne_eqb, lt-ltb, le-ltb, le-leb, lt-leb}
use Rattle.layout.specs.Layout.{accepted}
use Rattle.layout.specs.RowLaws.{Bytes}
use Rattle.ascii.specs.Hex as hex
use Rattle.ascii.specs.Hex.{is_hex, hex_value, blob_of, hex_digit, pairs_of, hex_of, bytes_of, HexLaws}
use Rattle.ascii.proofs.Pairs.{length_pairs}

-- ---- a digit
-- d is written as a digit that says d
record Back (d : ℕ) : Type 0 where
  is-hex : is_hex (hex_digit d) ≡ true
  says : hex_value (hex_digit d) ≡ d

small : (d : ℕ) → d < 10 → Back d
unfolding hex.hex_digit
small d h =
    let low = le-leb (d + 0x30) 0x39 (omega arith) in
    record { is-hex = rw (lt-ltb d 10 h, le-leb 0x30 (d + 0x30) (omega arith), low); says = rw (lt-ltb d 10 h, low) (omega arith) }

large : (d : ℕ) → 10 ≤ d → d < 16 → Back d
unfolding hex.hex_digit
large d h k =
    let high = lt-leb (d + 0x57) 0x39 (omega arith) in
    record {
      is-hex = rw (le-ltb d 10 h, le-leb 0x30 (d + 0x57) (omega arith), high, le-leb 0x61 (d + 0x57) (omega arith), le-leb (d + 0x57) 0x66 (omega arith));
      says = rw (le-ltb d 10 h, high) (omega arith);
    }

digit-back : (d : ℕ) → d < 16 → Back d
digit-back d h = go (dec_le 10 d)
  where
    go : Dec (10 ≤ d) → Back d
    go (yes k) = large d k h
    go (no k) = small d (omega arith)

-- ---- bytes
blob-back : (bs : List ℕ) → Bytes bs → blob_of (pairs_of bs) ≡ some bs
unfolding hex.blob_of hex.pairs_of
blob-back [] h = refl
blob-back (b ∷ bs) h =
    let high = digit-back (b / 16) (omega (arith, h 0)) in
    let low = digit-back (b % 16) (omega arith) in
    let whole : b / 16 * 16 + b % 16 ≡ b = omega arith in
    rw (high.is-hex, low.is-hex, high.says, low.says, whole, blob-back bs (λ i. h (suc i)))

-- a text of two digits or more is neither empty nor `-`
text-reads : (t bs : List ℕ) → 1 < length t → blob_of t ≡ some bs → bytes_of t ≡ accepted bs
unfolding hex.bytes_of
text-reads t bs h e = rw (ne_eqb (length t) 0 (λ f. omega arith), ne_eqb (length t) 1 (λ f. omega arith), e)

back : (bs : List ℕ) → Bytes bs → bytes_of (hex_of bs) ≡ accepted bs
unfolding hex.bytes_of
back [] h = refl
back (b ∷ bs) h =
    rw (ne_eqb (length (b ∷ bs)) 0 (λ e. omega arith))
    (text-reads (pairs_of (b ∷ bs)) (b ∷ bs) (omega (arith, length_pairs (b ∷ bs))) (blob-back (b ∷ bs) h))

pub laws : HexLaws
laws = record { read_back = back }

-- What `encode` wrote is decoded as the same struct, and what was decoded is encoded as the same bytes, from the contracts of both alone.
-- Assumes nothing.
use Prim.Native.Nat.{ℕ, ◌-◌, ◌≤◌}
use mathlib.Core.List.{List, ◌++◌, append_assoc}
use mathlib.Core.Bool.{Bool, true, false, cond, true≢false}
use mathlib.Core.Option.{Option, none, some}
use mathlib.Core.Path.{◌≡◌, refl, sym, ap, subst, ◌∙◌}
use lib.ListN.{length, take, take-append-drop}
use lib.Seq.{take_at, drop_at}
use Rattle.std.specs.Prelude.{Ok}
use Rattle.layout.specs.Veil.{zeros, plain}
use Rattle.layout.specs.Form.{bytes, fits_if}
use Rattle.layout.specs.Layout.{Answer, accepted, refused_by, print, fits_of, read_row}
use Rattle.layout.specs.Says.{made, leaves}
use Rattle.layout.specs.RowLaws.{Bytes}
use Rattle.layout.specs.Write.{stored, writes}
use Rattle.layout.specs.Write as write
use Rattle.rows.specs.Values as value
use Rattle.rows.specs.Checks.{kci}
use Rattle.rows.specs.Rows.{card, card_row}
use Rattle.layout.proofs.Theorems.{accepted≢}
use Rattle.rows.proofs.Proved.{proved}
use Rattle.rows.proofs.RoundTrip.{Stands, stands, printed-back, rewritten}
use Rattle.card.specs.Card.{CardTyped, LeftOutZero, CardLaws, card_of, or_zeros, value_of, image}
use Rattle.card.specs.declared.Card.{Card}
use Rattle.card.proofs.Image.{name-whole, name-is, fits, asked-few}

-- the struct of a value stands for it
key_back : (t : Bool) (o : Option (List ℕ)) (post : List ℕ) → fits_if (bytes plain 1184) t o post → cond t (some (or_zeros 1184 o)) none ≡ o
key_back true none post h = absurd h
key_back true (some k) post h = refl
key_back false none post h = refl
key_back false (some k) post h = absurd h

name_back : (name : List ℕ) → take (length name) ((name ++ zeros (48 - length name)) ++ zeros 207) ≡ name
name_back name = rw (append_assoc name (zeros (48 - length name)) (zeros 207)) (take_at name (zeros (48 - length name) ++ zeros 207) (length name) refl)

pub value-back : (v : value.Card) (post : List ℕ) → fits_of card v post → value_of (card_of v) ≡ v
value-back v post h = λ i. record {
  caps = v.caps;
  beacon_day = v.beacon_day;
  beacon_key = v.beacon_key;
  name = name_back v.name i;
  static_ek = key_back (kci v.caps) v.static_ek _ h.1.1.1.1.1.0 i;
}

-- ---- a struct with 0 for what is left out is that of its value
key-same : (t : Bool) (ek : List ℕ) → (t ≡ false → ek ≡ zeros 1184) → or_zeros 1184 (cond t (some ek) none) ≡ ek
key-same true ek h = refl
key-same false ek h = sym (h refl)

module _ (c : Card) (ty : CardTyped c) (few : c.name_len ≤ 48) (zero : LeftOutZero c) where
  name-same : (value_of c).name ++ zeros (48 - length (value_of c).name) ≡ c.name
  name-same =
      ap (λ (n : ℕ). (value_of c).name ++ zeros (48 - n)) (name-whole c ty)
      ∙ ap (λ (l : List ℕ). l ++ zeros (48 - c.name_len)) (name-is c ty few)
      ∙ ap (λ (l : List ℕ). take c.name_len c.name ++ l) (sym zero.name)
      ∙ take-append-drop c.name_len c.name

  same-struct : card_of (value_of c) ≡ c
  same-struct = λ i. record {
    beacon_day = c.beacon_day;
    caps = c.caps;
    name_len = name-whole c ty i;
    beacon_key = c.beacon_key;
    name = name-same i;
    static_ek = key-same (kci c.caps) c.static_ek zero.static_ek i;
  }

-- the struct that decoding leaves is such a one
key-zero : (t : Bool) (o : Option (List ℕ)) (post : List ℕ) → fits_if (bytes plain 1184) t o post → t ≡ false → or_zeros 1184 o ≡ zeros 1184
key-zero t none post h clear = refl
key-zero true (some k) post h clear = absurd (true≢false clear)
key-zero false (some k) post h clear = absurd h

zero_left : (v : value.Card) (post : List ℕ) → fits_of card v post → LeftOutZero (card_of v)
zero_left v post h = record {
  name = drop_at v.name (zeros (48 - length v.name)) (length v.name) refl;
  static_ek = key-zero (kci v.caps) v.static_ek _ h.1.1.1.1.1.0;
}

-- ---- encode, then decode
module _ (c : Card) (ty : CardTyped c) where
  image-read : (v : value.Card) → read_row card_row (image c) ≡ accepted v → v ≡ value_of c
  unfolding image
  image-read v e = let same = sym e ∙ printed-back card_row proved.card.laws (value_of c) (fits c ty) e in cc

  module _ (out left : List ℕ) (n : ℕ) (contract : leaves (Ok n) left ≡ writes card_row (image c) out) where
    held : Stands card_row (image c) left n
    held = stands card_row (image c) out left contract

    is_read : read_row card_row (take n left) ≡ accepted (value_of c)
    unfolding image
    is_read =
        ap (λ (row : List ℕ). read_row card_row row) held.front
        ∙ printed-back card_row proved.card.laws (value_of c) (fits c ty) held.read

    write_read : made card_of (read_row card_row (take n left)) ≡ accepted (card_of (value_of c))
    write_read = ap (made card_of) is_read

    short-name : c.name_len ≤ 48
    unfolding write.asked
    short-name = asked-few c ty {n = length (image c)} (rw held.read)

    write_same : LeftOutZero c → made card_of (read_row card_row (take n left)) ≡ accepted c
    write_same zero = write_read ∙ ap accepted (same-struct c ty short-name zero)

-- ---- decode, then encode
module _ (input : List ℕ) (by : Bytes input) where
  module _ (v : value.Card) (e : read_row card_row input ≡ accepted v) where
    value_read : value_of (card_of v) ≡ v
    value_read = value-back v _ (proved.card.laws.read-valid input by v e).fits.0

    read-image : image (card_of v) ≡ input
    unfolding image
    read-image = ap (λ (x : value.Card). print card_row x) value_read ∙ proved.card.laws.read-print input by v e

  module _ (read : Card) (contract : accepted read ≡ made card_of (read_row card_row input)) where
    read-zero : LeftOutZero read
    read-zero = go (read_row card_row input) refl contract
      where
        go : (a : Answer value.Card) → read_row card_row input ≡ a → accepted read ≡ made card_of a → LeftOutZero read
        go (accepted v) e h = let same : read ≡ card_of v = cc in subst LeftOutZero (sym same) (zero_left v _ (proved.card.laws.read-valid input by v e).fits.0)
        go (refused_by q) e h = absurd (accepted≢ h)

    read-write : (out : List ℕ) → writes card_row (image read) out ≡ stored input out
    unfolding image
    read-write out = go (read_row card_row input) refl contract
      where
        go : (a : Answer value.Card) → read_row card_row input ≡ a → accepted read ≡ made card_of a → writes card_row (image read) out ≡ stored input out
        go (accepted v) e h =
            let same : read ≡ card_of v = cc in
            ap (λ (x : Card). writes card_row (image x) out) same
            ∙ ap (λ (x : value.Card). writes card_row (print card_row x) out) (value_read v e)
            ∙ rewritten card_row proved.card.laws input by v e out
        go (refused_by q) e h = absurd (accepted≢ h)

pub card-laws : CardLaws
card-laws = record {
  write_read = write_read;
  write_same = λ c ty zero out left n contract. write_same c ty out left n contract zero;
  read-zero = read-zero;
  read-write = read-write;
  read-image = read-image;
  image-read = image-read;
}

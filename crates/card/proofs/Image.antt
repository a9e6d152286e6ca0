-- The row that a card stands for: what reading it would answer, and which bytes it is.
-- Assumes nothing.
use Prim.Native.Nat.{ℕ, ◌+◌, ◌^◌, ◌≤◌, ◌<◌}
use mathlib.Core.List.{List, [], ◌∷◌, ◌++◌, append-nil}
use mathlib.Core.Bool.{Bool, true, false, cond}
use mathlib.Core.Option.{none, some}
use mathlib.Core.Path.{◌≡◌, refl, sym, ap, ◌∙◌}
use native.Mathlib.Omega.{arith}
use lib.ListN.{length, take, length-append, length-replicate}
use lib.Seq.{length-take-le, take-append-le}
use borrow.Author.Tests.{le-leb, leb-true}
use Rattle.layout.specs.Questions.{CAPS, NAME_LENGTH, NAME_UTF8}
use Rattle.layout.specs.Veil.{zeros, plain}
use Rattle.layout.specs.Form.{bytes_of, bytes, only_if, print_if}
use Rattle.layout.specs.Layout.{print, fits_of, refusal_of}
use Rattle.layout.specs.Layout as layout
use Rattle.layout.specs.Write.{wrote, refuses, asked}
use Rattle.layout.specs.Write as write
use Rattle.layout.proofs.Front.{byte-print, length-bytes_of}
use Rattle.layout.proofs.Write.{wrote≢refuses}
use Rattle.rows.specs.Utf8.{utf8}
use Rattle.rows.specs.Checks.{caps_known, kci, name_short}
use Rattle.rows.specs.Rows.{card, card_row}
use Rattle.rows.proofs.Proved.{proved}
use Rattle.card.specs.Card.{CardTyped, value_of, image, length_of, storable, name_part}
use Rattle.card.specs.declared.Card.{Card}

module _ (c : Card) (ty : CardTyped c) where
  -- ---- the name and the key
  pub name-whole : length (value_of c).name ≡ c.name_len
  name-whole = length-take-le c.name_len (c.name ++ zeros 207) (simp (length-append, length-replicate) (omega (arith, ty.name, ty.name_len)))

  pub name-is : c.name_len ≤ 48 → (value_of c).name ≡ take c.name_len c.name
  name-is few = take-append-le c.name_len c.name (zeros 207) (omega (arith, ty.name))

  abbrev key : List ℕ
  key = cond (kci c.caps) c.static_ek []

  key_fits : (t : Bool) → (only_if (bytes plain 1184) t).fits (cond t (some c.static_ek) none) []
  key_fits true = ty.static_ek
  key_fits false = tt

  key-granted : (t : Bool) → (only_if (bytes plain 1184) t).refusal (cond t (some c.static_ek) none) ≡ none
  key-granted true = refl
  key-granted false = refl

  key-prints : (t : Bool) → print_if (bytes plain 1184) (cond t (some c.static_ek) none) ≡ cond t c.static_ek []
  key-prints true = refl
  key-prints false = refl

  -- ---- what reading the row would ask
  pub fits : fits_of card_row (value_of c) []
  unfolding layout.print
  fits = ((ty.caps, (ty.beacon_day, (ty.beacon_key, (rw name-whole ty.name_len, (refl, (key_fits (kci c.caps), refl)))))), (refl, refl))

  -- a card's length stays below 2^16, whatever its name's length says
  pub print-short : length (print card (value_of c)) < 256 ^ 2
  unfolding layout.print
  print-short =
      let key : length (print_if (bytes plain 1184) (value_of c).static_ek) ≤ 1184 = go (kci c.caps) in
      rw append-nil (simp (length-append, length-bytes_of) (omega (arith, key, ty.beacon_key, name-whole, ty.name_len)))
    where
      go : (t : Bool) → length (print_if (bytes plain 1184) (cond t (some c.static_ek) none)) ≤ 1184
      go true = omega (arith, ty.static_ek)
      go false = omega arith

  refused-row : {q : ℕ} → refusal_of card_row (value_of c) ≡ some q → asked card_row (image c) ≡ refuses q
  unfolding image write.asked
  refused-row {q} e = rw (proved.card.laws.print-refused (value_of c) q fits e)

  pub bad-caps : caps_known c.caps ≡ false → asked card_row (image c) ≡ refuses CAPS
  unfolding layout.refusal_of
  bad-caps p = refused-row (rw p)

  module _ (known : caps_known c.caps ≡ true) where
    pub long-name : name_short c.name_len ≡ false → asked card_row (image c) ≡ refuses NAME_LENGTH
    unfolding layout.refusal_of
    long-name q = refused-row (rw (known, name-whole, q))

    module _ (few : c.name_len ≤ 48) where
      pub bad-name : utf8 (take c.name_len c.name) ≡ false → asked card_row (image c) ≡ refuses NAME_UTF8
      unfolding layout.refusal_of
      bad-name r = refused-row (rw (known, name-whole, le-leb _ _ few, ap utf8 (name-is few) ∙ r))

      pub whole : utf8 (take c.name_len c.name) ≡ true → asked card_row (image c) ≡ wrote (length (image c))
      unfolding layout.refusal_of image write.asked
      whole r =
          let granted : refusal_of card_row (value_of c) ≡ none = rw (known, name-whole, le-leb _ _ few, ap utf8 (name-is few) ∙ r, key-granted (kci c.caps)) in
          rw (proved.card.laws.print-read (value_of c) (record { fits = fits; granted = granted }))

  -- ---- which bytes it is, and how many
  image-prints : image c ≡ (c.caps ∷ []) ++ (bytes_of 4 c.beacon_day ++ (c.beacon_key ++ ((c.name_len ∷ []) ++ ((value_of c).name ++ key))))
  unfolding layout.print image
  image-prints = append-nil (print card (value_of c)) ∙ rw (name-whole, key-prints (kci c.caps), append-nil, byte-print c.caps ty.caps, byte-print c.name_len ty.name_len)

  key-long : (t : Bool) → length (cond t c.static_ek []) ≡ cond t 1184 0
  key-long true = ty.static_ek
  key-long false = refl

  pub length-image : length (image c) ≡ length_of c.caps c.name_len
  length-image = rw image-prints (simp (length-append, length-bytes_of) (omega (arith, ty.beacon_key, name-whole, key-long (kci c.caps))))

  module _ (few : c.name_len ≤ 48) where
    pub image-is : image c ≡ (c.caps ∷ []) ++ (bytes_of 4 c.beacon_day ++ (c.beacon_key ++ name_part c))
    unfolding name_part
    image-is = rw (image-prints, name-is few)

    pub name-long : length (take c.name_len c.name) ≡ c.name_len
    name-long = length-take-le c.name_len c.name (omega (arith, ty.name))

    pub length-name-part : length (name_part c) ≡ 1 + c.name_len + length key
    unfolding name_part
    length-name-part = simp length-append (omega (arith, name-long))

    pub length-parts : length (image c) ≡ 37 + length (name_part c)
    length-parts = rw image-is (simp (length-append, length-bytes_of) (omega (arith, ty.beacon_key)))

  -- a row that reading accepts has a name that is not too long
  pub asked-few : {n : ℕ} → asked card_row (image c) ≡ wrote n → c.name_len ≤ 48
  asked-few {n} e = go (caps_known c.caps) (name_short c.name_len) refl refl
    where
      go : (s t : Bool) → caps_known c.caps ≡ s → name_short c.name_len ≡ t → c.name_len ≤ 48
      go false t p q = absurd (wrote≢refuses (sym e ∙ bad-caps p))
      go true false p q = absurd (wrote≢refuses (sym e ∙ long-name p q))
      go true true p q = leb-true _ _ q

-- ---- what is stored, where the row fits
pub whole-fits : (c : Card) (room : ℕ) → c.name_len ≤ 48 → length (image c) ≤ room → storable c room ≡ image c
whole-fits c room few inside = rw (le-leb c.name_len 48 few, le-leb (length (image c)) room inside)

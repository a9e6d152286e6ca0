-- The fields of a line have neither LF nor a comma in them.
-- Assumes nothing.
use Prim.Native.Nat.{ℕ}
use mathlib.Core.List.{List, [], ◌∷◌}
use mathlib.Core.Bool.{Bool, true, false, cond}
use mathlib.Core.Path.{◌≡◌, refl}
use lib.Dec.{eqb}
use Rattle.numbers.specs.Decimal.{LF, COMMA}
use Rattle.ascii.specs.Words as words
use Rattle.ascii.specs.Words.{in_front, parted}
use Rattle.ascii.proofs.Parts.{Free, free-nil, free-cons}

pub data Plain : List ℕ → Type 0 where
  plain-nil : Plain []
  plain-cons : {b : ℕ} {bs : List ℕ} → eqb b LF ≡ false → eqb b COMMA ≡ false → Plain bs → Plain (b ∷ bs)

pub data AllPlain : List (List ℕ) → Type 0 where
  plains-nil : AllPlain []
  plains-cons : {p : List ℕ} {ps : List (List ℕ)} → Plain p → AllPlain ps → AllPlain (p ∷ ps)

plains-front : (b : ℕ) (ps : List (List ℕ)) → eqb b LF ≡ false → eqb b COMMA ≡ false → AllPlain ps → AllPlain (in_front b ps)
plains-front b [] e c plains-nil = plains-nil
plains-front b (p ∷ ps) e c (plains-cons f fs) = plains-cons (plain-cons e c f) fs

pub plain-fields : (l : List ℕ) → Free LF l → AllPlain (parted COMMA l)
unfolding words.parted
plain-fields [] free-nil = plains-cons plain-nil plains-nil
plain-fields (b ∷ bs) (free-cons e f) = go (eqb b COMMA) refl (plain-fields bs f)
  where
    go : (t : Bool) → eqb b COMMA ≡ t → AllPlain (parted COMMA bs) → AllPlain (cond t ([] ∷ parted COMMA bs) (in_front b (parted COMMA bs)))
    go true c ih = plains-cons plain-nil ih
    go false c ih = plains-front b (parted COMMA bs) e c ih

-- Numbers with a comma before each, one at a time.
-- Assumes nothing.
use Prim.Native.Nat.{ℕ, ◌+◌, ◌<◌}
use mathlib.Core.List.{List, ◌∷◌, ◌++◌}
use mathlib.Core.Path.{◌≡◌}
use native.Mathlib.Numerals.{add-one}
use lib.ListN.{length, get_or, drop}
use lib.Seq.{drop-cons}
use Rattle.put.specs.Put.{Wrote}
use Rattle.put.proofs.Put.{Writing, writing_step}
use Rattle.numbers.specs.Decimal.{COMMA, decimal, fields_text}

-- ---- the fields from the i-th on
field-text : (ns : List ℕ) (i : ℕ) → i < length ns → fields_text (drop i ns) ≡ COMMA ∷ (decimal (get_or ns i 0) ++ fields_text (drop (i + 1) ns))
field-text ns i h = rw (add-one i, drop-cons ns i 0 h)

-- ---- a turn of the loop that writes the fields
pub field-turn : {l m m' : List ℕ} {at here p : ℕ} (ns : List ℕ) (i : ℕ) → Writing l at (fields_text ns) m here (fields_text (drop i ns)) → i < length ns
    → Wrote m here (COMMA ∷ decimal (get_or ns i 0)) m' p → Writing l at (fields_text ns) m' p (fields_text (drop (i + 1) ns))
field-turn ns i w h s = writing_step (COMMA ∷ decimal (get_or ns i 0)) (rw (field-text ns i h) at w) s

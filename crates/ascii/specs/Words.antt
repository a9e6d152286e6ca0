-- Words: what stands before, between and behind the marks of a text.
-- Assumes nothing.
use Rattle.std.specs.Prelude.{ℕ, List, [], ◌∷◌, cond, get_or, eqb}
use Rattle.std.proofs.Math.Option.{Option, none, some}
use Rattle.ascii.specs.Decimal.{U64, decimal_in}

abbrev pub SPACE : ℕ
SPACE = 0x20

-- ---- what stands before the first mark, and behind it: all and nothing where there is none
unfoldable pub before : (mark : ℕ) → List ℕ → List ℕ
before mark [] = []
before mark (b ∷ bs) = cond (eqb b mark) [] (b ∷ before mark bs)

unfoldable pub behind : (mark : ℕ) → List ℕ → List ℕ
behind mark [] = []
behind mark (b ∷ bs) = cond (eqb b mark) bs (behind mark bs)

-- ---- all parts
-- b before the first part
abbrev pub in_front : ℕ → List (List ℕ) → List (List ℕ)
in_front b [] = []
in_front b (p ∷ ps) = (b ∷ p) ∷ ps

-- what stands before, between and behind the marks: one part more than there are marks
unfoldable pub parted : (mark : ℕ) → List ℕ → List (List ℕ)
parted mark [] = [] ∷ []
parted mark (b ∷ bs) = cond (eqb b mark) ([] ∷ parted mark bs) (in_front b (parted mark bs))

-- the i-th of them, counted from 0; empty where there are fewer
abbrev pub word_at : (mark i : ℕ) → List ℕ → List ℕ
word_at mark i text = get_or (parted mark text) i []

-- ---- a word that is a number
-- what a text says, 0 where it is no number
abbrev pub number_or0 : Option ℕ → ℕ
number_or0 none = 0
number_or0 (some n) = n

abbrev pub number_at : (mark i : ℕ) → List ℕ → ℕ
number_at mark i text = number_or0 (decimal_in U64 (word_at mark i text))

-- Decimals and a line, computed. The numbers are small: the computation of the text of 2^64 - 1 runs out of stack.
-- Assumes nothing.
use mathlib.Core.List.{[], ◌∷◌}
use mathlib.Core.Path.{◌≡◌, refl}
use Rattle.numbers.specs.Decimal as decimals
use Rattle.store.specs.Line as line
use Rattle.numbers.specs.Decimal.{decimal}
use Rattle.store.specs.Line.{line_of}

nought : decimal 0 ≡ 0x30 ∷ []
unfolding decimals.digits_of
nought = refl

nine : decimal 9 ≡ 0x39 ∷ []
unfolding decimals.digits_of
nine = refl

ten : decimal 10 ≡ 0x31 ∷ 0x30 ∷ []
unfolding decimals.digits_of
ten = refl

-- S,12,7,5,3,2,1,0
a-line : line_of 12 7 5 3 2 1 0 ≡ 0x53 ∷ 0x2C ∷ 0x31 ∷ 0x32 ∷ 0x2C ∷ 0x37 ∷ 0x2C ∷ 0x35 ∷ 0x2C ∷ 0x33 ∷ 0x2C ∷ 0x32 ∷ 0x2C ∷ 0x31 ∷ 0x2C ∷ 0x30 ∷ 0x0A ∷ []
unfolding decimals.digits_of line.line_of
a-line = refl

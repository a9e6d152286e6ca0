-- Texts of sheets, computed: of no line at all, where 1 is a no at entry 0, and of a first line without its LF.
-- Assumes nothing.
use mathlib.Core.List.{[], ◌∷◌}
use mathlib.Core.Path.{◌≡◌, refl}
use Rattle.numbers.specs.Decimal as decimals
use Rattle.ascii.specs.Words as words
use Rattle.sheet.specs.Sheet as sheet
use Rattle.statement_text.specs.Text as text
use Rattle.statement_text.specs.Text.{sheet_text}

-- `R,1,0`
empty : sheet_text [] ≡ 0x52 ∷ 0x2C ∷ 0x31 ∷ 0x2C ∷ 0x30 ∷ 0x0A ∷ []
unfolding text.sheet_text text.text_of sheet.said_from words.parted decimals.digits_of
empty = refl

-- `X,41,1`
unended : sheet_text (0x44 ∷ []) ≡ 0x58 ∷ 0x2C ∷ 0x34 ∷ 0x31 ∷ 0x2C ∷ 0x31 ∷ 0x0A ∷ []
unfolding text.sheet_text text.text_of sheet.said_from words.parted decimals.digits_of
unended = refl

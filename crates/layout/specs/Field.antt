-- A field taken at a position of a row: what every reader of a field answers.
-- Assumes nothing.
use Rattle.std.specs.Prelude.{ℕ, ◌-◌, List, length, drop}
use Rattle.layout.specs.Read.{Read, value, refused}
use Rattle.layout.specs.Form.{Form}

-- the value and the next position, or the number of the question whose answer is no
pub data Field (A : Type 0) : Type 0 where
  takes : A → ℕ → Field A
  refuses : ℕ → Field A

module _ {A : Type 0} where
  abbrev pub placed : List ℕ → Read A → Field A
  placed row (value a rest) = takes a (length row - length rest)
  placed row (refused q) = refuses q

-- nothing stands at a position past the row's end
unfoldable pub read_at : {B : Type 0} → Form B → List ℕ → ℕ → Field B
read_at f row at = placed row (f.read (drop at row))

-- Where a field stands: its offset is how many bytes the fields before it take.
-- Assumes nothing.
use Rattle.std.specs.Prelude.{ℕ, zero, suc, ◌+◌, length}
use Rattle.std.specs.Prelude as code
use Rattle.std.proofs.Math.Option.{Option, none, some}
use Rattle.layout.specs.Form.{Form}
use Rattle.layout.specs.Field.{Field, takes, refuses}
use Rattle.layout.specs.Layout.{Layout, done, field, ask, optional_layout}

-- of field i, counted from 0, in what is printed of v
abbrev pub offset : {A : Type 0} → Layout A → ℕ → A → ℕ
offset (done a) i v = 0
offset (field f get k) zero v = 0
offset (field f get k) (suc i) v = length (f.print (get v)) + offset (k (get v)) i v
offset (ask q t k) i v = offset k i v

-- what a reader answers that says where a field stands instead of its value
abbrev pub located : {B P : Type 0} → (B → P) → Field B → Field P
located places (takes b next) = takes (places b) next
located places (refuses q) = refuses q

-- the places of a part behind a flag, where the flag is 1
module _ {B P : Type 0} where
  abbrev pub optional_at : Form B → (ℕ → B → P) → ℕ → Option B → code.Option P
  optional_at f places from none = code.None
  optional_at f places from (some b) = code.Some (places (from + offset (optional_layout f) 1 (some b)) b)

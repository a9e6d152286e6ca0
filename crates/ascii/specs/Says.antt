-- What the answer about a decimal says.
-- Assumes nothing.
use Rattle.std.specs.Prelude.{ℕ}
use Rattle.std.proofs.Math.Option.{Option, none, some}
use Rattle.std.specs.Prelude as code

abbrev pub decimal_says : code.Option ℕ → Option ℕ
decimal_says (code.Some n) = some n
decimal_says code.None = none

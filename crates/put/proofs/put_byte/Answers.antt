-- `put_byte` meets its contract: its one store is the law `wrote-byte`.
-- Assumes nothing.
use mathlib.Core.Path.{refl}
use Rattle.put.proofs.Put.{wrote-byte}
use Rattle.put.proofs.put_byte.Goals as goal

pub returns : goal.returns
returns c = (refl, wrote-byte _ _ _)

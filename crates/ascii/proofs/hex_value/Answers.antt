-- `ascii::hex_value` meets its contract.
-- Assumes nothing.
use native.Mathlib.Omega.{arith}
use Rattle.ascii.proofs.Blobs.{hex-bits, hex-small}
use Rattle.ascii.proofs.hex_value.Goals as goal

pub returns : goal.returns
returns c = λ is. let same = hex-bits c.args.b is in (same, omega (arith, same, hex-small c.args.b is))

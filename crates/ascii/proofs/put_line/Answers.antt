-- `ascii::put_line` meets its contract: the letter, and the numbers behind it.
-- Assumes nothing.
use native.Mathlib.Omega.{arith}
use Rattle.put.proofs.Put.{◌then◌}
use Rattle.ascii.proofs.put_line.Goals as goal

pub returns : goal.returns
returns c =
    let w = c.put_byte-fields_at.ensures.1 then c.put_fields.ensures.1 in
    (omega (arith, w.next-is), w)

-- `ascii::put_field` meets its contract: a comma, and the number behind it.
use native.Mathlib.Omega.{arith}
use Rattle.put.proofs.Put.{◌then◌}
use Rattle.ascii.proofs.put_field.Goals as goal

pub returns : goal.returns
returns c =
    let w = c.put_byte-number_at.ensures.1 then c.put_decimal.ensures.1 in
    (omega (arith, w.next-is), w)

-- `replay_answer::put_range` meets its contract: the parts are stored one behind the other.
-- Assumes nothing.
use native.Mathlib.Omega.{arith}
use Rattle.put.proofs.Put.{◌then◌}
use Rattle.replay_answer.proofs.Ranges.{length-range}
use Rattle.replay_answer.proofs.put_range.Goals as goal

pub put_decimal-dash_at-requires : goal.put_decimal-dash_at-requires
put_decimal-dash_at-requires c = let a = c.args in omega (arith, length-range a.from a.to)

pub put_byte-to_at-requires : goal.put_byte-to_at-requires
put_byte-to_at-requires c = let a = c.args in omega (arith, length-range a.from a.to)

pub put_decimal-requires : goal.put_decimal-requires
put_decimal-requires c = let a = c.args in omega (arith, length-range a.from a.to)

pub returns : goal.returns
returns c =
    let w = c.put_byte-from_at.ensures.1 then (c.put_decimal-dash_at.ensures.1 then (c.put_byte-to_at.ensures.1 then c.put_decimal.ensures.1)) in
    (w.next-is, w)

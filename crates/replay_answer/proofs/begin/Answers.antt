-- `replay_answer::begin` meets its contract: one byte, and the other behind it.
-- Assumes nothing.
use native.Mathlib.Omega.{arith}
use Rattle.put.proofs.Put.{◌then◌}
use Rattle.replay_answer.proofs.begin.Goals as goal

pub returns : goal.returns
returns c =
    let w = c.put_byte-at.ensures.1 then c.put_byte.ensures.1 in
    (omega (arith, w.next-is), w)

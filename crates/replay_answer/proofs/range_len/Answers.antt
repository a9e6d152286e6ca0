-- `replay_answer::range_len` meets its contract: two numbers, a dash and a mark.
-- Assumes nothing.
use native.Mathlib.Omega.{arith}
use Rattle.replay_answer.proofs.Ranges.{length-range}
use Rattle.replay_answer.proofs.range_len.Goals as goal

pub returns : goal.returns
returns c =
    let a = c.args in
    (omega (arith, length-range a.from a.to, c.decimal_len.ensures.0, c.decimal_len-2.ensures.0), omega (arith, c.decimal_len.ensures.1, c.decimal_len-2.ensures.1))

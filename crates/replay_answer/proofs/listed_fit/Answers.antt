-- `replay_answer::listed_fit` meets its contract. The invariant: the room that is left is enough for the ranges from the index on if the whole is enough for all.
-- Assumes nothing.
use Rattle.replay_answer.proofs.Ranges.{fit-turn, fit-less, fit-end}
use Rattle.replay_answer.proofs.listed_fit.Goals as goal

pub returns-then-left-n : goal.returns-then-left-n
returns-then-left-n c =
    fit-less c.args.ranges.now c.loop-from.from-index c.loop-from.left c.args.room c.loop-from.invariant c.loop-from-test.true c.from.ensures c.from-in-loop-from.ensures c.range_len-n.ensures.0 c.if-left-n.true

pub loop-from-preserved : goal.loop-from-preserved
loop-from-preserved c =
    fit-turn c.args.ranges.now c.loop-from.from-index c.loop-from.left c.args.room c.loop-from.invariant c.loop-from-test.true c.from.ensures c.from-in-loop-from.ensures c.range_len-n.ensures.0 c.if-left-n.false

pub returns : goal.returns
returns c = fit-end c.args.ranges.now c.loop-from.from-index c.loop-from.left c.args.room c.loop-from.invariant c.loop-from-test.false

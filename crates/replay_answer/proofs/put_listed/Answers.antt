-- `replay_answer::put_listed` meets its contract. The invariant: the ranges from the index on, the first behind the mark, written from here on, give the whole.
-- Assumes nothing.
use Rattle.put.proofs.Put.{writing_start}
use Rattle.replay_answer.proofs.Ranges.{put-turn, put-room, put-end}
use Rattle.replay_answer.proofs.put_listed.Goals as goal

pub loop-from-init : goal.loop-from-init
loop-from-init c = writing_start _ _ _

pub put_range-here-requires : goal.put_range-here-requires
put_range-here-requires c =
    put-room c.args.ranges.now c.loop-from.mark c.loop-from.from-index c.loop-from-test.true c.from.ensures c.from-in-loop-from.ensures c.loop-from.invariant c.requires

pub loop-from-preserved : goal.loop-from-preserved
loop-from-preserved c =
    put-turn c.args.ranges.now c.loop-from.mark c.loop-from.from-index c.loop-from-test.true c.from.ensures c.from-in-loop-from.ensures c.loop-from.invariant c.put_range-here.ensures.1

pub returns : goal.returns
returns c =
    let w = put-end c.args.ranges.now c.loop-from.mark c.loop-from.from-index c.loop-from-test.false c.loop-from.invariant in
    (w.next-is, w)

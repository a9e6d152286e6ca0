-- `received::merge` meets its contract. The invariant: what is merged so far, merged with the ranges that are left, is the answer.
use Rattle.std.proofs.Common.{arith}
use Rattle.received.proofs.Turns.{merged-stop, merged_on}
use Rattle.received.proofs.merge.Goals as goal

pub returns-then-from : goal.returns-then-from
returns-then-from c =
    let stop = merged-stop c.args.ranges.now c.loop-i.i (omega arith) _ _ _ c.loop-i.invariant.1 (omega arith) in
    record { range = stop.0; after = stop.1 }

pub loop-i-preserved : goal.loop-i-preserved
loop-i-preserved c =
    (omega arith, rw (c.min-from.ensures, c.max-to.ensures) (merged_on c.args.ranges.now c.loop-i.i (omega arith) _ _ _ c.loop-i.invariant.1 (omega arith)))

-- `received::Received::ranges` meets its contract: the first pairs are the ranges that the list holds.
use Rattle.std.proofs.Common.{◌/◌, length, arith, length-take}
use Rattle.received.proofs.Pairs.{ranges-first}
use Rattle.received.proofs.Received.ranges.Goals as goal

pub returns : goal.returns
returns c =
    let l = c.args.self.above.now in
    (rw c.as_chunks.ensures.front (ranges-first (length l / 2) c.args.self.count c.min.result l (omega arith) (omega arith) (omega arith)), simp length-take (omega arith), omega arith)

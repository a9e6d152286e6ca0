-- `replay_answer::put_listed` meets its contract. The invariant: the ranges from the index on, the first behind the mark, written from here on, give the whole.
-- Assumes nothing.
use lib.ListN.{drop}
use Rattle.received.specs.Lent.{ranges_of}
use Rattle.put.proofs.Put.{Writing}
use Rattle.ascii.specs.Words.{SPACE}
use Rattle.replay_answer.specs.Transcript.{listed}
use Rattle.replay_answer.proofs.put_listed.Given as goal

abbrev pub invariant-loop-from : goal.invariant-loop-from
invariant-loop-from l = Writing l.initial.out l.at (listed SPACE (ranges_of l.ranges)) l.out l.here (listed l.mark (drop l.from-index (ranges_of l.ranges)))

-- `replay_answer::listed_fit` meets its contract. The invariant: the room that is left is enough for the ranges from the index on if the whole is enough for all.
-- Assumes nothing.
use Prim.Native.Nat.{◌+◌}
use mathlib.Core.Path.{◌≡◌}
use lib.ListN.{length, drop}
use Rattle.received.specs.Lent.{ranges_of}
use Rattle.ascii.specs.Words.{SPACE}
use Rattle.replay_answer.specs.Transcript.{listed}
use Rattle.replay_answer.proofs.listed_fit.Given as goal

abbrev pub invariant-loop-from : goal.invariant-loop-from
invariant-loop-from l = (length (listed SPACE (drop l.from-index (ranges_of l.ranges))) + l.room ≡ length (listed SPACE (ranges_of l.ranges)) + l.left)

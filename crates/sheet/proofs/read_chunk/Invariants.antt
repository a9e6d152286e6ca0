-- The invariant: the bytes to come, fed to the state as it is, give what all give. The measure is how many they are.
use Rattle.std.proofs.Common.{◌≡◌, length}
use Rattle.sheet.specs.Machine.{held, fed}
use Rattle.sheet.proofs.read_chunk.Given as goal

abbrev pub invariant-loop-b : goal.invariant-loop-b
invariant-loop-b l = fed l.rest (held l.s l.run l.records) ≡ fed l.chunk (held l.initial.s l.initial.run l.initial.records)

abbrev pub decreases-loop-b : goal.decreases-loop-b
decreases-loop-b l = length l.rest

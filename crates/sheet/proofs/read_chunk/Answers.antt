-- Many pairs taken at once do what their bytes do one by one.
use Prim.Native.Nat.{◌*◌}
use Rattle.sheet.specs.Machine.{held}
use Rattle.sheet.proofs.Pairs.{fed-behind}
use Rattle.sheet.proofs.read_chunk.Goals as goal

pub loop-b-preserved-then-n-gt0 : goal.loop-b-preserved-then-n-gt0
loop-b-preserved-then-n-gt0 c =
    fed-behind (2 * c.pairs_in-n.result) c.loop-b.rest.now (held c.loop-b.s c.loop-b.run c.loop-b.records) _ _ (c.take_pairs-s.ensures c.loop-b.records) c.loop-b.invariant

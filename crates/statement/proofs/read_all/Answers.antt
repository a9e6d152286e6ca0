use Rattle.std.proofs.Common.{arith, refl}
use Rattle.statement.proofs.Pieces.{reads-start, reads-turn, reads_over, reads_all}
use Rattle.statement.proofs.read_all.Goals as goal

pub loop-init : goal.loop-init
loop-init g c = reads-start c.args.run.now c.args.records.now c.begin-reading.ensures refl

pub loop-preserved : goal.loop-preserved
loop-preserved g c = reads-turn c.loop.invariant c.if-reading.true c.read_some-reading.ensures refl

pub returns-else-reading : goal.returns-else-reading
returns-else-reading g c = reads_over c.loop.invariant c.if-reading.false

pub returns : goal.returns
returns g c = reads_all c.loop.invariant (omega arith)

-- `ascii::put_fields` meets its contract. The invariant: the text of the numbers left, written from here on, gives the whole.
use Rattle.std.proofs.Common.{take}
use Rattle.ascii.proofs.Fields.{field-turn}
use Rattle.ascii.proofs.put_fields.Goals as goal

pub loop-n-preserved : goal.loop-n-preserved
loop-n-preserved c = field-turn (take c.args.count c.args.fields) c.loop-n.n-index c.loop-n.invariant c.loop-n-test.true c.put_field-here.ensures.1

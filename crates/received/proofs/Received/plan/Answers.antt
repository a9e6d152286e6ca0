-- `received::Received::plan` meets its contract: the change, if its ranges are few enough.
use Rattle.std.proofs.Common.{length}
use Rattle.received.specs.Lent.{received_of}
use Rattle.received.proofs.Changes.{plan-change, plan-refusal}
use Rattle.received.proofs.Received.plan.Goals as goal

pub returns-then-limit-change : goal.returns-then-limit-change
returns-then-limit-change c =
    let a = c.args in
    plan-refusal (received_of a.self) (length a.self.above.now) a.from a.to c.change_of-change.result c.change_of-change.ensures (rw c.limit.ensures at c.if-limit-change.true)

pub returns : goal.returns
returns c =
    let a = c.args in
    plan-change (received_of a.self) (length a.self.above.now) a.from a.to c.change_of-change.result c.change_of-change.ensures (rw c.limit.ensures at c.if-limit-change.false)

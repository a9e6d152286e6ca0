-- `received::ReceivedMut::insert` meets its contract: a plan that is a change is carried out, and one that is a refusal leaves the list.
use Rattle.std.proofs.Common.{◌≡◌, ◌*◌, ◌≤◌, length}
use Rattle.layout.specs.Layout.{accepted}
use Rattle.received.specs.Lent.{pairs, received_then, plan_of}
use Rattle.received.proofs.Pairs.{pairs-held}
use Rattle.received.proofs.Changes.{fitting, carried}
use Rattle.received.proofs.ReceivedMut.insert.Goals as goal
use Rattle.received.proofs.ReceivedMut.insert.Goals.{After-ranges-held}

-- what is read, in the words of the list that it was read from
module _ (c : After-ranges-held) where
  lent : 2 * length c.ranges-held.result.now ≤ length c.args.self.above.now
  lent = rw c.read-received.ensures.above at c.ranges-held.ensures.1

  same : pairs (length c.ranges-held.result.now) c.args.self.above.now ≡ pairs c.args.self.count c.args.self.above.now
  same = pairs-held c.ranges-held.result.now c.args.self.count c.args.self.above.now (rw (c.read-received.ensures.count, c.read-received.ensures.above) at c.ranges-held.ensures.0)

  planned : accepted c.in_ok-change.change ≡ plan_of (received_then c.args.self) (length c.args.self.above.now) c.args.from c.args.to
  planned = rw (c.read-received.ensures.contiguous, c.read-received.ensures.count, c.read-received.ensures.above) at c.in_ok-change.ensures

pub apply-requires : goal.apply-requires
apply-requires c =
    let here = (goal.at.apply-requires c).After-ranges-held in
    fitting _ _ _ _ _ _ (lent here) (same here) _ (planned here)

pub returns-clause-above_after : goal.returns-clause-above_after
returns-clause-above_after c =
    let here = (goal.at.returns-clause-above_after c).After-ranges-held in
    carried _ _ _ _ _ _ (lent here) (same here) _ (planned here) _ c.apply.ensures

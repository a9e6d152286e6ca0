-- `received::apply` meets its contract: the ranges that the change makes are stored, and the places that are left over are 0.
use Rattle.std.proofs.Common.{◌≡◌, ◌+◌, ◌*◌, ◌++◌, ◌∙◌, drop}
use Rattle.received.specs.Change.{applied}
use Rattle.received.specs.Lent.{pairs, flat}
use Rattle.received.proofs.Stored.{alone, with_range, settled}
use Rattle.received.proofs.apply.Goals as goal
use Rattle.received.proofs.apply.Goals.{then-change-gt0, else-change-gt0}

pub returns : goal.returns
returns c =
    let a = c.args in
    let put : c.if-change-gt0.above ≡ flat (applied a.change (pairs a.held a.above.now)) ++ drop (2 * a.change.before + 2 * a.change.after) a.above.now =
    elim c.if-change-gt0.branch [
      | then-change-gt0 w ↦ with_range a.above.now a.held a.change c.requires _ _ c.copy_within.ensures.after w.if-change-gt0.true w.above-is
      | else-change-gt0 w ↦ w.above-is ∙ alone a.above.now a.held a.change c.requires _ c.copy_within.ensures.after w.if-change-gt0.false
    ] in
    settled a.above.now a.held a.change c.requires _ _ _ put c.min-freed.ensures (c.fill.ensures.after (λ y h. h))

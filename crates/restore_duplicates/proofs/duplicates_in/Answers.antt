-- `restore_duplicates::duplicates_in` meets its contract: one turn is one more entry of the pass.
use Rattle.restore_duplicates.proofs.Passes.{starts, goes_on, found, ends}
use Rattle.restore_duplicates.proofs.duplicates_in.Goals as goal

pub loop-i-init : goal.loop-i-init
loop-i-init c = let a = c.args in starts a.entries.now a.last a.part a.bits.now

pub loop-i-preserved : goal.loop-i-preserved
loop-i-preserved c =
    let a = c.args in
    goes_on a.entries.now a.last a.part a.best c.loop-i.bits c.duplicate_at-first.new.bits c.loop-i.i c.duplicate_at-first.result
    c.loop-i-test.true c.loop-i.invariant c.duplicate_at-first.ensures c.if-first-best.false

pub returns-then-first-best : goal.returns-then-first-best
returns-then-first-best c =
    let a = c.args in
    found a.entries.now a.last a.part a.best c.loop-i.bits c.duplicate_at-first.new.bits c.loop-i.i c.duplicate_at-first.result
    c.loop-i-test.true c.loop-i.invariant c.duplicate_at-first.ensures c.if-first-best.true

pub returns : goal.returns
returns c = let a = c.args in ends a.entries.now a.last a.part a.best c.loop-i.bits c.loop-i.i c.loop-i-test.false c.loop-i.invariant

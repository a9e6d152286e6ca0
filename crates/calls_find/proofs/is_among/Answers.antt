-- `calls_find::is_among` meets its contract: one look goes on in the half that the number may stand in.
-- Assumes nothing.
use Rattle.std.proofs.Common.{arith}
use Rattle.calls_find.proofs.Halves.{begins, ends, found, goes_above, goes-below}
use Rattle.calls_find.proofs.is_among.Goals as goal

pub loop-low-init : goal.loop-low-init
loop-low-init c = let a = c.args in (omega arith, begins a.numbers.now a.msgno)

pub returns-then-number-msgno : goal.returns-then-number-msgno
returns-then-number-msgno c = let l = c.loop-low in found c.args.numbers.now c.args.msgno l.low l.high l.invariant.1 c.loop-low-test.true c.if-number-msgno.true

pub loop-low-preserved-then-number-msgno-2 : goal.loop-low-preserved-then-number-msgno-2
loop-low-preserved-then-number-msgno-2 c =
    let l = c.loop-low in (l.invariant.0, goes_above c.args.numbers.now c.args.msgno l.low l.high l.invariant.1 c.loop-low-test.true c.if-number-msgno-2.true)

pub loop-low-preserved : goal.loop-low-preserved
loop-low-preserved c =
    let l = c.loop-low in (omega arith, goes-below c.args.numbers.now c.args.msgno l.low l.high l.invariant.1 c.loop-low-test.true (omega arith))

pub returns : goal.returns
returns c = let l = c.loop-low in ends c.args.numbers.now c.args.msgno l.low l.high l.invariant.1 c.loop-low-test.false

-- `received::uncovered` meets its contract. The invariant: what is found, and what is to be found from here on behind the ranges that are passed, is the answer;
-- the answer is at most all of at..to, and so no sum is too wide.
use Rattle.std.proofs.Common.{◌≡◌, ◌+◌, ◌-◌, max, get_or, [], drop, arith}
use Rattle.numbers.specs.Ranges.{uncovered}
use Rattle.numbers.proofs.Uncovered.{uncovered-most, none-past}
use Rattle.received.specs.Lent.{ranges_of}
use Rattle.received.proofs.Turns.{uncovered-on, uncovered-end}
use Rattle.received.proofs.uncovered.Goals as goal
use Rattle.received.proofs.uncovered.Goals.{After-max-start, After-saturating_sub}

pub returns-then-end-here : goal.returns-then-end-here
returns-then-end-here c = omega (arith, none-past c.loop-a.here c.args.to (drop c.loop-a.a-index (ranges_of c.args.ranges.now)) (omega arith))

passed : (c : After-max-start) → c.loop-a.found + (c.max-start.result - c.loop-a.here) + uncovered (max c.max-start.result (get_or (get_or c.args.ranges.now c.loop-a.a-index []) 1 0 + 1)) c.args.to (drop (c.loop-a.a-index + 1) (ranges_of c.args.ranges.now)) ≡ uncovered c.args.at c.args.to (ranges_of c.args.ranges.now)
passed c = uncovered-on c.args.ranges.now c.loop-a.a-index (omega arith) c.loop-a.here c.args.to c.loop-a.found _ c.max-start.result c.loop-a.invariant (omega arith)

pub overflow_add-found : goal.overflow_add-found
overflow_add-found c = omega (arith, passed c, uncovered-most c.args.at c.args.to (ranges_of c.args.ranges.now))

pub loop-a-preserved : goal.loop-a-preserved
loop-a-preserved c =
    let next : c.max-here.result ≡ max c.max-start.result (get_or (get_or c.args.ranges.now c.loop-a.a-index []) 1 0 + 1) = omega arith in
    rw next (passed (goal.at.loop-a-preserved c).After-max-start)

ended : (c : After-saturating_sub) → c.loop-a.found + c.saturating_sub.result ≡ uncovered c.args.at c.args.to (ranges_of c.args.ranges.now)
ended c = omega (arith, uncovered-end c.args.ranges.now c.loop-a.a-index (omega arith) c.loop-a.here c.args.to c.loop-a.found _ c.loop-a.invariant)

pub overflow_add-result : goal.overflow_add-result
overflow_add-result c = omega (arith, ended c, uncovered-most c.args.at c.args.to (ranges_of c.args.ranges.now))

pub returns : goal.returns
returns c = ended c

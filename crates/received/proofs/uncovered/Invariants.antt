-- `received::uncovered` meets its contract. The invariant: what is found, and what is to be found from here on behind the ranges that are passed, is the answer.
use Rattle.std.proofs.Common.{◌≡◌, ◌+◌, drop}
use Rattle.numbers.specs.Ranges.{uncovered}
use Rattle.received.specs.Lent.{ranges_of}
use Rattle.received.proofs.uncovered.Given as goal

abbrev pub invariant-loop-a : goal.invariant-loop-a
invariant-loop-a l = l.found + uncovered l.here l.to (drop l.a-index (ranges_of l.ranges)) ≡ uncovered l.at l.to (ranges_of l.ranges)

-- `received::merge` meets its contract. The invariant: what is merged so far, merged with the ranges that are left, is the answer.
use Rattle.std.proofs.Common.{◌≡◌, ◌<◌, ◌^◌, drop}
use Rattle.numbers.specs.Ranges.{merged}
use Rattle.received.specs.Lent.{ranges_of}
use Rattle.received.proofs.merge.Given as goal

abbrev pub invariant-loop-i : goal.invariant-loop-i
invariant-loop-i l = (l.to < 2 ^ 32) × (merged l.from l.to (drop l.i (ranges_of l.ranges)) ≡ merged l.fn.from l.fn.to (ranges_of l.ranges))

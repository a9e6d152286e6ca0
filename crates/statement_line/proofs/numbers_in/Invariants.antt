-- The invariant: the sum, and what the ranges from the i-th on hold from `lowest` on, are what all hold, up to the highest number; no range holds more than 2^32.
use Rattle.std.proofs.Common.{◌≡◌, ◌+◌, ◌*◌, ◌-◌, ◌≤◌, drop}
use Prim.Native.Nat.{◌^◌, min}
use Rattle.numbers.specs.Sets.{size_from}
use Rattle.received.specs.Lent.{pairs}
use Rattle.statement_line.proofs.numbers_in.Given as goal

abbrev pub invariant-loop-i : goal.invariant-loop-i
invariant-loop-i l = (l.sum ≤ l.i * 2 ^ 32) × (l.sum ≤ 2 ^ 64 - 1)
    × (min (l.sum + size_from l.lowest (drop l.i (pairs l.held l.list))) (2 ^ 64 - 1) ≡ min (size_from l.lowest (pairs l.held l.list)) (2 ^ 64 - 1))

-- `calls_find::is_among` meets its contract. The invariant: what the search finds from low on and below high is what it finds of all.
-- Assumes nothing.
use Rattle.std.proofs.Common.{◌-◌, ◌≤◌, length}
use Rattle.calls_find.specs.Sought.{is_found}
use Rattle.calls_find.proofs.Halves.{Searching}
use Rattle.calls_find.proofs.is_among.Given as goal

abbrev pub invariant-loop-low : goal.invariant-loop-low
invariant-loop-low l = (l.high ≤ length l.numbers) × Searching l.numbers l.msgno l.low l.high (is_found l.numbers l.msgno)

abbrev pub decreases-loop-low : goal.decreases-loop-low
decreases-loop-low l = l.high - l.low

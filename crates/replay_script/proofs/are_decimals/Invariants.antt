-- The invariant: the words from the i-th on are decimals exactly where all are.
use Rattle.std.proofs.Common.{◌≡◌, ◌+◌, ◌-◌}
use Rattle.ascii.specs.Words.{SPACE, parted}
use Rattle.replay_script.specs.Script.{decimals_from}
use Rattle.replay_script.proofs.are_decimals.Given as goal

abbrev pub invariant-loop-i : goal.invariant-loop-i
invariant-loop-i l = decimals_from l.narrow l.i (l.count + 1 - l.i) (parted SPACE l.line) ≡ decimals_from l.narrow 1 l.count (parted SPACE l.line)

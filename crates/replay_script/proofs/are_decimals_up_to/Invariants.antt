-- The invariant: the words from the i-th on are decimals up to their numbers exactly where all are.
use Rattle.std.proofs.Common.{◌≡◌, drop}
use Rattle.ascii.specs.Words.{parted}
use Rattle.replay_script.specs.Script.{up_to_from}
use Rattle.replay_script.proofs.are_decimals_up_to.Given as goal

abbrev pub invariant-loop-i : goal.invariant-loop-i
invariant-loop-i l = up_to_from l.i (drop l.i l.highest) (parted l.mark l.text) ≡ up_to_from 0 l.highest (parted l.mark l.text)

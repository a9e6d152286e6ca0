-- Before each turn: what is left of the round answers what all of it answers.
use Rattle.std.proofs.Common.{◌≡◌, ◌-◌, length}
use Rattle.store.specs.Rounds.{Going, turns}
use Rattle.restore_rounds.specs.Rounds.{round_of}
use Rattle.restore.proofs.turns.Given as goal

abbrev pub invariant-loop-i : goal.invariant-loop-i
invariant-loop-i l = let round = round_of l.round l.store.run.now l.store.entries.now l.omitted in turns round l.i (length l.store.entries.now - l.i) Going ≡ turns round 0 (length l.store.entries.now) Going

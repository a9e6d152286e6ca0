-- Before each turn: the questions across the rows have come so far.
use Rattle.restore_across.specs.Across.{Going}
use Rattle.restore_across.specs.At.{At}
use Rattle.restore.proofs.across_turns.Given as goal

abbrev pub invariant-loop-i : goal.invariant-loop-i
invariant-loop-i l = At l.read.store.run.now l.read.store.entries.now l.read.omitted l.i (Going l.w)

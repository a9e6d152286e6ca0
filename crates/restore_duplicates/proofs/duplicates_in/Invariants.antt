-- Before each turn: the filter has the keys of the entries before the i-th, and none of those has a duplicate.
use Rattle.restore_duplicates.proofs.Passes.{Pass}
use Rattle.restore_duplicates.proofs.duplicates_in.Given as goal

abbrev pub invariant-loop-i : goal.invariant-loop-i
invariant-loop-i l = Pass l.entries l.last l.part l.bits l.i

-- Before each turn: the first that has a duplicate, of the parts before this one.
use Rattle.std.proofs.Common.{◌≡◌}
use Rattle.store.specs.Find.{first_where}
use Rattle.restore_duplicates.specs.Parts.{duplicates_below}
use Rattle.restore_duplicates.proofs.first_below.Given as goal

abbrev pub invariant-loop-part : goal.invariant-loop-part
invariant-loop-part g l = l.first ≡ first_where (duplicates_below l.entries l.last l.part) 0 l.best

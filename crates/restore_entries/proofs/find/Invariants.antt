-- Before each turn, the entry that is looked for is the first from the i-th on.
use Rattle.std.proofs.Common.{◌≡◌, ◌-◌}
use Rattle.store.specs.Find.{first_of}
use Rattle.restore_entries.proofs.find.Given as goal

abbrev pub invariant-loop-i : goal.invariant-loop-i
invariant-loop-i l = first_of l.entries l.wanted l.i (l.upto - l.i) ≡ first_of l.entries l.wanted l.from (l.upto - l.from)

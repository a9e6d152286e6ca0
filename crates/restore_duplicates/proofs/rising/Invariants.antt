-- Before each turn, the entry that is looked for is the first from the i-th on.
use Rattle.std.proofs.Common.{◌≡◌, ◌-◌, length}
use Rattle.store.specs.Find.{first_where}
use Rattle.restore_duplicates.specs.Above.{is_stop_at}
use Rattle.restore_duplicates.proofs.rising.Given as goal

abbrev pub invariant-loop-i : goal.invariant-loop-i
invariant-loop-i l = first_where (is_stop_at l.entries) l.i (length l.entries - l.i) ≡ first_where (is_stop_at l.entries) 0 (length l.entries)

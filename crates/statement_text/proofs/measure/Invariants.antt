-- `statement_text::measure` meets its contract. The invariant: what is measured and counted, and what the entries from the i-th on add, are those of all.
-- Assumes nothing.
use Prim.Native.Nat.{◌+◌, ◌-◌, ◌*◌, ◌≤◌}
use mathlib.Core.Path.{◌≡◌}
use lib.ListN.{length, drop}
use Rattle.sheet_entries.specs.Table.{entries_from}
use Rattle.statement_text.specs.Lines.{lines_from, count_from}
use Rattle.statement_text.proofs.measure.Given as goal

abbrev pub invariant-loop-i : goal.invariant-loop-i
invariant-loop-i l = (l.len ≤ 149 * l.i) × (l.contacts ≤ l.i)
    × (l.len + length (lines_from l.run (entries_from l.n l.records) (entries_from (l.n - l.i) (drop (6 * l.i) l.records))) ≡ length (lines_from l.run (entries_from l.n l.records) (entries_from l.n l.records)))
    × (l.contacts + count_from l.run (entries_from (l.n - l.i) (drop (6 * l.i) l.records)) ≡ count_from l.run (entries_from l.n l.records))

-- `statement_text::queued_in` meets its contract. The invariant: what is found, and what is among the entries from the i-th on, is what is among all.
-- Assumes nothing.
use Prim.Native.Nat.{◌+◌, ◌-◌, ◌*◌, ◌≤◌}
use mathlib.Core.Path.{◌≡◌}
use lib.ListN.{drop}
use Rattle.store.specs.Line.{queued_of}
use Rattle.sheet_entries.specs.Table.{entries_from}
use Rattle.statement_text.proofs.queued_in.Given as goal

abbrev pub invariant-loop-i : goal.invariant-loop-i
invariant-loop-i l = (l.found ≤ l.i) × (l.found + queued_of l.id.0 (entries_from (l.n - l.i) (drop (6 * l.i) l.records)) ≡ queued_of l.id.0 (entries_from l.n l.records))

-- `statement_text::how_many` meets its contract. The invariant: what is found, and what is among the entries from the i-th on, is what is among all.
-- Assumes nothing.
use Prim.Native.Nat.{◌+◌, ◌-◌, ◌*◌, ◌≤◌}
use mathlib.Core.Path.{◌≡◌}
use lib.ListN.{drop}
use Rattle.statement_text.specs.Text.{how_many}
use Rattle.sheet_entries.specs.Table.{entries_from}
use Rattle.statement_text.proofs.how_many.Given as goal

abbrev pub invariant-loop-i : goal.invariant-loop-i
invariant-loop-i l = (l.found ≤ l.i) × (l.found + how_many l.kind (entries_from (l.n - l.i) (drop (6 * l.i) l.records)) ≡ how_many l.kind (entries_from l.n l.records))

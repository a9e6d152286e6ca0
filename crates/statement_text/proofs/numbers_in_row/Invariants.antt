-- `statement_text::numbers_in_row` meets its contract. The invariant: the sum, and what the ranges from the i-th on hold from `lowest` on, are what all hold.
-- Assumes nothing.
use Prim.Native.Nat.{◌+◌, ◌-◌, ◌*◌, ◌^◌, ◌≤◌}
use mathlib.Core.Path.{◌≡◌}
use lib.ListN.{length, drop}
use Rattle.layout.specs.Layout.{group}
use Rattle.rows.specs.Rows.{range}
use Rattle.contact_lists.specs.Lists.{items}
use Rattle.numbers.specs.Sets.{size_from}
use Rattle.contact_checks.specs.Cells.{Rooms}
use Rattle.contact_checks.proofs.Fields.{ranges}
use Rattle.statement_text.proofs.numbers_in_row.Given as goal

abbrev pub invariant-loop-i : goal.invariant-loop-i
invariant-loop-i l = (l.first + 8 * l.i ≤ length l.row) × (l.sum ≤ l.i * 2 ^ 32) × Rooms (λ l. 8) (l.count - l.i) (drop (l.first + 8 * l.i) l.row)
    × (l.sum + size_from l.lowest (ranges (l.count - l.i) (drop (l.first + 8 * l.i) l.row)) ≡ size_from l.lowest (items (group range) l.count (drop l.first l.row)))

-- `contact_checks::canonical_in_row`: the ranges from the i-th on answer as all of them.
use Prim.Native.Nat.{◌+◌, ◌-◌, ◌*◌}
use mathlib.Core.Bool.{◌&&◌}
use lib.ListN.{drop}
use Rattle.layout.specs.Layout.{group}
use Rattle.rows.specs.Checks.{canonical, none_above}
use Rattle.rows.specs.Rows.{range}
use Rattle.contact_lists.specs.Lists.{items}
use Rattle.contact_checks.specs.Cells.{Rooms}
use Rattle.contact_checks.proofs.Turns.{Ordered}
use Rattle.contact_checks.proofs.Fields.{ranges}
use Rattle.contact_checks.proofs.canonical_in_row.Given as goal

abbrev pub invariant-loop-i : goal.invariant-loop-i
invariant-loop-i l = Rooms (λ l. 8) (l.count - l.i) (drop (l.first + 8 * l.i) l.row)
    × Ordered l.low l.high (ranges (l.count - l.i) (drop (l.first + 8 * l.i) l.row)) (canonical l.from (items (group range) l.count (drop l.first l.row)) && none_above l.high (items (group range) l.count (drop l.first l.row)))

-- `contact_checks::rising_in_row`: the numbers from the i-th on answer as all of them.
use Prim.Native.Nat.{ℕ, ◌+◌, ◌-◌, ◌*◌}
use mathlib.Core.List.{List}
use lib.ListN.{drop}
use Rattle.layout.specs.Form.{big_endian, u32}
use Rattle.rows.specs.Checks.{rising}
use Rattle.contact_lists.specs.Lists.{items}
use Rattle.contact_checks.specs.Cells.{cells, Rooms}
use Rattle.contact_checks.proofs.Turns.{Rises}
use Rattle.contact_checks.proofs.rising_in_row.Given as goal

abbrev pub numbers : ℕ → List ℕ → List ℕ
numbers = cells (λ l. 4) (big_endian 4)

abbrev pub invariant-loop-i : goal.invariant-loop-i
invariant-loop-i l = Rooms (λ l. 4) (l.count - l.i) (drop (l.first + 4 * l.i) l.row) × Rises l.low l.sent (numbers (l.count - l.i) (drop (l.first + 4 * l.i) l.row)) (rising 1 l.sent (items u32 l.count (drop l.first l.row)))

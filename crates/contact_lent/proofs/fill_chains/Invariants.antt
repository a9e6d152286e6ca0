-- `contact_lent::fill_chains` meets its contract. The invariant (`Filling`): i chains are copied, and the next one stands in the row at p.
use Prim.Native.Nat.{◌*◌}
use Rattle.layout.specs.Layout.{group}
use Rattle.rows.specs.Rows.{chain}
use Rattle.contact_lent.proofs.Fill.{Filling, padded}
use Rattle.contact_lent.proofs.fill_chains.Given as goal

abbrev pub invariant-loop-i : goal.invariant-loop-i
invariant-loop-i l = Filling (group chain) l.row (padded 51 (group chain)) l.first l.count l.initial.lent l.lent l.p (51 * l.i) l.i

-- `contact_lent::places_size` meets its contract. The invariant (`Sizing`): i places have n bytes, and with what is left that is the whole.
use Rattle.contact_lent.proofs.Sizes.{Sizing}
use Rattle.contact_lent.proofs.places_size.Given as goal

abbrev pub invariant-loop-i : goal.invariant-loop-i
invariant-loop-i g l = Sizing g.P.Place.BYTES g.P.Place.row_size l.lent l.count l.n l.i

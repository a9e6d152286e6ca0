-- `veil_contact::veil_each` meets its contract. The invariant: the items that are left stand in the row at `from`, and stored from `to` on give the whole.
use lib.ListN.{drop}
use Rattle.contact_lists.specs.Lists.{items}
use Rattle.veil_contact.specs.Veiled.{veiled_many}
use Rattle.veil_contact.proofs.Items.{Copying}
use Rattle.veil_contact.proofs.veil_each.Given as goal

abbrev pub invariant-loop : goal.invariant-loop
invariant-loop g l = Copying g.I.Item.form l.initial.out l.at (veiled_many g.I.Item.form (items g.I.Item.form l.end (drop l.initial.from l.row))) l.row l.end l.out l.to l.from l.counter

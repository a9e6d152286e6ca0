-- `contact_lists::items_at` meets its contract. The invariant: what is left of the items ends as the whole does.
use Prim.Native.Nat.{◌-◌}
use mathlib.Core.Path.{◌≡◌}
use Rattle.contact_lists.specs.Walked.{end_of}
use Rattle.contact_lists.proofs.items_at.Given as goal

abbrev pub invariant-loop : goal.invariant-loop
invariant-loop g l = end_of (g.I.Item.ends l.row) (l.count - l.counter) l.next ≡ end_of (g.I.Item.ends l.row) l.count l.first

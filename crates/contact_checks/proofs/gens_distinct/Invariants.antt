-- `contact_checks::gens_distinct` meets its contract. The invariant: the chains that are left answer as all of them.
use Prim.Native.Nat.{◌-◌}
use mathlib.Core.Path.{◌≡◌}
use lib.ListN.{length, drop}
use lib.Dec.{eqb}
use Rattle.rows.specs.Checks.{distinct}
use Rattle.contact_checks.specs.Cells.{gens, ChainsStand}
use Rattle.contact_checks.proofs.Turns.{Unseen}
use Rattle.contact_checks.proofs.gens_distinct.Given as goal

abbrev pub invariant-loop : goal.invariant-loop
invariant-loop l = ChainsStand l.padded (l.count - l.counter) (drop l.p l.bytes) × (length l.seen ≡ 256) × Unseen l.seen (gens l.padded (l.count - l.counter) (drop l.p l.bytes)) (distinct eqb (gens l.padded l.count (drop l.first l.bytes)))

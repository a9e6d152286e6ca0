-- `contact_checks::one_current` meets its contract. The invariant: the chains that are left answer as all of them.
use Prim.Native.Nat.{◌-◌, ◌≤◌}
use lib.ListN.{drop}
use Rattle.contact_checks.specs.Cells.{supersededs, one_current, ChainsStand}
use Rattle.contact_checks.proofs.Turns.{Currents}
use Rattle.contact_checks.proofs.one_current.Given as goal

abbrev pub invariant-loop : goal.invariant-loop
invariant-loop l = ChainsStand l.padded (l.count - l.counter) (drop l.p l.bytes) × (l.found ≤ 1) × Currents l.found (supersededs l.padded (l.count - l.counter) (drop l.p l.bytes)) (one_current 0 (supersededs l.padded l.count (drop l.first l.bytes)))

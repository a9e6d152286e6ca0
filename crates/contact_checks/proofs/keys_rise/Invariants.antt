-- `contact_checks::keys_rise`: the keys from the index on answer as all of them.
use mathlib.Core.List.{map}
use lib.ListN.{drop}
use Rattle.contact_checks.specs.Cells.{key_number, ascending}
use Rattle.contact_checks.proofs.Turns.{Ascends}
use Rattle.contact_checks.proofs.keys_rise.Given as goal

abbrev pub invariant-loop-place : goal.invariant-loop-place
invariant-loop-place l = Ascends l.low (drop l.place-index (map key_number l.keys)) (ascending 0 (map key_number l.keys))

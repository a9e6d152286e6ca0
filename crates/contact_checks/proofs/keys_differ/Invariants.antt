-- `contact_checks::keys_differ` meets its contract. The invariant: the keys behind are distinct, and the filter has them.
use mathlib.Core.List.{map}
use mathlib.Core.Bool.{true}
use mathlib.Core.Path.{◌≡◌}
use lib.ListN.{length, drop}
use lib.Dec.{eqb}
use Rattle.rows.specs.Checks.{distinct}
use Rattle.contact_checks.specs.Cells.{key_number}
use Rattle.contact_checks.proofs.Behind.{Has}
use Rattle.contact_checks.proofs.keys_differ.Given as goal

abbrev pub invariant-loop-i : goal.invariant-loop-i
invariant-loop-i l = let behind = drop l.i (map key_number l.keys) in
    (distinct eqb behind ≡ true) × Has l.bits behind × (length l.bits ≡ length l.initial.bits)

-- `contact_checks::canonical_lent`: the ranges from the i-th on answer as all of them.
use mathlib.Core.Bool.{◌&&◌}
use lib.ListN.{drop}
use Rattle.rows.specs.Checks.{canonical, none_above}
use Rattle.received.specs.Lent.{pairs}
use Rattle.contact_checks.proofs.Turns.{Ordered}
use Rattle.contact_checks.proofs.canonical_lent.Given as goal

abbrev pub invariant-loop-i : goal.invariant-loop-i
invariant-loop-i l = Ordered l.low l.high (drop l.i (pairs l.count l.list)) (canonical l.from (pairs l.count l.list) && none_above l.high (pairs l.count l.list))

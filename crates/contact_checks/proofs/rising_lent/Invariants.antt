-- `contact_checks::rising_lent`: the numbers from the index on answer as all of them.
use lib.ListN.{take, drop}
use Rattle.rows.specs.Checks.{rising}
use Rattle.contact_checks.proofs.Turns.{Rises}
use Rattle.contact_checks.proofs.rising_lent.Given as goal

abbrev pub invariant-loop-n : goal.invariant-loop-n
invariant-loop-n l = Rises l.low l.sent (drop l.n-index (take l.count l.list)) (rising 1 l.sent (take l.count l.list))

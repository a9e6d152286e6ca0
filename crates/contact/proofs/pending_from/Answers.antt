-- `contact::pending_from` meets its contract: the two runs copied, or zeros.
use mathlib.Core.Path.{subst}
use native.Mathlib.Omega.{arith}
use Rattle.contact.specs.Check.{PendingRuns}
use Rattle.contact.proofs.pending_from.Goals as goal

pub returns-in_default : goal.returns-in_default
returns-in_default c = rw c.in_default.is

pub copy_array-requires : goal.copy_array-requires
copy_array-requires c = (omega arith, (subst (PendingRuns _) c.in-Some.is c.requires).0)

pub copy_array-requires-2 : goal.copy_array-requires-2
copy_array-requires-2 c = (omega arith, (subst (PendingRuns _) c.in-Some.is c.requires).1)

pub returns : goal.returns
returns c = rw (c.in-Some.is, c.copy_array.ensures, c.copy_array-2.ensures)

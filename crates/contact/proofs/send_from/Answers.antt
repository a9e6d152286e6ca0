-- `contact::send_from` meets its contract: the numbers and the key copied, or zeros.
use mathlib.Core.Path.{subst}
use native.Mathlib.Omega.{arith}
use Rattle.contact.specs.Check.{SendRuns}
use Rattle.contact.proofs.send_from.Goals as goal

pub returns-in_default : goal.returns-in_default
returns-in_default c = rw c.in_default.is

pub copy_array-requires : goal.copy_array-requires
copy_array-requires c = (omega arith, subst (SendRuns _) c.in-Some.is c.requires)

pub returns : goal.returns
returns c = rw (c.in-Some.is, c.copy_array.ensures)

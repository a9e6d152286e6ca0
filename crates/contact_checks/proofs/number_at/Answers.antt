-- `contact_checks::number_at` meets its contract.
use borrow.Author.Rules.{rules}
use Rattle.contact_checks.proofs.number_at.Goals as goal

pub returns : goal.returns
returns c = (rw (← c.from.ensures, ← c.be32.ensures.0), search rules)

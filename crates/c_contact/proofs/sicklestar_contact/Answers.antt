-- `c_contact::sicklestar_contact` meets its contract: what `rewrite_contact` answered, as a number.
-- Assumes nothing.
use borrow.Author.Rules.{rules}
use Rattle.c_contact.proofs.Answers.{answered}
use Rattle.c_contact.proofs.sicklestar_contact.Goals as goal

pub returns : goal.returns
returns c = answered (search rules) c.zero_or.ensures c.rewrite_contact.ensures.0

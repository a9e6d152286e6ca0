-- `contact_lent::put_ranges` meets its contract: ranges are written as their numbers are.
use borrow.Author.Rules.{rules}
use Rattle.contact_lent.proofs.Numbers.{pairs-print}
use Rattle.contact_lent.proofs.put_ranges.Goals as goal

pub returns : goal.returns
returns c = (search rules, rw (pairs-print c.args.count c.args.list.now c.requires.0) c.put_numbers.ensures.1)

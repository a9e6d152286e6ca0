-- `contact_lent::fill_ranges` meets its contract: ranges stand in a row as their numbers do.
use borrow.Author.Rules.{rules}
use Rattle.contact_lent.proofs.Numbers.{items-ranges, listed-ranges}
use Rattle.contact_lent.proofs.fill_ranges.Goals as goal

pub fill_numbers-requires : goal.fill_numbers-requires
fill_numbers-requires c = (listed-ranges _ _ _ c.requires.0, search rules)

pub returns : goal.returns
returns c = rw (← items-ranges) c.fill_numbers.ensures

-- `filter::mask_of` meets its contract.
use Rattle.filter.specs.Filter as filter
use Rattle.filter.proofs.mask_of.Goals as goal

pub returns : goal.returns
unfolding filter.mask_of
returns c = rw (c.bit_of.ensures, c.bit_of-2.ensures, c.bit_of-3.ensures, c.bit_of-4.ensures)

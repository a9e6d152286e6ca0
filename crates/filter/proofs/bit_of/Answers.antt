-- `filter::bit_of` meets its contract.
use Rattle.std.proofs.Common.{refl}
use Rattle.filter.specs.Filter as filter
use Rattle.filter.proofs.bit_of.Goals as goal

pub returns : goal.returns
unfolding filter.bit_of
returns c = refl

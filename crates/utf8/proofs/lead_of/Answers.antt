-- `utf8::lead_of` meets its contract: the code's table is the definition's.
use Rattle.std.proofs.Common.{refl}
use Rattle.utf8.specs.Lead as table
use Rattle.utf8.proofs.lead_of.Goals as goal

pub lead_in-requires : goal.lead_in-requires
unfolding table.leads
lead_in-requires c = refl

-- `contact_checks::chains_in_row` meets its contract.
use mathlib.Core.Bool.{false}
use Rattle.contact_checks.proofs.Chains.{asked_of, chains-stand}
use Rattle.contact_checks.proofs.chains_in_row.Goals as goal

pub one_current-requires : goal.one_current-requires
one_current-requires c = (chains-stand _ _ _ c.requires).all-supersededs.rooms

pub gens_distinct-requires : goal.gens_distinct-requires
gens_distinct-requires c = (chains-stand _ _ _ c.requires).all-gens.rooms

pub returns : goal.returns
returns c = asked_of false _ _ _ (chains-stand _ _ _ c.requires) c.one_current.ensures c.gens_distinct.ensures

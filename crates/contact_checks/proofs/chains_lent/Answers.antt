-- `contact_checks::chains_lent` meets its contract.
use mathlib.Core.Bool.{true}
use Rattle.contact_checks.proofs.Chains.{asked_of, chains-lie}
use Rattle.contact_checks.proofs.chains_lent.Goals as goal

pub one_current-requires : goal.one_current-requires
one_current-requires c = (chains-lie _ _ c.requires).all-supersededs.rooms

pub gens_distinct-requires : goal.gens_distinct-requires
gens_distinct-requires c = (chains-lie _ _ c.requires).all-gens.rooms

pub returns : goal.returns
returns c = asked_of true _ _ _ (chains-lie _ _ c.requires) c.one_current.ensures c.gens_distinct.ensures

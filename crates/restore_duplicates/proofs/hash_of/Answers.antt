-- `restore_duplicates::hash_of` meets its contract.
use Rattle.restore_duplicates.specs.Keys as keys
use Rattle.restore_duplicates.proofs.hash_of.Goals as goal

pub returns : goal.returns
unfolding keys.key_hash
returns c = cc

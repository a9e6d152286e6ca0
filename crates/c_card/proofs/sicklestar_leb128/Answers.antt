-- `c_card::sicklestar_leb128` meets its contract: what `leb128` answered and left is what the definition stores.
-- Assumes nothing.
use Rattle.c_card.specs.Faces.{length_or, write_leb128}
use Rattle.c_card.proofs.Faces.{answered}
use Rattle.c_card.proofs.sicklestar_leb128.Goals as goal

pub returns : goal.returns
unfolding write_leb128
returns c = answered length_or c.length_or.ensures c.leb128.ensures

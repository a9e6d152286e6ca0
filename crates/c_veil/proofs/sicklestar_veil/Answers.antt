-- `c_veil::sicklestar_veil` meets its contract: what `veil` answered, as a number.
use Rattle.c_card.specs.Faces.{zero_or}
use Rattle.c_card.proofs.Faces.{answered}
use Rattle.c_veil.proofs.sicklestar_veil.Goals as goal

pub returns : goal.returns
returns c = answered zero_or c.zero_or.ensures c.veil.ensures

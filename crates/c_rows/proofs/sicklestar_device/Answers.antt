-- `c_rows::sicklestar_device` meets its contract: what `rewrite_device` answered, as a number.
-- Assumes nothing.
use Rattle.c_card.specs.Faces.{zero_or}
use Rattle.c_card.proofs.Faces.{answered}
use Rattle.c_rows.proofs.sicklestar_device.Goals as goal

pub returns : goal.returns
returns c = answered zero_or c.zero_or.ensures c.rewrite_device.ensures

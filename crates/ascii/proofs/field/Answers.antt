-- `ascii::field` meets its contract: the part is what stands before the first space.
use Rattle.ascii.proofs.Words.{first_field}
use Rattle.ascii.proofs.field.Goals as goal

pub returns : goal.returns
returns c = first_field _ _ c.until.ensures.0

-- `contact::CheckedRow::contact` meets its contract: the runs of a row that was read lie in it.
use Rattle.contact.proofs.Checked.{runs-inside}
use Rattle.contact.proofs.CheckedRow.contact.Goals as goal

pub contact_from-requires : goal.contact_from-requires
contact_from-requires c = runs-inside c.args.self

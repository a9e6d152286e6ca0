-- `restore_across::owner_in` meets its contract.
use Rattle.layout.proofs.At.{typed}
use Rattle.restore_across.proofs.Read.{owner-read}
use Rattle.restore_across.proofs.owner_in.Goals as goal

pub returns : goal.returns
returns c = owner-read _ (typed c.args.row.now c.type_inv.row) c.sent_in-at.ensures

-- `contact_lists::skipped_at` meets its contract: the items, one after the other, end where the list does.
use Rattle.layout.specs.Layout.{group}
use Rattle.layout.proofs.At.{typed}
use Rattle.rows.specs.Rows.{skipped}
use Rattle.rows.proofs.Lawful.{skipped-lawful}
use Rattle.contact_lists.proofs.Ends.{listed, items_end}
use Rattle.contact_lists.proofs.skipped_at.Goals as goal

pub returns : goal.returns
returns c = listed (group skipped) skipped-lawful c.args.row.now (typed _ c.type_inv.row) c.args.at _ (λ n first h. items_end (group skipped) c.args.row.now skipped-lawful (typed _ c.type_inv.row) n first h) c.items_at.result c.items_at.ensures

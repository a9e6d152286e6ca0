-- `contact_lists::chains_at` meets its contract: the items, one after the other, end where the list does.
use Rattle.layout.specs.Layout.{group}
use Rattle.layout.proofs.At.{typed}
use Rattle.rows.specs.Rows.{chain}
use Rattle.rows.proofs.Lawful.{chain-lawful}
use Rattle.contact_lists.proofs.Ends.{listed, items_end}
use Rattle.contact_lists.proofs.chains_at.Goals as goal

pub returns : goal.returns
returns c = listed (group chain) chain-lawful c.args.row.now (typed _ c.type_inv.row) c.args.at _ (λ n first h. items_end (group chain) c.args.row.now chain-lawful (typed _ c.type_inv.row) n first h) c.items_at.result c.items_at.ensures

-- `contact_lists::ranges_at` meets its contract: the items end where a run of all their bytes does.
use Rattle.layout.specs.Form.{times}
use Rattle.layout.specs.Layout.{group}
use Rattle.layout.proofs.At.{typed}
use Rattle.rows.specs.Rows.{range}
use Rattle.rows.proofs.Lawful.{range-lawful}
use Rattle.contact_lists.proofs.Ends.{listed}
use Rattle.contact_lists.proofs.Plain.{run_end, ranges-run}
use Rattle.contact_lists.proofs.ranges_at.Goals as goal

pub returns : goal.returns
returns c = listed (group range) range-lawful c.args.row.now (typed _ c.type_inv.row) c.args.at _ (λ n first h. run_end (times (group range) n) (ranges-run n) _ _) c.plain_at.result c.plain_at.ensures

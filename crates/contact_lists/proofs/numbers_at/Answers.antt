-- `contact_lists::numbers_at` meets its contract: the items end where a run of all their bytes does.
use Rattle.layout.specs.Form.{times, u32}
use Rattle.layout.proofs.At.{typed}
use Rattle.layout.proofs.Front.{number-lawful}
use Rattle.contact_lists.proofs.Ends.{listed}
use Rattle.contact_lists.proofs.Plain.{run_end, numbers-run}
use Rattle.contact_lists.proofs.numbers_at.Goals as goal

pub returns : goal.returns
returns c = listed u32 (number-lawful 4) c.args.row.now (typed _ c.type_inv.row) c.args.at _ (λ n first h. run_end (times u32 n) (numbers-run n) _ _) c.plain_at.result c.plain_at.ensures

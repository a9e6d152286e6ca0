-- `contact_lent::fill_skipped` meets its contract: skipped keys fill their places, so that those of a row are one run of it.
use borrow.Author.Rules.{rules}
use Rattle.layout.specs.Layout.{group}
use Rattle.layout.proofs.At.{typed}
use Rattle.rows.specs.Rows.{skipped}
use Rattle.rows.proofs.Lawful.{skipped-lawful}
use Rattle.contact_lent.proofs.Offsets.{Run, run}
use Rattle.contact_lent.proofs.Records.{length-skipped}
use Rattle.contact_lent.proofs.fill_skipped.Goals as goal

pub put_run-requires : goal.put_run-requires
put_run-requires c =
    let keys : let a = c.args in Run 46 (group skipped) skipped-lawful length-skipped a.row.now a.first a.count = let a = c.args in run 46 (group skipped) skipped-lawful length-skipped a.row.now a.first a.count (typed a.row.now c.type_inv.row) c.requires.0 in
    (search rules, keys.inside)

pub returns : goal.returns
returns c =
    let keys : let a = c.args in Run 46 (group skipped) skipped-lawful length-skipped a.row.now a.first a.count = let a = c.args in run 46 (group skipped) skipped-lawful length-skipped a.row.now a.first a.count (typed a.row.now c.type_inv.row) c.requires.0 in
    rw (← keys.bytes) c.put_run.ensures.1.now-is

-- `sheet_entries::restore` meets its contract: the table holds the entries of the records, and they are lent.
-- Assumes nothing.
use Rattle.sheet_entries.proofs.Filled.{Filled, all-lent}
use Rattle.sheet_entries.proofs.restore.Goals as goal

pub returns : goal.returns
returns c =
    let f : Filled c.args.lines c.args.records.now c.no_entry-table.result c.fill-count.result c.fill-count.new.table = record { counted = c.fill-count.ensures.0; laid = c.fill-count.ensures.1 } in
    rw (all-lent f) at c.restore.ensures

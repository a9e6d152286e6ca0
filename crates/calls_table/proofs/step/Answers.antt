-- `calls_table::step` meets its contract: what is lent of the filled table is the entries of the records.
-- Assumes nothing.
use Rattle.sheet_entries.proofs.Filled.{all-lent}
use Rattle.calls_table.proofs.step.Goals as goal

pub returns : goal.returns
returns c =
    let same = all-lent (record { counted = c.fill-count.ensures.0; laid = c.fill-count.ensures.1 }) in
    rw same at c.step.ensures

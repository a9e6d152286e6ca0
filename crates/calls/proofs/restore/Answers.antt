-- `calls::restore` meets its contract: the parts together.
-- Assumes nothing.
use Rattle.calls.proofs.Ends.{restore-is}
use Rattle.calls.proofs.restore.Goals as goal

pub returns : goal.returns
returns c =
    let a = c.args in restore-is a.store.run.now a.store.entries.now a.mark c.restore-answer.result c.restored.result c.restore-answer.ensures c.restored.ensures

-- `calls_session::restore` meets its contract: the call on the store that its numbers say.
-- Assumes nothing.
use mathlib.Core.Path.{refl}
use Rattle.calls_session.specs.Session.{input_in}
use Rattle.calls_session.proofs.Store.{its-entries}
use Rattle.calls_session.proofs.Steps.{restore-ran}
use Rattle.calls_session.proofs.restore.Goals as goal

pub returns : goal.returns
returns c =
    let a = c.args in
    λ l out.
    restore-ran a.session a.run.now a.records.now a.six.now c.restore-left.result (input_in a.session a.run.now a.records.now l out) _ c.number_at-start.ensures c.number_at-len.ensures
    c.number_at-first.ensures c.number_at-n.ensures c.run_at.ensures (its-entries c.number_at-first.result c.number_at-n.result a.records.now c.records_from.ensures) (c.restore-left.ensures.left _ refl) (c.restored.ensures _ _ l out)

-- `calls::facts_for` meets its contract: the parts together.
-- Assumes nothing.
use Rattle.contact.specs.Contact.{read_in}
use Rattle.calls.proofs.Ends.{of-store}
use Rattle.calls.proofs.facts_for.Goals as goal

pub returns : goal.returns
returns c =
    let a = c.args in
    λ out. of-store a.call a.mark a.store.run.now a.store.entries.now a.contact (read_in a.lists) out
    c.id_for-id.result c.asking_for-asking.result c.passes-answer.result c.counts_queued-counted.result c.queued_of-queued.result c.facts_as.result
    c.id_for-id.ensures c.asking_for-asking.ensures c.passes-answer.ensures c.counts_queued-counted.ensures c.queued_of-queued.ensures c.facts_as.ensures

-- `calls_store::passes` meets its contract: the parts together.
-- Assumes nothing.
use mathlib.Core.Path.{◌∙◌}
use Rattle.contact.specs.Contact.{read_in}
use Rattle.calls_store.specs.Passes.{passed_as}
use Rattle.calls_store.proofs.Still.{passes-is}
use Rattle.calls_store.proofs.passes.Goals as goal

pub returns : goal.returns
returns c =
    let a = c.args in
    c.passed_as.ensures
    ∙ (λ i. passed_as (c.contact_in-sought.ensures i)
    (passes-is a.store.run.now a.store.entries.now a.id a.contact (read_in a.lists) a.asking
    c.is_writable_for-writable.result c.contact_in-sought.result c.omitted_for-omitted.result c.questions-end.result c.unacked_count-count.result c.queued_among-among.result c.answer-passed.result
    c.is_writable_for-writable.ensures c.omitted_for-omitted.ensures c.questions-end.ensures c.unacked_count-count.ensures c.queued_among-among.ensures c.answer-passed.ensures c.contact_in-sought.ensures i))

-- `calls::step` meets its contract: the parts together.
-- Assumes nothing.
use mathlib.Core.Path.{subst}
use Rattle.contact.specs.Contact.{Lists, held_in}
use Rattle.calls_dispatch.specs.Dispatch.{input_of, OfStore}
use Rattle.calls_dispatch.proofs.Steps.{stepped}
use Rattle.calls.proofs.step.Goals as goal

pub returns : goal.returns
returns c =
    let a = c.args in
    let facts = subst (λ (l : Lists). OfStore a.call (input_of a.mark a.store.run.now a.store.entries.now a.contact l a.out.now) c.facts_for-facts.result) c.read.ensures (c.facts_for-facts.ensures a.out.now) in
    (stepped a.mark a.store.run.now a.store.entries.now a.contact (held_in a.lists.now) a.out.now c.step.ensures.0 facts, c.step.ensures.1)

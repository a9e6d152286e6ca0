-- `calls_session::step` meets its contract: the call on the session's store.
-- Assumes nothing.
use Rattle.contact.specs.Contact.{held_in}
use Rattle.calls_dispatch.specs.Dispatch.{call_of}
use Rattle.calls_session.proofs.Store.{its-entries}
use Rattle.calls_session.proofs.Steps.{step_left}
use Rattle.calls_session.proofs.step.Goals as goal

pub returns : goal.returns
returns c =
    let a = c.args in (
      step_left a.session a.run.now a.records.now c.run_at.ensures (its-entries a.session.first a.session.n a.records.now c.records_from.ensures)
          (call_of a.call)
          (held_in a.lists.now)
          a.out.now
          c.step-left.ensures.0
          (c.numbers_of.ensures _)
          c.next.ensures,
      c.step-left.ensures.1,
    )

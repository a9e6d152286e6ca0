-- `calls_open::take` meets its contract: 39, and then the number after the last one sent.
-- Assumes nothing.
use Prim.Native.Nat.{◌+◌}
use mathlib.Core.Path.{ap}
use native.Mathlib.Omega.{arith}
use borrow.Author.Tests.{lt-ltb, le-ltb}
use Rattle.layout.specs.Layout.{accepted}
use Rattle.contact.specs.declared.Contact.{Contact}
use Rattle.calls_step.specs.Proved.{HIGHEST}
use Rattle.calls_open.specs.declared.Answer.TheVariants.{Number}
use Rattle.calls_open.specs.Calls.{left}
use Rattle.calls_open.proofs.take.Goals as goal

pub returns-then-contact-eq4294967295 : goal.returns-then-contact-eq4294967295
returns-then-contact-eq4294967295 c = rw (le-ltb c.args.contact.sent_msgno HIGHEST (omega arith)) c.answered.ensures

pub returns : goal.returns
returns c =
    let a = c.args in
    let n = a.contact.sent_msgno in
    rw (lt-ltb n HIGHEST (omega arith)) (ap (λ (x : Contact). left x a.mark (accepted (Number (n + 1)))) c.renumbered.ensures)

-- `veil::veil` meets its contract: kind by kind.
use mathlib.Core.Path.{sym, ◌∙◌}
use native.Mathlib.Omega.{arith}
use Rattle.layout.proofs.At.{typed}
use Rattle.veil.proofs.Queued.{queued-text}
use Rattle.veil.proofs.Courier.{courier-text}
use Rattle.veil.proofs.ByKind.{of-device, of-contact, of-queued, of-courier, of_none}
use Rattle.veil.proofs.veil.Goals as goal

pub returns-in-0 : goal.returns-in-0
returns-in-0 c = c.veil_device.ensures ∙ sym (of-device _ _ _ c.in-0.is)

pub returns-in-1 : goal.returns-in-1
returns-in-1 c = c.veil_contact.ensures ∙ sym (of-contact _ _ _ c.in-1.is)

pub veil_sealed-requires : goal.veil_sealed-requires
veil_sealed-requires c = queued-text c.args.version c.args.row.now (typed c.args.row.now c.type_inv.row)

pub returns-in-2 : goal.returns-in-2
returns-in-2 c = c.veil_sealed.ensures ∙ sym (of-queued _ _ _ c.in-2.is)

pub veil_sealed-requires-in-3 : goal.veil_sealed-requires-in-3
veil_sealed-requires-in-3 c = courier-text c.args.version c.args.row.now (typed c.args.row.now c.type_inv.row)

pub returns-in-3 : goal.returns-in-3
returns-in-3 c = c.veil_sealed-in-3.ensures ∙ sym (of-courier _ _ _ c.in-3.is)

pub returns-in_default : goal.returns-in_default
returns-in_default c =
    sym (of_none c.args.version c.args.row.now c.args.out.now {kind = c.args.kind} (λ e. omega arith) (λ e. omega arith) (λ e. omega arith) (λ e. omega arith))

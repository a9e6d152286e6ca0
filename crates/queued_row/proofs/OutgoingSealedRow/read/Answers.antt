-- `Outgoing::read` meets its contract: what `read_queued` read, in parts.
use Rattle.std.proofs.Common.{rules, ◌≡◌, Err}
use Rattle.sealed.proofs.Made.{made-onto, made-no}
use Rattle.queued_row.specs.declared.QueuedRead.{QueuedRead}
use Rattle.queued_row.proofs.OutgoingSealedRow.read.Goals as goal

pub returns-in_err-read : goal.returns-in_err-read
returns-in_err-read c =
    let no : c.from_residual.result ≡ Err c.in_err-read.field-0.0 = search rules in
    rw no (made-no _ _ _ c.in_err-read.ensures)

pub returns : goal.returns
returns c = made-onto _ (λ (x : QueuedRead). (x.sealed_at, x.queued)) _ c.in_ok-read.ensures

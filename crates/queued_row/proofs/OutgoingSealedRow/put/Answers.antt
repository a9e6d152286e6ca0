-- `Outgoing::put` meets its contract: one writer behind another.
use mathlib.Core.Path.{refl}
use lib.ListN.{length}
use Rattle.put.proofs.Put.{◌then◌, whole_run}
use Rattle.sealed.proofs.Text.{wrote_as}
use Rattle.queued_row.proofs.Image.{image-is}
use Rattle.queued_row.proofs.OutgoingSealedRow.put.Goals as goal

pub returns : goal.returns
returns c =
    let text = c.args.sealed.now in
    wrote_as (image-is c.args.self c.typed.ensures text)
    (c.put_be-envelope_at.ensures.1 then (c.put_own_envelope-gen_at.ensures.1 then (c.put_byte-idx_at.ensures.1 then (
    c.put_leb128-sealed_at.ensures.1 then whole_run {s = text} (length text) refl c.put_run.ensures.1
    ))))

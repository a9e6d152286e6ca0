-- `envelope::put_body` meets its contract: one writer behind another.
use mathlib.Core.Path.{refl}
use lib.ListN.{length}
use Rattle.put.proofs.Put.{◌then◌, whole_run}
use Rattle.sealed.proofs.Text.{wrote_as}
use Rattle.envelope.proofs.Image.{image-is}
use Rattle.envelope.proofs.put_body.Goals as goal

pub returns : goal.returns
returns c =
    let text = c.args.ct.now in
    let w =
    c.put_array-c_at.ensures.1 then (c.put_array-expiry_at.ensures.1 then (rw c.from.ensures at c.put_be-copies_at.ensures.1 then (
    c.put_byte-ct_at.ensures.1 then whole_run {s = text} (length text) refl c.put_run.ensures.1
    ))) in
    wrote_as (image-is c.args.envelope c.typed.ensures text) w

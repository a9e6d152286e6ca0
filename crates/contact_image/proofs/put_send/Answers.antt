-- `contact_image::put_send` meets its contract: the flag alone, or the flag and one writer behind another.
use Rattle.put.proofs.Put.{◌then◌}
use Rattle.sealed.proofs.Text.{wrote_as}
use Rattle.contact_image.proofs.Bytes.{send-none, send-some}
use Rattle.contact_image.proofs.put_send.Goals as goal

pub returns-in_default : goal.returns-in_default
returns-in_default c = wrote_as (send-none c.args.contact c.in_default.is) c.put_byte.ensures.1

pub returns : goal.returns
returns c =
    let w = c.put_byte-gen_at.ensures.1 then (c.put_byte-dir_at.ensures.1 then (c.put_byte-idx_at.ensures.1 then (c.put_be-key_at.ensures.1 then c.put_array.ensures.1))) in
    wrote_as (send-some c.args.contact c.typed.ensures.1 c.in-Some.is) (rw (← c.from.ensures, ← c.from-2.ensures) w)

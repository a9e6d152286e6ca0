-- `contact_image::put_keys` meets its contract: one writer behind another.
use Rattle.put.proofs.Put.{◌then◌}
use Rattle.sealed.proofs.Text.{wrote_as}
use Rattle.contact_image.proofs.Bytes.{keys-is}
use Rattle.contact_image.proofs.put_keys.Goals as goal

pub returns : goal.returns
returns c =
    wrote_as (keys-is c.args.contact)
    (c.put_array-door_at.ensures.1 then (c.put_array-route_key_at.ensures.1 then (c.put_array-resume_index_at.ensures.1 then (c.put_be-chain_key_at.ensures.1 then (c.put_array-sent_msgno_at.ensures.1 then rw c.from.ensures at c.put_be.ensures.1)))))

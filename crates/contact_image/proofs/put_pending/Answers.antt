-- `contact_image::put_pending` meets its contract: the flag alone, or the flag and one writer behind another.
use Rattle.put.proofs.Put.{◌then◌}
use Rattle.sealed.proofs.Text.{wrote_as}
use Rattle.contact_image.proofs.Bytes.{pending-none, pending-some}
use Rattle.contact_image.proofs.put_pending.Goals as goal

pub returns-then-contact : goal.returns-then-contact
returns-then-contact c =
    wrote_as (pending-some c.args.contact c.if-contact.true) (c.put_byte-chain_key_at.ensures.1 then (c.put_array-msg_seed_at.ensures.1 then c.put_array.ensures.1))

pub returns : goal.returns
returns c = wrote_as (pending-none c.args.contact c.if-contact.false) c.put_byte.ensures.1

-- `contact_image::put_chained` meets its contract: one writer behind another.
use Rattle.contact.specs.Contact.{read_in}
use Rattle.put.proofs.Put.{◌then◌}
use Rattle.sealed.proofs.Text.{wrote_as}
use Rattle.contact_image.proofs.Bytes.{chained_is}
use Rattle.contact_image.proofs.put_chained.Goals as goal

pub returns : goal.returns
returns c =
    wrote_as (chained_is c.args.contact (read_in c.args.lists) c.lists_typed.ensures.1 c.requires.0)
    (c.put_pending-send_at.ensures.1 then (c.put_send-chain_count_at.ensures.1 then (c.put_count-chains_at.ensures.1 then (c.put_chains-skipped_count_at.ensures.1 then (c.put_count-skipped_at.ensures.1 then c.put_skipped.ensures.1)))))

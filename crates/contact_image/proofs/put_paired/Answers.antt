-- `contact_image::put_paired` meets its contract: one writer behind another.
use Rattle.put.proofs.Put.{◌then◌, whole_run}
use Rattle.sealed.proofs.Text.{wrote_as}
use Rattle.contact_image.proofs.Bytes.{paired_is}
use Rattle.contact_image.proofs.put_paired.Goals as goal

pub returns : goal.returns
returns c =
    let its = c.args.contact in
    let th = whole_run {s = its.th} 48 c.typed.ensures.1.th c.put_run-nonce_b_at.ensures.1 in
    wrote_as (paired_is its) (c.put_codes-pair_id_at.ensures.1 then (c.put_array-th_at.ensures.1 then (th then (c.put_array-card_len_at.ensures.1 then c.put_peer.ensures.1))))

-- `veil_contact::veil_keys` meets its contract: one writer behind another.
use Rattle.put.proofs.Put.{◌then◌}
use Rattle.veil_contact.proofs.Keys.{keys-print}
use Rattle.veil_contact.proofs.veil_keys.Goals as goal

pub returns : goal.returns
returns c =
    let w = c.put_zeros-resume_index_at.ensures.1 then (c.put_be-chain_key_at.ensures.1 then (c.put_zeros-sent_msgno_at.ensures.1 then rw c.from.ensures at c.put_be.ensures.1)) in
    rw (keys-print c.args.k) (w.next-is, w)

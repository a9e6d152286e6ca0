-- `device_row::put_device` meets its contract: one writer behind another.
use Rattle.put.proofs.Put.{◌then◌}
use Rattle.device_row.proofs.Image.{image-is}
use Rattle.device_row.proofs.put_device.Goals as goal

pub returns : goal.returns
returns c =
    let w = rw c.from.ensures at c.put_be-beacon_key_at.ensures.1 then (c.put_array-next_contact_at.ensures.1 then (c.put_be-read_receipts_at.ensures.1 then (c.put_byte-courier_at.ensures.1 then c.put_courier.ensures.1))) in
    rw (image-is c.args.device c.typed.ensures, ← c.from-2.ensures) (w.next-is, w)

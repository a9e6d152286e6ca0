-- `contact_image::put_counters` meets its contract: one number behind another.
use native.Mathlib.Omega.{arith}
use Rattle.put.proofs.Put.{◌then◌}
use Rattle.contact_image.proofs.put_counters.Goals as goal

pub returns : goal.returns
returns c =
    let w = rw c.from.ensures at c.put_be-peer_read_at.ensures.1 then (rw c.from-2.ensures at c.put_be-read_marked_at.ensures.1 then (rw c.from-3.ensures at c.put_be-contiguous_at.ensures.1 then rw c.from-4.ensures at c.put_be.ensures.1)) in
    (omega (arith, c.put_be-peer_read_at.ensures.0, c.put_be-read_marked_at.ensures.0, c.put_be-contiguous_at.ensures.0, c.put_be.ensures.0), w)

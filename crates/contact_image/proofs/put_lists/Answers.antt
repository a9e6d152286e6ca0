-- `contact_image::put_lists` meets its contract: one list behind another.
use native.Mathlib.Omega.{arith}
use Rattle.put.proofs.Put.{◌then◌}
use Rattle.sealed.proofs.Text.{wrote_as}
use Rattle.contact.specs.Contact.{read_in}
use Rattle.contact_image.proofs.Bytes.{lists_are}
use Rattle.contact_image.proofs.put_lists.Goals as goal

pub returns : goal.returns
returns c =
    let w = wrote_as (lists_are c.args.contact (read_in c.args.lists) c.requires.0)
    (c.put_count-above_at.ensures.1 then (c.put_ranges-unacked_count_at.ensures.1 then (c.put_count-unacked_at.ensures.1 then (c.put_numbers-expired_count_at.ensures.1 then (c.put_count-expired_at.ensures.1 then c.put_ranges.ensures.1))))) in
    (omega (arith, c.put_count-above_at.ensures.0, c.put_ranges-unacked_count_at.ensures.0, c.put_count-unacked_at.ensures.0, c.put_numbers-expired_count_at.ensures.0, c.put_count-expired_at.ensures.0, c.put_ranges.ensures.0), w.1)

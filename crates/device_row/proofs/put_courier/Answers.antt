-- `device_row::put_courier` meets its contract: one writer behind another.
use borrow.Author.Rules.{rules}
use Rattle.put.proofs.Put.{◌then◌}
use Rattle.device_row.specs.Row as spec
use Rattle.device_row.proofs.put_courier.Goals as goal

pub returns : goal.returns
unfolding spec.courier_part
returns c =
    let w = c.put_byte-copies_at.ensures.1 then (c.put_byte-lifetime_min_at.ensures.1 then rw c.from-2.ensures at c.put_be.ensures.1) in
    (search rules, rw c.from.ensures at w)

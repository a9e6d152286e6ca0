-- `courier_row::put_tombstone` meets its contract: one writer behind another.
use Rattle.put.proofs.Put.{◌then◌}
use Rattle.sealed.proofs.Text.{wrote_as}
use Rattle.courier_row.proofs.Image.{tombstone-is}
use Rattle.courier_row.proofs.put_tombstone.Goals as goal

pub returns : goal.returns
returns c =
    wrote_as (tombstone-is c.args.held c.typed.ensures)
    (rw c.from.ensures at c.put_byte-tag_at.ensures.1 then (c.put_array-s_at.ensures.1 then (c.put_array-expiry_at.ensures.1 then rw c.from-2.ensures at c.put_be.ensures.1)))

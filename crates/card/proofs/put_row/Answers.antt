-- `card::put_row` meets its contract: one writer behind another.
use native.Mathlib.Omega.{arith}
use Rattle.put.proofs.Put.{◌then◌, wrote-long}
use Rattle.card.proofs.Image.{image-is, length-parts}
use Rattle.card.proofs.put_row.Goals as goal

pub put_byte-beacon_day_at-requires : goal.put_byte-beacon_day_at-requires
put_byte-beacon_day_at-requires c = omega (arith, length-parts c.args.card c.typed.ensures c.requires.0)

pub put_be-beacon_key_at-requires : goal.put_be-beacon_key_at-requires
put_be-beacon_key_at-requires c =
    omega (arith, length-parts c.args.card c.typed.ensures c.requires.0, wrote-long c.put_byte-beacon_day_at.ensures.1)

pub put_array-name_len_at-requires : goal.put_array-name_len_at-requires
put_array-name_len_at-requires c =
    omega (arith, length-parts c.args.card c.typed.ensures c.requires.0, wrote-long c.put_byte-beacon_day_at.ensures.1, wrote-long c.put_be-beacon_key_at.ensures.1, c.put_be-beacon_key_at.ensures.0, c.put_byte-beacon_day_at.ensures.0, c.requires.1)

pub put_name-requires : goal.put_name-requires
put_name-requires c = (
  c.requires.0,
  omega (
    arith,
    length-parts c.args.card c.typed.ensures c.requires.0,
    wrote-long c.put_byte-beacon_day_at.ensures.1,
    wrote-long c.put_be-beacon_key_at.ensures.1,
    wrote-long c.put_array-name_len_at.ensures.1,
    c.put_array-name_len_at.ensures.0,
    c.put_be-beacon_key_at.ensures.0,
    c.put_byte-beacon_day_at.ensures.0,
    c.requires.1,
  ),
)

pub returns : goal.returns
returns c =
    let w = c.put_byte-beacon_day_at.ensures.1 then ((rw c.from.ensures at c.put_be-beacon_key_at.ensures.1) then (c.put_array-name_len_at.ensures.1 then c.put_name.ensures.1)) in
    rw (image-is c.args.card c.typed.ensures c.requires.0) (w.next-is, w)

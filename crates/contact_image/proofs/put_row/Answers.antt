-- `contact_image::put_row` meets its contract: one part behind another.
use native.Mathlib.Omega.{arith}
use Rattle.put.proofs.Put.{◌then◌}
use Rattle.contact_image.specs.Row as spec
use Rattle.contact_image.proofs.Lengths.{chains_lent, numbers_lent, row_room}
use Rattle.contact_image.proofs.Stores.{stored, ◌on◌, room}
use Rattle.contact_image.proofs.put_row.Goals as goal

pub put_paired-keys_at-requires : goal.put_paired-keys_at-requires
put_paired-keys_at-requires c = (c.requires.name, omega (arith, row_room _ _ c.requires))

pub put_keys-chained_at-requires : goal.put_keys-chained_at-requires
put_keys-chained_at-requires c = room _ (stored c.put_paired-keys_at.ensures) (omega (arith, row_room _ _ c.requires))

pub put_chained-numbers_at-requires : goal.put_chained-numbers_at-requires
put_chained-numbers_at-requires c =
    (chains_lent _ _ c.requires, room _ (stored c.put_paired-keys_at.ensures on stored c.put_keys-chained_at.ensures) (omega (arith, row_room _ _ c.requires)))

pub put_numbers-requires : goal.put_numbers-requires
put_numbers-requires c = (
  numbers_lent _ _ c.requires,
  room _ (stored c.put_paired-keys_at.ensures on stored c.put_keys-chained_at.ensures on stored c.put_chained-numbers_at.ensures) (omega (arith, row_room _ _ c.requires)),
)

pub returns : goal.returns
unfolding spec.image
returns c =
    let w = c.put_paired-keys_at.ensures.1 then (c.put_keys-chained_at.ensures.1 then (c.put_chained-numbers_at.ensures.1 then c.put_numbers.ensures.1)) in
    (omega (arith, w.next-is), w)

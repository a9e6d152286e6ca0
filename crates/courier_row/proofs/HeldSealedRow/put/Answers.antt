-- `Held::put` meets its contract: by the kind.
use mathlib.Core.Path.{ap}
use native.Mathlib.Omega.{arith}
use lib.ListN.{length}
use Rattle.sealed.proofs.Text.{wrote_as}
use Rattle.courier_row.proofs.Image.{image-carried, image-tombstone}
use Rattle.courier_row.proofs.HeldSealedRow.put.Goals as goal

pub put_tombstone-requires : goal.put_tombstone-requires
put_tombstone-requires c = omega (arith, ap length (image-tombstone c.args.self c.args.sealed.now c.in-Tombstone.is))

pub returns-in-Tombstone : goal.returns-in-Tombstone
returns-in-Tombstone c = wrote_as (image-tombstone c.args.self c.args.sealed.now c.in-Tombstone.is) c.put_tombstone.ensures.1

pub put_carried-requires : goal.put_carried-requires
put_carried-requires c = omega (arith, ap length (image-carried c.args.self c.args.sealed.now c.in-Carried.is))

pub returns-in-Carried : goal.returns-in-Carried
returns-in-Carried c = wrote_as (image-carried c.args.self c.args.sealed.now c.in-Carried.is) c.put_carried.ensures.1

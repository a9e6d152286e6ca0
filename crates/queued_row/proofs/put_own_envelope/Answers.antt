-- `queued_row::put_own_envelope` meets its contract: the flag alone, or the flag and one writer behind another.
use mathlib.Core.Path.{ap}
use native.Mathlib.Omega.{arith}
use lib.ListN.{length}
use Rattle.put.proofs.Put.{◌then◌}
use Rattle.sealed.proofs.Text.{wrote_as}
use Rattle.queued_row.proofs.Image.{own-absent, own-present}
use Rattle.queued_row.proofs.put_own_envelope.Goals as goal

pub put_byte-requires : goal.put_byte-requires
put_byte-requires c = omega (arith, ap length (own-absent c.args.outgoing c.in_default.is))

pub returns-in_default : goal.returns-in_default
returns-in_default c = wrote_as (own-absent c.args.outgoing c.in_default.is) c.put_byte.ensures.1

pub returns : goal.returns
returns c =
    wrote_as (own-present (c.args.outgoing) c.typed.ensures c.in-Some.is)
    (c.put_byte-tag_at.ensures.1 then (c.put_array-s_at.ensures.1 then (c.put_array-expiry_at.ensures.1 then c.put_numbers.ensures.1)))

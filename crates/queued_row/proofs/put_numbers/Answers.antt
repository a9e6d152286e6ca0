-- `queued_row::put_numbers` meets its contract: one writer behind another.
use Rattle.std.proofs.Common.{◌≡◌, Bool, true, false, arith}
use mathlib.Core.Path.{refl}
use mir.Val.{bool_byte}
use Rattle.layout.specs.Form.{flag_byte}
use Rattle.put.proofs.Put.{◌then◌}
use Rattle.queued_row.proofs.put_numbers.Goals as goal

byte-is : (t : Bool) → bool_byte t ≡ flag_byte t
byte-is true = refl
byte-is false = refl

pub returns : goal.returns
returns c =
    let w = c.put_be-copies_at.ensures.1 then (c.put_byte-renewed_at.ensures.1 then c.put_byte.ensures.1) in
    (omega arith, rw (← byte-is c.args.envelope.renewed, ← c.from-2.ensures, ← c.from.ensures) w)

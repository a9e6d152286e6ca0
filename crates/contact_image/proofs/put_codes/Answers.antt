-- `contact_image::put_codes` meets its contract: one byte behind another.
use native.Mathlib.Omega.{arith}
use Rattle.put.proofs.Put.{◌then◌}
use Rattle.contact_image.proofs.put_codes.Goals as goal

pub returns : goal.returns
returns c =
    let w = c.put_byte-mode_at.ensures.1 then (c.put_byte-verification_at.ensures.1 then c.put_byte.ensures.1) in
    (omega arith, rw (← c.from.ensures, ← c.from-2.ensures) w)

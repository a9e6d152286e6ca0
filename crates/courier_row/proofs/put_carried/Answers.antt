-- `courier_row::put_carried` meets its contract: one writer behind another.
use Prim.Native.Nat.{◌-◌, ◌≤◌}
use native.Mathlib.Omega.{arith}
use lib.ListN.{length}
use Rattle.put.proofs.Put.{◌then◌, wrote-long}
use Rattle.sealed.proofs.Text.{wrote_as}
use Rattle.envelope.specs.Envelope.{image}
use Rattle.envelope.proofs.Image.{whole-fits}
use Rattle.courier_row.proofs.Image.{envelope_in, carried-is, length-carried, length-in}
use Rattle.courier_row.proofs.put_carried.Goals as goal

pub returns : goal.returns
returns c =
    let held = c.args.held in
    let text = c.args.sealed.now in
    let room : length (image (envelope_in held) text) ≤ length c.put_be-envelope_at.new.out - c.put_be-envelope_at.result =
    omega (
      arith,
      length-carried held c.typed.ensures text,
      length-in held c.typed.ensures text,
      wrote-long c.put_byte-depositor_at.ensures.1,
      wrote-long c.put_be-envelope_at.ensures.1,
      c.put_byte-depositor_at.ensures.0,
      c.put_be-envelope_at.ensures.0,
      c.requires,
    ) in
    wrote_as (carried-is held c.typed.ensures text)
    (rw c.from.ensures at c.put_byte-depositor_at.ensures.1 then (c.put_be-envelope_at.ensures.1 then rw (whole-fits (envelope_in held) text _ room) at c.put_envelope.ensures))

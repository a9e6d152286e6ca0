-- `device_row::Device::row` meets its contract: what is asked first, then the room, then the row.
use Rattle.std.proofs.Common.{rules, ◌≡◌, Err, arith}
use mathlib.Core.Path.{refl, sym}
use Rattle.layout.proofs.Write.{writes-refused, writes_short, writes-row, asked-length}
use Rattle.put.proofs.Put.{put_front}
use Rattle.rows.specs.Rows.{device}
use Rattle.device_row.specs.Row.{image}
use Rattle.device_row.proofs.Device.row.Goals as goal

pub returns-in_err-n : goal.returns-in_err-n
returns-in_err-n c =
    let no : c.from_residual.result ≡ Err c.in_err-n.field-0.0 = search rules in
    rw no (sym (writes-refused (device 3) (image c.args.self) _ (sym c.in_err-n.ensures)))

pub returns-then-out-n : goal.returns-then-out-n
returns-then-out-n c = sym (writes_short (device 3) (image c.args.self) _ (sym c.in_ok-n.ensures) c.if-out-n.true)

pub put_device-requires : goal.put_device-requires
put_device-requires c = omega (arith, asked-length (device 3) (image c.args.self) (sym c.in_ok-n.ensures))

pub returns : goal.returns
returns c =
    let row = image c.args.self in
    let n = asked-length (device 3) row (sym c.in_ok-n.ensures) in
    rw (c.put_device.ensures.1.now-is, put_front c.args.out.now row (omega arith), writes-row (device 3) row c.args.out.now (sym c.in_ok-n.ensures) c.if-out-n.false) refl

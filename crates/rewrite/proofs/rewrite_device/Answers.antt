-- `rewrite::rewrite_device` meets its contract: the reader's answer says whether the row was refused, and what `row` leaves is the row stored.
use Rattle.std.proofs.Common.{rules, ◌≡◌, Err}
use mathlib.Core.Path.{◌∙◌}
use Rattle.layout.proofs.At.{typed}
use Rattle.rows.specs.Rows.{device}
use Rattle.rewrite.proofs.Again.{refused-row, granted-row, device-read-write}
use Rattle.rewrite.proofs.rewrite_device.Goals as goal

pub returns-in_err-read_device : goal.returns-in_err-read_device
returns-in_err-read_device c =
    let no : c.from_residual.result ≡ Err c.in_err-read_device.field-0.0 = search rules in
    rw no (refused-row _ (device c.args.version) c.args.row.now c.args.out.now c.in_err-read_device.ensures)

pub returns : goal.returns
returns c =
    let a = c.args in
    let read = c.in_ok-read_device.ensures in
    granted-row _ (device a.version) a.row.now a.out.now read
    (c.row.ensures ∙ device-read-write a.version a.row.now (typed a.row.now c.type_inv.row) read a.out.now)

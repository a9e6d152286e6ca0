-- `veil::veil_device` meets its contract: read, the key set to 0, and written; or the row's own refusal.
use Rattle.std.proofs.Common.{rules, ◌≡◌, Err}
use mathlib.Core.Path.{◌∙◌}
use Rattle.layout.proofs.At.{typed}
use Rattle.rows.specs.Rows.{device}
use Rattle.veil.proofs.Copied.{not-copied}
use Rattle.veil.proofs.Device.{device-copied}
use Rattle.veil.proofs.veil_device.Goals as goal

pub returns-in_err-device : goal.returns-in_err-device
returns-in_err-device c =
    let no : c.from_residual.result ≡ Err c.in_err-device.field-0.0 = search rules in
    rw no (not-copied _ (device c.args.version) c.args.row.now c.in_err-device.ensures c.args.out.now)

pub returns : goal.returns
returns c =
    let a = c.args in
    c.row.ensures ∙ device-copied a.version a.row.now (typed a.row.now c.type_inv.row) c.in_ok-device.ensures a.out.now

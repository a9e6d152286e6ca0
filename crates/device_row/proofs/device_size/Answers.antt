-- `device_row::device_size` meets its contract: question 11, as reading the row would ask it.
use Rattle.std.proofs.Common.{rules, ◌≡◌, Err}
use mathlib.Core.Path.{sym}
use Rattle.device.proofs.Config.{config-yes, config-no}
use Rattle.device_row.proofs.Image.{asked-yes, asked-no}
use Rattle.device_row.proofs.device_size.Goals as goal

pub returns-in_err-new : goal.returns-in_err-new
returns-in_err-new c =
    let no : c.from_residual.result ≡ Err c.in_err-new.field-0.0 = search rules in
    let bad = config-no _ _ _ c.in_err-new.ensures in
    rw (no, bad.1, asked-no c.args.device c.typed.ensures bad.0)

pub returns : goal.returns
returns c = sym (asked-yes c.args.device c.typed.ensures (config-yes _ _ _ c.in_ok-new.ensures).0)

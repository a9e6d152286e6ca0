-- `device::check_device` meets its contract: along the layout, the row's fields are what was taken so far.
use Rattle.std.proofs.Common.{rules, ◌≡◌, ℕ, List, Err, arith}
use mathlib.Core.Path.{refl, sym}
use borrow.Author.Tests.{ne_eqb}
use Rattle.layout.specs.Layout.{read_row}
use Rattle.layout.specs.RowLaws.{Bytes}
use Rattle.layout.specs.Veil.{plain}
use Rattle.layout.specs.Form.{u32}
use Rattle.layout.proofs.Front.{number-lawful}
use Rattle.layout.proofs.At.{typed, took, number-next}
use Rattle.layout.proofs.Along.{along, asked_of, row-along, any-run, ends, goes_past}
use Rattle.rows.specs.Rows as layouts
use Rattle.fields.proofs.Runs.{run-stands}
use Rattle.rows.proofs.Fields.{device-fields}
use Rattle.device.proofs.Config.{config-yes, config-no}
use Rattle.device.proofs.check_device.Goals as goal
use Rattle.device.proofs.check_device.Goals.{Else-version-ne-BLOB_VERSION}

-- version 3: the row is read along its layout
reads : (c : Else-version-ne-BLOB_VERSION) → asked_of (along (layouts.device 3) c.args.row.now 0) ≡ read_row (layouts.device c.args.version) c.args.row.now
reads c = rw c.if-version-ne-BLOB_VERSION.false (sym (row-along c.args.row.now (typed _ c.type_inv.row) (layouts.device 3) (device-fields 3) tt))

pub returns-then-version-ne-BLOB_VERSION : goal.returns-then-version-ne-BLOB_VERSION
returns-then-version-ne-BLOB_VERSION c = (rw (row-along c.args.row.now (typed _ c.type_inv.row) (layouts.device c.args.version) (device-fields c.args.version) tt, ne_eqb _ _ c.if-version-ne-BLOB_VERSION.true) refl, tt)

pub returns-in_err-beacon_day : goal.returns-in_err-beacon_day
returns-in_err-beacon_day c = let no : c.from_residual.result ≡ Err c.in_err-beacon_day.field-0.0 = search rules in rw (no, ← reads (goal.at.returns-in_err-beacon_day c).Else-version-ne-BLOB_VERSION, ← c.in_err-beacon_day.ensures) (refl, tt)

pub returns-in_err-_beacon_key : goal.returns-in_err-_beacon_key
returns-in_err-_beacon_key c = let no : c.from_residual-in_err-_beacon_key.result ≡ Err c.in_err-_beacon_key.field-0.0 = search rules in rw (no, ← reads (goal.at.returns-in_err-_beacon_key c).Else-version-ne-BLOB_VERSION, ← c.in_ok-beacon_day.ensures, any-run, ← c.in_err-_beacon_key.ensures.0) (refl, tt)

pub returns-in_err-next_contact : goal.returns-in_err-next_contact
returns-in_err-next_contact c = let no : c.from_residual-in_err-next_contact.result ≡ Err c.in_err-next_contact.field-0.0 = search rules in rw (no, ← reads (goal.at.returns-in_err-next_contact c).Else-version-ne-BLOB_VERSION, ← c.in_ok-beacon_day.ensures, any-run, ← c.in_ok-_beacon_key.ensures.0, ← c.in_err-next_contact.ensures) (refl, tt)

pub returns-in_err-read_receipts : goal.returns-in_err-read_receipts
returns-in_err-read_receipts c = let no : c.from_residual-in_err-read_receipts.result ≡ Err c.in_err-read_receipts.field-0.0 = search rules in rw (no, ← reads (goal.at.returns-in_err-read_receipts c).Else-version-ne-BLOB_VERSION, ← c.in_ok-beacon_day.ensures, any-run, ← c.in_ok-_beacon_key.ensures.0, ← c.in_ok-next_contact.ensures, ← c.in_err-read_receipts.ensures) (refl, tt)

pub returns-in_err-enabled : goal.returns-in_err-enabled
returns-in_err-enabled c = let no : c.from_residual-in_err-enabled.result ≡ Err c.in_err-enabled.field-0.0 = search rules in rw (no, ← reads (goal.at.returns-in_err-enabled c).Else-version-ne-BLOB_VERSION, ← c.in_ok-beacon_day.ensures, any-run, ← c.in_ok-_beacon_key.ensures.0, ← c.in_ok-next_contact.ensures, ← c.in_ok-read_receipts.ensures, ← c.in_err-enabled.ensures) (refl, tt)

pub returns-in_err-copies : goal.returns-in_err-copies
returns-in_err-copies c = let no : c.from_residual-in_err-copies.result ≡ Err c.in_err-copies.field-0.0 = search rules in rw (no, ← reads (goal.at.returns-in_err-copies c).Else-version-ne-BLOB_VERSION, ← c.in_ok-beacon_day.ensures, any-run, ← c.in_ok-_beacon_key.ensures.0, ← c.in_ok-next_contact.ensures, ← c.in_ok-read_receipts.ensures, ← c.in_ok-enabled.ensures, ← c.in_err-copies.ensures) (refl, tt)

pub returns-in_err-lifetime_min : goal.returns-in_err-lifetime_min
returns-in_err-lifetime_min c = let no : c.from_residual-in_err-lifetime_min.result ≡ Err c.in_err-lifetime_min.field-0.0 = search rules in rw (no, ← reads (goal.at.returns-in_err-lifetime_min c).Else-version-ne-BLOB_VERSION, ← c.in_ok-beacon_day.ensures, any-run, ← c.in_ok-_beacon_key.ensures.0, ← c.in_ok-next_contact.ensures, ← c.in_ok-read_receipts.ensures, ← c.in_ok-enabled.ensures, ← c.in_ok-copies.ensures, ← c.in_err-lifetime_min.ensures) (refl, tt)

pub returns-in_err-courier : goal.returns-in_err-courier
returns-in_err-courier c =
    let no : c.from_residual-in_err-courier.result ≡ Err c.in_err-courier.field-0.0 = search rules in
    let bad = config-no _ _ _ c.in_err-courier.ensures in
    rw (no, ← reads (goal.at.returns-in_err-courier c).Else-version-ne-BLOB_VERSION, ← c.in_ok-beacon_day.ensures, any-run, ← c.in_ok-_beacon_key.ensures.0, ← c.in_ok-next_contact.ensures, ← c.in_ok-read_receipts.ensures, ← c.in_ok-enabled.ensures, ← c.in_ok-copies.ensures, ← c.in_ok-lifetime_min.ensures, bad.0, bad.1) (refl, tt)

pub returns-then-at7-row : goal.returns-then-at7-row
returns-then-at7-row c =
    let fit = config-yes _ _ _ c.in_ok-courier.ensures in
    (rw (← reads (goal.at.returns-then-at7-row c).Else-version-ne-BLOB_VERSION, ← c.in_ok-beacon_day.ensures, any-run, ← c.in_ok-_beacon_key.ensures.0, ← c.in_ok-next_contact.ensures, ← c.in_ok-read_receipts.ensures, ← c.in_ok-enabled.ensures, ← c.in_ok-copies.ensures, ← c.in_ok-lifetime_min.ensures, fit.0, goes_past _ _ _ c.if-at7-row.true) refl, tt)

pub returns : goal.returns
returns c =
    let row : List ℕ = c.args.row.now in
    let by : Bytes row = typed row c.type_inv.row in
    let day = took row 0 u32 (number-lawful 4) by (sym c.in_ok-beacon_day.ensures) in
    let behind : c.in_ok-beacon_day.at1 ≡ 4 = number-next row 0 4 by (sym c.in_ok-beacon_day.ensures) (omega arith) in
    let key = run-stands row _ plain 32 by c.in_ok-_beacon_key.ensures.0 c.in_ok-_beacon_key.ensures.1 day.inside in
    let fit = config-yes _ _ _ c.in_ok-courier.ensures in
    let stands : c.in_ok-_beacon_key._beacon_key ≡ 4 = omega (arith, key.0, behind) in
    (rw (← reads (goal.at.returns c).Else-version-ne-BLOB_VERSION, ← c.in_ok-beacon_day.ensures, any-run, ← c.in_ok-_beacon_key.ensures.0, ← c.in_ok-next_contact.ensures, ← c.in_ok-read_receipts.ensures, ← c.in_ok-enabled.ensures, ← c.in_ok-copies.ensures, ← c.in_ok-lifetime_min.ensures, fit.0, fit.1, ends _ _ _ c.if-at7-row.false, stands) refl, omega (arith, key.1, behind))

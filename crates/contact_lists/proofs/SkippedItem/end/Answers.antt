-- A skipped key ends where its layout does: in a row that has all of its bytes each field is there, so that its dir decides.
use Rattle.std.proofs.Common.{rules, ◌≡◌, ◌+◌, ◌≤◌, Err, length, arith}
use mathlib.Core.Path.{refl, sym}
use Rattle.layout.specs.Veil.{veiled}
use Rattle.layout.specs.Field.{read_at}
use Rattle.layout.specs.Layout.{group}
use Rattle.layout.proofs.Along.{along, part-along}
use Rattle.layout.proofs.At.{typed, number_in, bytes-in, took-next}
use Rattle.rows.specs.Rows.{skipped, dir}
use Rattle.rows.proofs.Lawful.{dir-lawful}
use Rattle.reader.proofs.Fields.{skipped-fields}
use Rattle.contact_lists.proofs.SkippedItem.end.Goals as goal
use Rattle.contact_lists.proofs.SkippedItem.end.Goals.{Else-saturating_sub-lt-SKIPPED_BYTES}

whole : (c : Else-saturating_sub-lt-SKIPPED_BYTES) → c.args.at + 46 ≤ length c.args.row.now
whole c = omega (arith, c.saturating_sub.ensures, c.if-saturating_sub-lt-SKIPPED_BYTES.false)

reads : (c : Else-saturating_sub-lt-SKIPPED_BYTES) → along skipped c.args.row.now c.args.at ≡ read_at (group skipped) c.args.row.now c.args.at
reads c = sym (part-along c.args.row.now (typed _ c.type_inv.row) skipped skipped-fields c.args.at tt)

pub returns-in_err-code_at : goal.returns-in_err-code_at
returns-in_err-code_at c =
    let no : c.from_residual.result ≡ Err c.in_err-code_at.field-0.0 = search rules in
    let long = whole (goal.at.returns-in_err-code_at c).Else-saturating_sub-lt-SKIPPED_BYTES in
    rw (no, ← reads (goal.at.returns-in_err-code_at c).Else-saturating_sub-lt-SKIPPED_BYTES, number_in c.args.row.now c.args.at 1 (omega arith), ← c.in_err-code_at.ensures) refl

pub returns : goal.returns
returns c =
    let row = c.args.row.now in
    let at = c.args.at in
    let long = whole (goal.at.returns c).Else-saturating_sub-lt-SKIPPED_BYTES in
    let next = c.in_ok-code_at.field-0.1 in
    let behind : next ≡ at + 1 + 1 = took-next row (at + 1) dir dir-lawful (typed row c.type_inv.row) (sym c.in_ok-code_at.ensures) (omega arith) in
    let end : at + 46 ≡ next + 4 + 32 + 8 = omega arith in
    rw (← reads (goal.at.returns c).Else-saturating_sub-lt-SKIPPED_BYTES, number_in row at 1 (omega arith), ← c.in_ok-code_at.ensures, number_in row next 4 (omega arith), bytes-in row (next + 4) 32 veiled (omega arith), number_in row (next + 4 + 32) 8 (omega arith), end) refl

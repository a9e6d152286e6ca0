-- `courier::carried_at` meets its contract: along the layout, what is carried is what was taken so far.
use Rattle.std.proofs.Common.{rules, ◌≡◌, ℕ, ◌+◌, ◌≤◌, List, Err, length, take, drop, arith}
use mathlib.Core.Path.{refl, sym, ◌∙◌}
use borrow.Author.Tests.{eq-eqb, ne_eqb}
use Rattle.layout.specs.Questions.{SEALED_LENGTH}
use Rattle.layout.specs.Veil.{veiled}
use Rattle.layout.specs.Form.{u8, u32, u64, to_end}
use Rattle.layout.specs.Field.{takes, read_at}
use Rattle.layout.specs.Layout.{group}
use Rattle.layout.specs.RowLaws.{Bytes}
use Rattle.layout.proofs.Front.{number-lawful}
use Rattle.layout.proofs.At.{typed, took, takes_at, refuses-at}
use Rattle.layout.proofs.Along.{along, part-along}
use Rattle.rows.specs.Checks.{sealed_carried}
use Rattle.rows.specs.Values.{Carried}
use Rattle.rows.specs.Rows.{carried}
use Rattle.offsets.specs.Offset.{offset}
use Rattle.offsets.proofs.Runs.{run-starts, field-ends}
use Rattle.sealed.proofs.Text.{text-took, text-refused}
use Rattle.courier.proofs.Rows.{carried-fields}
use Rattle.courier.proofs.carried_at.Goals as goal
use Rattle.courier.proofs.carried_at.Goals.{In_ok-copies}

reads : (row : List ℕ) → Bytes row → (at : ℕ) → read_at (group carried) row at ≡ along carried row at
reads row by at = part-along row by carried carried-fields at tt

-- the numbers end in the row
inside : (c : In_ok-copies) → c.in_ok-copies.at5 ≤ length c.args.row.now
inside c = (took c.args.row.now c.in_ok-expiry_min.at4 u8 (number-lawful 1) (typed _ c.type_inv.row) (sym c.in_ok-copies.ensures)).inside

pub returns-in_err-depositor : goal.returns-in_err-depositor
returns-in_err-depositor c =
    let no : c.from_residual.result ≡ Err c.in_err-depositor.field-0.0 = search rules in
    rw (no, reads _ (typed _ c.type_inv.row), ← c.in_err-depositor.ensures) refl

pub returns-in_err-tag : goal.returns-in_err-tag
returns-in_err-tag c =
    let no : c.from_residual-in_err-tag.result ≡ Err c.in_err-tag.field-0.0 = search rules in
    rw (no, reads _ (typed _ c.type_inv.row), ← c.in_ok-depositor.ensures, ← c.in_err-tag.ensures.0) refl

pub returns-in_err-c : goal.returns-in_err-c
returns-in_err-c c =
    let no : c.from_residual-in_err-c.result ≡ Err c.in_err-c.field-0.0 = search rules in
    rw (no, reads _ (typed _ c.type_inv.row), ← c.in_ok-depositor.ensures, ← c.in_ok-tag.ensures.0, ← c.in_err-c.ensures.0) refl

pub returns-in_err-expiry_min : goal.returns-in_err-expiry_min
returns-in_err-expiry_min c =
    let no : c.from_residual-in_err-expiry_min.result ≡ Err c.in_err-expiry_min.field-0.0 = search rules in
    rw (no, reads _ (typed _ c.type_inv.row), ← c.in_ok-depositor.ensures, ← c.in_ok-tag.ensures.0, ← c.in_ok-c.ensures.0, ← c.in_err-expiry_min.ensures) refl

pub returns-then-expiry_min-eq0 : goal.returns-then-expiry_min-eq0
returns-then-expiry_min-eq0 c =
    rw (reads _ (typed _ c.type_inv.row), ← c.in_ok-depositor.ensures, ← c.in_ok-tag.ensures.0, ← c.in_ok-c.ensures.0, ← c.in_ok-expiry_min.ensures, eq-eqb _ _ c.if-expiry_min-eq0.true) refl

pub returns-in_err-copies : goal.returns-in_err-copies
returns-in_err-copies c =
    let no : c.from_residual-in_err-copies.result ≡ Err c.in_err-copies.field-0.0 = search rules in
    rw (no, reads _ (typed _ c.type_inv.row), ← c.in_ok-depositor.ensures, ← c.in_ok-tag.ensures.0, ← c.in_ok-c.ensures.0, ← c.in_ok-expiry_min.ensures, ne_eqb _ _ c.if-expiry_min-eq0.false, ← c.in_err-copies.ensures) refl

pub returns-then-copies-eq0 : goal.returns-then-copies-eq0
returns-then-copies-eq0 c =
    rw (reads _ (typed _ c.type_inv.row), ← c.in_ok-depositor.ensures, ← c.in_ok-tag.ensures.0, ← c.in_ok-c.ensures.0, ← c.in_ok-expiry_min.ensures, ne_eqb _ _ c.if-expiry_min-eq0.false, ← c.in_ok-copies.ensures, eq-eqb _ _ c.if-copies-eq0.true) refl

pub overflow_sub-row : goal.overflow_sub-row
overflow_sub-row c = inside (goal.at.overflow_sub-row c).In_ok-copies

pub returns-then-not-sealed_carried : goal.returns-then-not-sealed_carried
returns-then-not-sealed_carried c =
    let row : List ℕ = c.args.row.now in
    let sealed : ℕ = c.in_ok-copies.at5 in
    let left = refuses-at row sealed (to_end veiled SEALED_LENGTH sealed_carried) (text-refused veiled SEALED_LENGTH sealed_carried row sealed (sym c.sealed_carried.ensures ∙ c.if-not-sealed_carried.true)) in
    rw (reads row (typed row c.type_inv.row), ← c.in_ok-depositor.ensures, ← c.in_ok-tag.ensures.0, ← c.in_ok-c.ensures.0, ← c.in_ok-expiry_min.ensures, ne_eqb _ _ c.if-expiry_min-eq0.false, ← c.in_ok-copies.ensures, ne_eqb _ _ c.if-copies-eq0.false, left) refl

pub returns : goal.returns
returns c =
    let row : List ℕ = c.args.row.now in
    let by : Bytes row = typed row c.type_inv.row in
    let depositor = field-ends row _ u64 (number-lawful 8) by refl c.in_ok-depositor.ensures in
    let tag = run-starts row c.in_ok-depositor.at1 16 by (omega arith) c.in_ok-tag.ensures.0 c.in_ok-tag.ensures.1 in
    let its-c = run-starts row c.in_ok-tag.at2 16 by (omega arith) c.in_ok-c.ensures.0 c.in_ok-c.ensures.1 in
    let expiry = field-ends row _ u32 (number-lawful 4) by refl c.in_ok-expiry_min.ensures in
    let copies = field-ends row _ u8 (number-lawful 1) by refl c.in_ok-copies.ensures in
    let sealed : ℕ = c.in_ok-copies.at5 in
    let text = text-took veiled SEALED_LENGTH sealed_carried row sealed (inside (goal.at.returns c).In_ok-copies) (sym c.sealed_carried.ensures ∙ c.if-not-sealed_carried.false) in
    let left = takes_at row sealed (to_end veiled SEALED_LENGTH sealed_carried) text.reads text.inside in
    let its : Carried = record {
      depositor = c.in_ok-depositor.depositor;
      tag = take 16 (drop c.in_ok-tag.tag row);
      c = take 16 (drop c.in_ok-c.c row);
      expiry_min = c.in_ok-expiry_min.expiry_min;
      copies = c.in_ok-copies.copies;
      sealed = drop sealed row;
    } in
    let tag-place : c.in_ok-tag.tag ≡ c.args.at + offset carried 1 its = omega (arith, depositor, tag.starts) in
    let c-place : c.in_ok-c.c ≡ c.args.at + offset carried 2 its = omega (arith, depositor, tag.ends, its-c.starts) in
    let sealed-place : sealed ≡ c.args.at + offset carried 5 its = omega (arith, depositor, tag.ends, its-c.ends, expiry, copies) in
    rw (reads row by, ← c.in_ok-depositor.ensures, ← c.in_ok-tag.ensures.0, ← c.in_ok-c.ensures.0, ← c.in_ok-expiry_min.ensures, ne_eqb _ _ c.if-expiry_min-eq0.false, ← c.in_ok-copies.ensures, ne_eqb _ _ c.if-copies-eq0.false, left)
    (λ i. takes (record { depositor = record { 0 = its.depositor }; tag = tag-place i; c = c-place i; sealed = sealed-place i; expiry_min = its.expiry_min; copies = its.copies }) (length row))

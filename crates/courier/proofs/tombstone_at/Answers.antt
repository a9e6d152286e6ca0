-- `courier::tombstone_at` meets its contract: along the layout, a tombstone's fields are what was taken so far.
use Rattle.std.proofs.Common.{rules, ◌≡◌, ℕ, ◌+◌, List, Err, take, drop, arith}
use mathlib.Core.Path.{refl}
use Rattle.layout.specs.Field.{takes, read_at}
use Rattle.layout.specs.Layout.{group}
use Rattle.layout.specs.RowLaws.{Bytes}
use Rattle.layout.proofs.At.{typed}
use Rattle.layout.proofs.Along.{along, part-along, any-run}
use Rattle.rows.specs.Values.{Tombstone}
use Rattle.rows.specs.Rows.{tombstone}
use Rattle.offsets.specs.Offset.{offset}
use Rattle.offsets.proofs.Runs.{run-starts}
use Rattle.courier.proofs.Rows.{tombstone-fields}
use Rattle.courier.proofs.tombstone_at.Goals as goal

reads : (row : List ℕ) → Bytes row → (at : ℕ) → read_at (group tombstone) row at ≡ along tombstone row at
reads row by at = part-along row by tombstone tombstone-fields at tt

pub returns-in_err-tag : goal.returns-in_err-tag
returns-in_err-tag c =
    let no : c.from_residual.result ≡ Err c.in_err-tag.field-0.0 = search rules in
    rw (no, reads _ (typed _ c.type_inv.row), ← c.in_err-tag.ensures.0) refl

pub returns-in_err-s : goal.returns-in_err-s
returns-in_err-s c =
    let no : c.from_residual-in_err-s.result ≡ Err c.in_err-s.field-0.0 = search rules in
    rw (no, reads _ (typed _ c.type_inv.row), ← c.in_ok-tag.ensures.0, any-run, ← c.in_err-s.ensures.0) refl

pub returns-in_err-expiry_min : goal.returns-in_err-expiry_min
returns-in_err-expiry_min c =
    let no : c.from_residual-in_err-expiry_min.result ≡ Err c.in_err-expiry_min.field-0.0 = search rules in
    rw (no, reads _ (typed _ c.type_inv.row), ← c.in_ok-tag.ensures.0, any-run, ← c.in_ok-s.ensures.0, ← c.in_err-expiry_min.ensures) refl

pub returns : goal.returns
returns c =
    let row : List ℕ = c.args.row.now in
    let by : Bytes row = typed row c.type_inv.row in
    let tag = run-starts row c.args.at 16 by (omega arith) c.in_ok-tag.ensures.0 c.in_ok-tag.ensures.1 in
    let s = run-starts row c.in_ok-tag.at1 16 by (omega arith) c.in_ok-s.ensures.0 c.in_ok-s.ensures.1 in
    let its : Tombstone = record { tag = take 16 (drop c.in_ok-tag.tag row); s = take 16 (drop c.in_ok-s.s row); expiry_min = c.in_ok-expiry_min.expiry_min } in
    let tag-place : c.in_ok-tag.tag ≡ c.args.at + offset tombstone 0 its = omega (arith, tag.starts) in
    let s-place : c.in_ok-s.s ≡ c.args.at + offset tombstone 1 its = omega (arith, tag.ends, s.starts) in
    rw (reads row by, ← c.in_ok-tag.ensures.0, any-run, ← c.in_ok-s.ensures.0, ← c.in_ok-expiry_min.ensures)
    (λ i. takes (record { tag = tag-place i; s = s-place i; expiry_min = its.expiry_min }) c.in_ok-expiry_min.at3)

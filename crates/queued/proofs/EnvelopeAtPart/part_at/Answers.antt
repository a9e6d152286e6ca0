-- `<EnvelopeAt as Part>::part_at` meets its contract: along the layout, the fields are what was taken so far.
use Rattle.std.proofs.Common.{rules, ◌≡◌, ◌+◌, Err, take, drop, length, arith}
use mathlib.Core.Path.{refl}
use Rattle.layout.specs.Field.{takes}
use Rattle.layout.specs.RowLaws.{Bytes}
use Rattle.layout.proofs.At.{typed}
use Rattle.layout.proofs.Along.{any-run}
use Rattle.offsets.proofs.Runs.{run-starts}
use Rattle.queued.proofs.Rows.{envelope-reads}
use Rattle.queued.proofs.EnvelopeAtPart.part_at.Goals as goal

pub returns-in_err-tag : goal.returns-in_err-tag
returns-in_err-tag c = let no : c.from_residual.result ≡ Err c.in_err-tag.field-0.0 = search rules in rw (no, envelope-reads _ c.type_inv.row c.args.at, ← c.in_err-tag.ensures.0) refl

pub returns-in_err-s : goal.returns-in_err-s
returns-in_err-s c = let no : c.from_residual-in_err-s.result ≡ Err c.in_err-s.field-0.0 = search rules in rw (no, envelope-reads _ c.type_inv.row c.args.at, ← c.in_ok-tag.ensures.0, any-run, ← c.in_err-s.ensures.0) refl

pub returns-in_err-expiry_min : goal.returns-in_err-expiry_min
returns-in_err-expiry_min c = let no : c.from_residual-in_err-expiry_min.result ≡ Err c.in_err-expiry_min.field-0.0 = search rules in rw (no, envelope-reads _ c.type_inv.row c.args.at, ← c.in_ok-tag.ensures.0, any-run, ← c.in_ok-s.ensures.0, ← c.in_err-expiry_min.ensures) refl

pub returns-in_err-copies : goal.returns-in_err-copies
returns-in_err-copies c = let no : c.from_residual-in_err-copies.result ≡ Err c.in_err-copies.field-0.0 = search rules in rw (no, envelope-reads _ c.type_inv.row c.args.at, ← c.in_ok-tag.ensures.0, any-run, ← c.in_ok-s.ensures.0, ← c.in_ok-expiry_min.ensures, ← c.in_err-copies.ensures) refl

pub returns-in_err-renewed : goal.returns-in_err-renewed
returns-in_err-renewed c = let no : c.from_residual-in_err-renewed.result ≡ Err c.in_err-renewed.field-0.0 = search rules in rw (no, envelope-reads _ c.type_inv.row c.args.at, ← c.in_ok-tag.ensures.0, any-run, ← c.in_ok-s.ensures.0, ← c.in_ok-expiry_min.ensures, ← c.in_ok-copies.ensures, ← c.in_err-renewed.ensures) refl

pub returns : goal.returns
returns c =
    let by : Bytes c.args.row.now = typed _ c.type_inv.row in
    let tag = run-starts _ _ 16 by (omega arith) c.in_ok-tag.ensures.0 c.in_ok-tag.ensures.1 in
    let s = run-starts _ _ 16 by (omega arith) c.in_ok-s.ensures.0 c.in_ok-s.ensures.1 in
    let tag-at : c.in_ok-tag.tag ≡ c.args.at + 0 = omega (arith, tag.starts) in
    let s-at : c.in_ok-s.s ≡ c.args.at + (length (take 16 (drop c.in_ok-tag.tag c.args.row.now)) + 0) = omega (arith, tag.ends, s.starts) in
    rw (envelope-reads _ c.type_inv.row c.args.at, ← c.in_ok-tag.ensures.0, any-run, ← c.in_ok-s.ensures.0, ← c.in_ok-expiry_min.ensures, ← c.in_ok-copies.ensures, ← c.in_ok-renewed.ensures)
    (λ i. takes (record { tag = tag-at i; s = s-at i; expiry_min = c.in_ok-expiry_min.expiry_min; copies = c.in_ok-copies.copies; renewed = c.in_ok-renewed.renewed }) c.in_ok-renewed.at5)

-- `queued::check_queued` meets its contract: along the layout, the row's fields are what was taken so far.
use Rattle.std.proofs.Common.{rules, ◌≡◌, ◌-◌, ℕ, List, Err, true, false, length, drop, arith}
use mathlib.Core.Path.{refl, sym, ap, ◌∙◌}
use borrow.Author.Tests.{ne_eqb}
use Rattle.layout.specs.Questions.{SEALED_LENGTH}
use Rattle.layout.specs.Veil.{veiled}
use Rattle.layout.specs.Form.{u8, u64, leb128, to_end}
use Rattle.layout.specs.Field.{read_at}
use Rattle.layout.specs.Layout.{group, optional, accepted}
use Rattle.layout.specs.RowLaws.{Bytes}
use Rattle.layout.proofs.Front.{number-lawful}
use Rattle.layout.proofs.Leb.{leb128-lawful}
use Rattle.layout.proofs.Derived.{optional-lawful}
use Rattle.layout.proofs.At.{typed, took, took-next, takes_at, refuses-at}
use Rattle.layout.proofs.Along.{ends}
use Rattle.rows.specs.Values.{Queued}
use Rattle.rows.specs.Checks.{sealed_queued}
use Rattle.rows.specs.Rows.{own_envelope, queued}
use Rattle.rows.proofs.Lawful.{own_envelope-lawful}
use Rattle.offsets.specs.Offset.{offset}
use Rattle.offsets.proofs.Offset.{Located, located-at, located-not}
use Rattle.offsets.proofs.Runs.{field-ends}
use Rattle.sealed.proofs.Text.{text-took, text-refused}
use Rattle.queued.specs.Queued.{own_at}
use Rattle.queued.proofs.Rows.{queued-reads}
use Rattle.queued.proofs.check_queued.Goals as goal

pub returns-then-version-ne-BLOB_VERSION : goal.returns-then-version-ne-BLOB_VERSION
returns-then-version-ne-BLOB_VERSION c = rw (queued-reads _ c.type_inv.row c.args.version, ne_eqb _ _ c.if-version-ne-BLOB_VERSION.true) refl

pub returns-in_err-created_s : goal.returns-in_err-created_s
returns-in_err-created_s c = let no : c.from_residual.result ≡ Err c.in_err-created_s.field-0.0 = search rules in rw (no, c.if-version-ne-BLOB_VERSION.false, queued-reads _ c.type_inv.row 3, ← c.in_err-created_s.ensures) refl

pub returns-in_err-envelope : goal.returns-in_err-envelope
returns-in_err-envelope c =
    let no : c.from_residual-in_err-envelope.result ≡ Err c.in_err-envelope.field-0.0 = search rules in
    rw (no, c.if-version-ne-BLOB_VERSION.false, queued-reads _ c.type_inv.row 3, ← c.in_ok-created_s.ensures, located-not (own_at _) _ (sym c.in_err-envelope.ensures)) refl

pub returns-in_err-gen_ : goal.returns-in_err-gen_
returns-in_err-gen_ c =
    let no : c.from_residual-in_err-gen_.result ≡ Err c.in_err-gen_.field-0.0 = search rules in
    let own = located-at (own_at _) _ (sym c.in_ok-envelope.ensures) in
    rw (no, c.if-version-ne-BLOB_VERSION.false, queued-reads _ c.type_inv.row 3, ← c.in_ok-created_s.ensures, own.read, ← c.in_err-gen_.ensures) refl

pub returns-in_err-idx : goal.returns-in_err-idx
returns-in_err-idx c =
    let no : c.from_residual-in_err-idx.result ≡ Err c.in_err-idx.field-0.0 = search rules in
    let own = located-at (own_at _) _ (sym c.in_ok-envelope.ensures) in
    rw (no, c.if-version-ne-BLOB_VERSION.false, queued-reads _ c.type_inv.row 3, ← c.in_ok-created_s.ensures, own.read, ← c.in_ok-gen_.ensures, ← c.in_err-idx.ensures) refl

pub overflow_sub-row : goal.overflow_sub-row
overflow_sub-row c = (took c.args.row.now _ leb128 leb128-lawful (typed _ c.type_inv.row) (sym c.in_ok-idx.ensures)).inside

pub returns-then-not-sealed_queued : goal.returns-then-not-sealed_queued
returns-then-not-sealed_queued c =
    let unfit : sealed_queued (length c.args.row.now - c.in_ok-idx.at4) ≡ false = search rules in
    let own = located-at (own_at _) _ (sym c.in_ok-envelope.ensures) in
    rw (
      c.if-version-ne-BLOB_VERSION.false,
      queued-reads _ c.type_inv.row 3,
      ← c.in_ok-created_s.ensures,
      own.read,
      ← c.in_ok-gen_.ensures,
      ← c.in_ok-idx.ensures,
      refuses-at c.args.row.now c.in_ok-idx.at4 (to_end veiled SEALED_LENGTH sealed_queued) (text-refused veiled SEALED_LENGTH sealed_queued c.args.row.now c.in_ok-idx.at4 unfit),
    ) refl

pub returns : goal.returns
returns c =
    let row : List ℕ = c.args.row.now in
    let by : Bytes row = typed row c.type_inv.row in
    let fit : sealed_queued (length row - c.in_ok-idx.at4) ≡ true = search rules in
    let own : Located (own_at c.in_ok-created_s.at1) (read_at (optional (group own_envelope)) row c.in_ok-created_s.at1) c.in_ok-envelope.envelope c.in_ok-envelope.at2 = located-at (own_at _) _ (sym c.in_ok-envelope.ensures) in
    let own-lawful = optional-lawful (group own_envelope) own_envelope-lawful in
    let idx = took row _ leb128 leb128-lawful by (sym c.in_ok-idx.ensures) in
    let text = text-took veiled SEALED_LENGTH sealed_queued row c.in_ok-idx.at4 idx.inside fit in
    let created-next = field-ends row 0 u64 (number-lawful 8) by refl c.in_ok-created_s.ensures in
    let own-next = took-next row _ (optional (group own_envelope)) own-lawful by own.read (took row 0 u64 (number-lawful 8) by (sym c.in_ok-created_s.ensures)).inside in
    let gen-next = field-ends row _ u8 (number-lawful 1) by refl c.in_ok-gen_.ensures in
    let idx-next = took-next row _ leb128 leb128-lawful by (sym c.in_ok-idx.ensures) (took row _ u8 (number-lawful 1) by (sym c.in_ok-gen_.ensures)).inside in
    let its : Queued = record { created_s = c.in_ok-created_s.created_s; envelope = own.value; gen = c.in_ok-gen_.gen_; idx = c.in_ok-idx.idx; sealed = drop c.in_ok-idx.at4 row } in
    let own-at : c.in_ok-created_s.at1 ≡ offset (queued 3) 1 its = omega (arith, created-next) in
    let sealed-at : c.in_ok-idx.at4 ≡ offset (queued 3) 4 its = omega (arith, created-next, own-next, gen-next, idx-next) in
    let envelope-is = own.place ∙ ap (λ (n : ℕ). own_at n own.value) own-at in
    rw (c.if-version-ne-BLOB_VERSION.false, queued-reads _ c.type_inv.row 3, ← c.in_ok-created_s.ensures, own.read, ← c.in_ok-gen_.ensures, ← c.in_ok-idx.ensures, takes_at row c.in_ok-idx.at4 (to_end veiled SEALED_LENGTH sealed_queued) text.reads text.inside, ends row (length row) _ (omega arith))
    (λ i. accepted (record { created_s = c.in_ok-created_s.created_s; sealed = sealed-at i; idx = c.in_ok-idx.idx; gen_ = c.in_ok-gen_.gen_; envelope = envelope-is i }))

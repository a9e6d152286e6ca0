-- `courier::check_courier` meets its contract: along the layout, the kind, what it says, and then question 16.
use Rattle.std.proofs.Common.{rules, ◌≡◌, ℕ, List, Err, length, arith}
use mathlib.Core.Path.{refl, sym, ap, ◌∙◌}
use borrow.Author.Tests.{ne_eqb}
use Rattle.layout.specs.Questions.{ROW_END}
use Rattle.layout.specs.Form.{no_more}
use Rattle.layout.specs.Field.{takes, read_at}
use Rattle.layout.specs.Layout.{group, accepted, read_row}
use Rattle.layout.proofs.At.{typed, took-next}
use Rattle.layout.proofs.Along.{on, asked_of, row-along, ends, goes_past}
use Rattle.rows.specs.Rows.{carried, tombstone, courier}
use Rattle.offsets.proofs.Offset.{located-at, located-not}
use Rattle.courier.specs.Courier.{kind_form, carried_at, tombstone_at}
use Rattle.courier.specs.declared.CarriedAt.{CarriedAt}
use Rattle.courier.specs.declared.TombstoneAt.{TombstoneAt}
use Rattle.courier.specs.declared.HeldAt.TheVariants as held_at
use Rattle.courier.proofs.Rows.{courier-fields}
use Rattle.courier.proofs.Either.{kind-lawful, held, either-along}
use Rattle.courier.proofs.check_courier.Goals as goal
use Rattle.courier.proofs.check_courier.Goals.{Else-version-ne-BLOB_VERSION, In_ok-kind}

-- version 3: the row is read along its layout, the kind first
reads : (c : Else-version-ne-BLOB_VERSION) → read_row (courier c.args.version) c.args.row.now
    ≡ asked_of (on (on (read_at kind_form c.args.row.now 0) (held (group carried) (group tombstone) c.args.row.now)) (λ held next. on (read_at (no_more ROW_END) c.args.row.now next) (λ u end. takes held end)))
reads c =
    let by = typed c.args.row.now c.type_inv.row in
    rw (c.if-version-ne-BLOB_VERSION.false, row-along c.args.row.now by (courier 3) (courier-fields 3) tt, either-along (group carried) (group tombstone) c.args.row.now by 0) refl

-- what is held stands behind the kind
behind : (c : In_ok-kind) → c.in_ok-kind.at ≡ 1
behind c = took-next c.args.row.now 0 kind_form kind-lawful (typed _ c.type_inv.row) (sym c.in_ok-kind.ensures) (omega arith)

pub returns-then-version-ne-BLOB_VERSION : goal.returns-then-version-ne-BLOB_VERSION
returns-then-version-ne-BLOB_VERSION c =
    rw (row-along c.args.row.now (typed _ c.type_inv.row) (courier c.args.version) (courier-fields c.args.version) tt, ne_eqb _ _ c.if-version-ne-BLOB_VERSION.true) refl

pub returns-in_err-kind : goal.returns-in_err-kind
returns-in_err-kind c =
    let no : c.from_residual.result ≡ Err c.in_err-kind.field-0.0 = search rules in
    rw (no, reads (goal.at.returns-in_err-kind c).Else-version-ne-BLOB_VERSION, ← c.in_err-kind.ensures) refl

pub returns-in_err-held-in-Carried : goal.returns-in_err-held-in-Carried
returns-in_err-held-in-Carried c =
    let no : c.from_residual-in_err-held-in-Carried.result ≡ Err c.in_err-held-in-Carried.field-0.0 = search rules in
    let not = located-not (carried_at c.in_ok-kind.at) (read_at (group carried) c.args.row.now c.in_ok-kind.at) (sym c.in_err-held-in-Carried.ensures) in
    rw (no, reads (goal.at.returns-in_err-held-in-Carried c).Else-version-ne-BLOB_VERSION, ← c.in_ok-kind.ensures, c.in-Carried.is, not) refl

pub returns-in_err-held-in-Tombstone : goal.returns-in_err-held-in-Tombstone
returns-in_err-held-in-Tombstone c =
    let no : c.from_residual-in_err-held-in-Tombstone.result ≡ Err c.in_err-held-in-Tombstone.field-0.0 = search rules in
    let not = located-not (tombstone_at c.in_ok-kind.at) (read_at (group tombstone) c.args.row.now c.in_ok-kind.at) (sym c.in_err-held-in-Tombstone.ensures) in
    rw (no, reads (goal.at.returns-in_err-held-in-Tombstone c).Else-version-ne-BLOB_VERSION, ← c.in_ok-kind.ensures, c.in-Tombstone.is, not) refl

pub returns-then-next-row : goal.returns-then-next-row
returns-then-next-row c =
    let its = located-at (tombstone_at c.in_ok-kind.at) (read_at (group tombstone) c.args.row.now c.in_ok-kind.at) (sym c.in_ok-held-in-Tombstone.ensures) in
    rw (reads (goal.at.returns-then-next-row c).Else-version-ne-BLOB_VERSION, ← c.in_ok-kind.ensures, c.in-Tombstone.is, its.read, goes_past _ _ _ c.if-next-row.true) refl

pub returns-in_ok-held-in-Carried : goal.returns-in_ok-held-in-Carried
returns-in_ok-held-in-Carried c =
    let row : List ℕ = c.args.row.now in
    let its = located-at (carried_at c.in_ok-kind.at) (read_at (group carried) row c.in_ok-kind.at) (sym c.in_ok-held-in-Carried.ensures) in
    let place = its.place ∙ ap (λ (from : ℕ). carried_at from its.value) (behind (goal.at.returns-in_ok-held-in-Carried c).In_ok-kind) in
    rw (reads (goal.at.returns-in_ok-held-in-Carried c).Else-version-ne-BLOB_VERSION, ← c.in_ok-kind.ensures, c.in-Carried.is, its.read, ends row (length row) ROW_END (omega arith))
    (ap (λ (at : CarriedAt). accepted (held_at.Carried at)) place)

pub returns-else-next-row : goal.returns-else-next-row
returns-else-next-row c =
    let row : List ℕ = c.args.row.now in
    let its = located-at (tombstone_at c.in_ok-kind.at) (read_at (group tombstone) row c.in_ok-kind.at) (sym c.in_ok-held-in-Tombstone.ensures) in
    let place = its.place ∙ ap (λ (from : ℕ). tombstone_at from its.value) (behind (goal.at.returns-else-next-row c).In_ok-kind) in
    rw (reads (goal.at.returns-else-next-row c).Else-version-ne-BLOB_VERSION, ← c.in_ok-kind.ensures, c.in-Tombstone.is, its.read, ends _ _ _ c.if-next-row.false)
    (ap (λ (at : TombstoneAt). accepted (held_at.Tombstone at)) place)

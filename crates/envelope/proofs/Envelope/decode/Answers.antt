-- `envelope::Envelope::decode` meets its contract: along the layout, the body's fields are what was taken so far, and ct is what is left.
use Rattle.std.proofs.Common.{rules, ◌≡◌, ℕ, ◌+◌, ◌-◌, ◌≤◌, List, Err, length, drop, arith}
use mathlib.Core.Path.{refl, sym}
use lib.ListN.{length-drop}
use lib.Dec.{lit<}
use Rattle.layout.specs.Questions.{SEALED_LENGTH}
use Rattle.layout.specs.Form.{u8, to_end}
use Rattle.layout.specs.Layout.{read_row}
use Rattle.layout.specs.RowLaws.{Bytes}
use Rattle.layout.specs.Veil.{plain, veiled}
use Rattle.layout.proofs.Front.{number-lawful}
use Rattle.layout.proofs.At.{typed, took, takes_at}
use Rattle.layout.proofs.Along.{along, asked_of, row-along}
use Rattle.fields.proofs.Runs.{run-stands}
use Rattle.sealed.proofs.Text.{text-took}
use Rattle.envelope.specs.Envelope.{any_length, body}
use Rattle.envelope.proofs.Image.{body-fields}
use Rattle.envelope.proofs.Envelope.decode.Goals as goal
use Rattle.envelope.proofs.Envelope.decode.Goals.{In_ok-c_at}

reads : (row : List ℕ) → Bytes row → read_row body row ≡ asked_of (along body row 0)
reads row by = row-along row by body body-fields tt

-- the tag lies in the input, and c behind it
tag-lies : (c : In_ok-c_at) → c.in_ok-tag_at.tag_at + 16 ≤ length c.args.input.now
tag-lies c =
    let t = run-stands c.args.input.now 0 plain 16 (typed _ c.type_inv.input) c.in_ok-tag_at.ensures.0 c.in_ok-tag_at.ensures.1 (omega arith) in
    omega (arith, t.0, t.1)

c-lies : (c : In_ok-c_at) → c.in_ok-c_at.c_at + 16 ≤ length c.args.input.now
c-lies c =
    let t = run-stands c.args.input.now _ plain 16 (typed _ c.type_inv.input) c.in_ok-c_at.ensures.0 c.in_ok-c_at.ensures.1 (omega (arith, tag-lies c, c.in_ok-tag_at.ensures.1)) in
    omega (arith, t.0, t.1)

pub returns-in_err-tag_at : goal.returns-in_err-tag_at
returns-in_err-tag_at c =
    let no : c.from_residual.result ≡ Err c.in_err-tag_at.field-0.0 = search rules in
    rw (no, reads _ (typed _ c.type_inv.input), ← c.in_err-tag_at.ensures.0) refl

pub returns-in_err-c_at : goal.returns-in_err-c_at
returns-in_err-c_at c =
    let no : c.from_residual-in_err-c_at.result ≡ Err c.in_err-c_at.field-0.0 = search rules in
    rw (no, reads _ (typed _ c.type_inv.input), ← c.in_ok-tag_at.ensures.0, ← c.in_err-c_at.ensures.0) refl

pub returns-in_err-expiry_min : goal.returns-in_err-expiry_min
returns-in_err-expiry_min c =
    let no : c.from_residual-in_err-expiry_min.result ≡ Err c.in_err-expiry_min.field-0.0 = search rules in
    rw (no, reads _ (typed _ c.type_inv.input), ← c.in_ok-tag_at.ensures.0, ← c.in_ok-c_at.ensures.0, ← c.in_err-expiry_min.ensures) refl

pub returns-in_err-copies : goal.returns-in_err-copies
returns-in_err-copies c =
    let no : c.from_residual-in_err-copies.result ≡ Err c.in_err-copies.field-0.0 = search rules in
    rw (no, reads _ (typed _ c.type_inv.input), ← c.in_ok-tag_at.ensures.0, ← c.in_ok-c_at.ensures.0, ← c.in_ok-expiry_min.ensures, ← c.in_err-copies.ensures) refl

pub copy_array-requires : goal.copy_array-requires
copy_array-requires c = (lit< tt, tag-lies (goal.at.copy_array-requires c).In_ok-c_at)

pub copy_array-requires-2 : goal.copy_array-requires-2
copy_array-requires-2 c = (lit< tt, c-lies (goal.at.copy_array-requires-2 c).In_ok-c_at)

pub returns : goal.returns
returns c =
    let row : List ℕ = c.args.input.now in
    let by : Bytes row = typed row c.type_inv.input in
    let ct : ℕ = c.in_ok-copies.at4 in
    let inside : ct ≤ length row = (took row c.in_ok-expiry_min.at3 u8 (number-lawful 1) by (sym c.in_ok-copies.ensures)).inside in
    let text = text-took veiled SEALED_LENGTH any_length row ct inside refl in
    let left = takes_at row ct (to_end veiled SEALED_LENGTH any_length) text.reads text.inside in
    let place : length row - length (drop ct row) ≡ ct = rw length-drop (omega arith) in
    rw (reads row by, ← c.in_ok-tag_at.ensures.0, ← c.in_ok-c_at.ensures.0, ← c.in_ok-expiry_min.ensures, ← c.in_ok-copies.ensures, left, c.copy_array.ensures, c.copy_array-2.ensures)
    (rw place refl)

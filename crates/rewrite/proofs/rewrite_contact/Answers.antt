-- `rewrite::rewrite_contact` meets its contract: without room nothing is read; with room, reading says whether the row is written, and writing stores it.
use Rattle.std.proofs.Common.{rules, ◌≡◌, ℕ, Err}
use mathlib.Core.Path.{refl, ap, ◌∙◌}
use Rattle.layout.specs.Write.{refuses}
use Rattle.layout.proofs.At.{typed}
use Rattle.contact.specs.Contact.{held_in}
use Rattle.contact.proofs.Read.{opened-is}
use Rattle.rewrite.specs.Rewrite.{leaves}
use Rattle.rewrite.proofs.Contact.{no_room, refused, granted}
use Rattle.rewrite.proofs.rewrite_contact.Goals as goal

pub returns-then-out-row : goal.returns-then-out-row
returns-then-out-row c =
    let lent = held_in c.args.lists.now in (
      ap (λ (q : ℕ). leaves (refuses q) lent c.args.out.now) (rw c.read.ensures at c.without_room.ensures)
          ∙ no_room c.args.version c.args.row.now lent c.args.out.now c.if-out-row.true,
      (refl, refl, refl, refl, refl),
    )

pub returns-in_err-checked : goal.returns-in_err-checked
returns-in_err-checked c =
    let no : c.from_residual.result ≡ Err c.in_err-checked.field-0.0 = search rules in
    let read = opened-is c.args.version c.args.row.now _ c.in_err-checked.ensures refl in
    rw no (refused c.args.version c.args.row.now _ c.args.out.now c.if-out-row.false read, (refl, refl, refl, refl, refl))

pub returns-in_err-fill : goal.returns-in_err-fill
returns-in_err-fill c =
    let no : c.from_residual-in_err-fill.result ≡ Err c.in_err-fill.field-0.0 = search rules in
    let read = opened-is c.args.version c.args.row.now _ c.in_ok-checked.ensures c.in_err-fill.ensures.0 in
    rw no (refused c.args.version c.args.row.now _ c.args.out.now c.if-out-row.false read, c.in_err-fill.ensures.1)

pub returns : goal.returns
returns c =
    let read = opened-is c.args.version c.args.row.now _ c.in_ok-checked.ensures c.in_ok-fill.ensures.0 in (
      granted c.args.version c.args.row.now _ c.args.out.now c.if-out-row.false (typed c.args.row.now c.type_inv.row) read (rw c.read-2.ensures at c.write_again.ensures),
      c.in_ok-fill.ensures.1,
    )

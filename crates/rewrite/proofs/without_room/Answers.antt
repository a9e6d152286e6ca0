-- `rewrite::without_room` meets its contract: what the check answered, then 36 by the counts that it found.
use Rattle.std.proofs.Common.{◌≡◌}
use mathlib.Core.Path.{refl, sym, ◌∙◌}
use Rattle.layout.specs.Layout.{accepted, read_row}
use Rattle.layout.proofs.At.{typed}
use Rattle.rows.specs.Rows.{contact}
use Rattle.contact.specs.Check.{contact_from}
use Rattle.contact.specs.Contact.{read_in, long_enough}
use Rattle.contact.proofs.Placed.{placed, unplaced}
use Rattle.contact.proofs.Read.{counts-are}
use Rattle.rewrite.proofs.without_room.Goals as goal
use Rattle.rewrite.proofs.without_room.Goals.{After-long_enough}

-- 36 is asked of the row's counts
enough : (c : After-long_enough) → (read_row (contact c.args.version) c.args.row.now ≡ accepted (contact_from c.args.row.now c.in-Ok.at))
    × (long_enough (contact_from c.args.row.now c.in-Ok.at) (read_in c.args.lists) ≡ c.long_enough.result)
enough c =
    let by = typed c.args.row.now c.type_inv.row in
    let its = placed c.args.row.now by c.args.version (rw c.in-Ok.is at c.check_contact.ensures) in
    (its.0, counts-are c.args.row.now by c.in-Ok.at its.1 _ ∙ sym c.long_enough.ensures)

pub returns-in-Err : goal.returns-in-Err
returns-in-Err c = rw (unplaced c.args.row.now (typed c.args.row.now c.type_inv.row) c.args.version (rw c.in-Err.is at c.check_contact.ensures)) refl

pub returns-then-long_enough : goal.returns-then-long_enough
returns-then-long_enough c =
    let k = enough (goal.at.returns-then-long_enough c).After-long_enough in
    rw (k.0, k.1, c.if-long_enough.true) refl

pub returns : goal.returns
returns c =
    let k = enough (goal.at.returns c).After-long_enough in
    rw (k.0, k.1, c.if-long_enough.false) refl

-- `courier_row::read_courier` meets its contract: checked, then copied.
use Rattle.std.proofs.Common.{rules, ◌≡◌, ℕ, ◌-◌, List, Err, length, arith}
use mathlib.Core.Path.{refl}
use native.Mathlib.Nat.{sub-zero}
use lib.ListN.{length-drop}
use Rattle.layout.proofs.At.{typed}
use Rattle.courier.specs.Courier.{Offsets, sealed_at, held_from}
use Rattle.courier.specs.declared.HeldAt.{HeldAt}
use Rattle.courier.specs.declared.HeldAt.TheVariants.{Carried, Tombstone}
use Rattle.courier.proofs.Placed.{held-says, held-not}
use Rattle.courier_row.specs.Row.{text_of}
use Rattle.courier_row.proofs.read_courier.Goals as goal

-- the sealed text starts where its length tells
starts : (row : List ℕ) (at : HeldAt) → Offsets row at → length row - length (text_of (held_from row at)) ≡ sealed_at row at
starts row (Carried at) p = simp length-drop (omega (arith, p.sealed))
starts row (Tombstone at) p = simp sub-zero

pub returns-in_err-at : goal.returns-in_err-at
returns-in_err-at c =
    let no : c.from_residual.result ≡ Err c.in_err-at.field-0.0 = search rules in
    rw (no, ← held-not c.args.row.now (typed _ c.type_inv.row) c.args.version c.in_err-at.ensures) refl

pub held_from-requires : goal.held_from-requires
held_from-requires c = (held-says c.args.row.now (typed _ c.type_inv.row) c.args.version c.in_ok-at.ensures).1

pub returns : goal.returns
returns c =
    let row = c.args.row.now in
    let says = held-says row (typed _ c.type_inv.row) c.args.version c.in_ok-at.ensures in
    rw (← says.0, c.held_from.ensures, c.sealed_at.ensures, starts row c.in_ok-at.at says.1) refl

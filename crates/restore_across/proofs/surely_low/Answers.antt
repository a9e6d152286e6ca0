-- `restore_across::surely_low` meets its contract: by the bytes that stand at the places of the kind and of the depositor.
use mathlib.Core.Path.{sym}
use borrow.Author.Tests.{ltb-true}
use Rattle.layout.proofs.At.{typed}
use Rattle.restore_across.proofs.Depositor.{no_kind, other-kind, no-depositor, below_next}
use Rattle.restore_across.proofs.surely_low.Goals as goal

pub returns-in_default : goal.returns-in_default
returns-in_default c = λ yes version. no_kind c.args.row.now (typed _ c.type_inv.row) version _ (sym c.in_default.ensures)

pub returns-then-kind-from : goal.returns-then-kind-from
returns-then-kind-from c = λ yes version. other-kind c.args.row.now (typed _ c.type_inv.row) version _ (sym c.in-Ok.ensures) (rw c.from.ensures at c.if-kind-from.true)

pub returns-in_default-u64_at : goal.returns-in_default-u64_at
returns-in_default-u64_at c = λ yes version. no-depositor c.args.row.now (typed _ c.type_inv.row) version _ (sym c.in-Ok.ensures) (sym c.in_default-u64_at.ensures)

pub returns : goal.returns
returns c = λ yes version. below_next c.args.row.now (typed _ c.type_inv.row) version _ (sym c.in-Ok.ensures) (sym c.in-Ok-u64_at.ensures) (ltb-true _ _ yes)

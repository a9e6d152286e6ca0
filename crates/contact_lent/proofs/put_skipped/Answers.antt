-- `contact_lent::put_skipped` meets its contract: skipped keys fill their places, so that the places are written as they stand.
use mathlib.Core.Path.{◌≡◌}
use mathlib.Core.List.{List}
use Prim.Native.Nat.{ℕ, ◌*◌, ◌≤◌}
use native.Mathlib.Omega.{arith}
use lib.ListN.{length}
use lib.Seq.{length-take-le}
use borrow.Author.Rules.{rules}
use Rattle.layout.specs.Form.{print_many}
use Rattle.layout.specs.Layout.{group}
use Rattle.layout.specs.RowLaws.{Bytes}
use Rattle.layout.proofs.At.{typed}
use Rattle.rows.specs.Rows.{skipped}
use Rattle.contact_lent.specs.Lent.{Granted, skipped_of}
use Rattle.contact_lent.proofs.Records.{skipped-row}
use Rattle.contact_lent.proofs.put_skipped.Goals as goal

long : (n : ℕ) (l : List ℕ) → Bytes l → 46 * n ≤ length l → Granted 46 (group skipped) n l → length (print_many (group skipped) (skipped_of n l)) ≡ 46 * n
long n l by room granted = rw (skipped-row n l by room granted) (length-take-le _ _ room)

pub put_run-requires : goal.put_run-requires
put_run-requires c =
    (omega (arith, long c.args.count c.args.lent.now (typed _ c.type_inv.lent) c.requires.0 c.requires.1, c.requires.2), search rules)

pub returns : goal.returns
returns c = (
  omega (arith, long c.args.count c.args.lent.now (typed _ c.type_inv.lent) c.requires.0 c.requires.1, c.put_run.ensures.0),
  rw (skipped-row c.args.count c.args.lent.now (typed _ c.type_inv.lent) c.requires.0 c.requires.1) c.put_run.ensures.1,
)

-- `restore_across::going_owner` meets its contract: where it was found, the tactics find it.
use mathlib.Core.Path.{sym, subst}
use Rattle.restore_across.specs.Across.{Going, OwnerFor}
use Rattle.restore_across.proofs.Read.{none-found}
use Rattle.restore_across.proofs.going_owner.Goals as goal

pub returns-then-upto-p : goal.returns-then-upto-p
returns-then-upto-p c =
    let a = c.args in
    subst (OwnerFor a.run.now a.omitted a.c a.p a.upto (Going a.w)) (sym c.no_owner.ensures) (none-found a.run.now a.omitted a.c a.p a.upto (Going a.w) c.if-upto-p.true)

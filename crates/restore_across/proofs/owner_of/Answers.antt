-- `restore_across::owner_of` meets its contract: as `going_owner` answers, and behind a refusal the contact's own row or nothing.
use mathlib.Core.Path.{sym, subst}
use Rattle.restore_across.specs.Across.{across_by, OwnerFor}
use Rattle.restore_across.proofs.Read.{none-found}
use Rattle.restore_across.proofs.owner_of.Goals as goal

pub returns-in-Ok : goal.returns-in-Ok
returns-in-Ok g c =
    let a = c.args in
    subst (λ state. OwnerFor a.run.now a.omitted a.c a.p a.upto (across_by g.R.Numbered.number state) c.going_owner.result) (sym c.in-Ok.is) c.going_owner.ensures

pub returns-in-Err : goal.returns-in-Err
returns-in-Err g c =
    let a = c.args in
    subst (OwnerFor a.run.now a.omitted a.c a.p a.upto (across_by g.R.Numbered.number a.state)) (sym c.no_owner.ensures) (none-found a.run.now a.omitted a.c a.p a.upto (across_by g.R.Numbered.number a.state) c.if-upto-p.true)

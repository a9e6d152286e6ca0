-- `restore_across::owner_from` meets its contract.
use mathlib.Core.Path.{refl, sym, ◌∙◌}
use Rattle.store.specs.Store.{part_of}
use Rattle.restore_across.proofs.Read.{omitted-for}
use Rattle.restore_across.proofs.owner_from.Goals as goal

pub returns-then-is_omitted : goal.returns-then-is_omitted
returns-then-is_omitted c =
    let a = c.args in
    rw (sym c.is_omitted.ensures ∙ c.if-is_omitted.true, c.owner_omitted.ensures) (λ known. (refl, omitted-for a.omitted (part_of a.run.now a.c)))

-- `utf8::is_utf8` meets its contract. The invariant: what is left of the name answers as the whole name.
use mathlib.Core.Path.{refl, sym, subst, ◌∙◌}
use native.Mathlib.Omega.{arith}
use Rattle.utf8.specs.Lead as table
use Rattle.utf8.specs.Lead.{Character}
use Rattle.utf8.proofs.Utf8.{none_left, alone}
use Rattle.utf8.proofs.is_utf8.Goals as goal

pub lead_in-lead-requires : goal.lead_in-lead-requires
unfolding table.leads
lead_in-lead-requires c = refl

pub loop-i-preserved-then-lead-eq1 : goal.loop-i-preserved-then-lead-eq1
loop-i-preserved-then-lead-eq1 c =
    let single : Character c.args.name.now c.loop-i.i 1 = subst (Character _ _) c.if-lead-eq1.true (alone _ _ c.loop-i-test.true _ c.lead_in-lead.ensures (omega arith)) in
    (single.inside, sym (single.whole (omega arith)) ∙ c.loop-i.invariant.1)

pub character-n-requires : goal.character-n-requires
character-n-requires c = (c.loop-i-test.true, c.lead_in-lead.ensures)

pub returns-then-n-eq0 : goal.returns-then-n-eq0
returns-then-n-eq0 c = sym (c.character-n.ensures.missing c.if-n-eq0.true) ∙ c.loop-i.invariant.1

pub overflow_add-i-else-lead-eq1 : goal.overflow_add-i-else-lead-eq1
overflow_add-i-else-lead-eq1 c = omega (arith, c.character-n.ensures.inside)

pub loop-i-smaller : goal.loop-i-smaller
loop-i-smaller c = omega (arith, c.character-n.ensures.inside)

pub loop-i-preserved : goal.loop-i-preserved
loop-i-preserved c =
    let stands = c.character-n.ensures in
    (stands.inside, sym (stands.whole (omega arith)) ∙ c.loop-i.invariant.1)

pub returns : goal.returns
returns c = sym (none_left _ c.loop-i.i (omega arith)) ∙ c.loop-i.invariant.1

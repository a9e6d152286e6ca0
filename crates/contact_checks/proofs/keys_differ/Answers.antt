-- `contact_checks::keys_differ` meets its contract. The invariant: the keys behind are distinct, and the filter has them.
use Rattle.std.proofs.Common.{ℕ, ◌+◌, ◌-◌, ◌≡◌, refl, sym, ap, ◌∙◌, true, false, map, length, drop, eqb, rules, arith}
use Rattle.rows.specs.Checks.{any, distinct}
use Rattle.filter.specs.Filter.{mixed, is_set}
use Rattle.contact_checks.specs.Cells.{key_number}
use Rattle.contact_checks.proofs.Keys.{none-behind, numbers-behind}
use Rattle.contact_checks.proofs.Behind.{Has, not-distinct, is-new, goes_on}
use Rattle.contact_checks.proofs.keys_differ.Goals as goal
use Rattle.contact_checks.proofs.keys_differ.Goals.{After-comes_again, After-add}

pub loop-i-init : goal.loop-i-init
loop-i-init c = rw (none-behind c.args.keys.now (length c.args.keys.now) (omega arith)) (refl, tt, refl)

asked : (c : After-comes_again) → c.comes_again.result ≡ any (eqb c.number_at-key.result) (drop c.loop-i.i (map key_number c.args.keys.now))
asked c =
    let next : c.loop-i.i - 1 + 1 ≡ c.loop-i.i = omega arith in
    c.comes_again.ensures ∙ ap (any (eqb c.number_at-key.result)) (numbers-behind c.args.keys.now (c.loop-i.i - 1 + 1) ∙ ap (λ (k : ℕ). drop k (map key_number c.args.keys.now)) next)

-- where the key is new: the invariant, of it and those behind
on : (c : After-add) → any (eqb c.number_at-key.result) (drop c.loop-i.i (map key_number c.args.keys.now)) ≡ false
    → (distinct eqb (drop (c.loop-i.i - 1) (map key_number c.args.keys.now)) ≡ true) × Has c.add.new.bits (drop (c.loop-i.i - 1) (map key_number c.args.keys.now))
on c new =
    rw (c.add.ensures.1, c.mix.ensures)
    (goes_on c.args.keys.now c.loop-i.i c.number_at-key.result c.loop-i-test.true (omega arith) c.number_at-key.ensures.0 c.loop-i.bits new c.loop-i.invariant.0 c.loop-i.invariant.1)

pub returns-then-comes_again : goal.returns-then-comes_again
returns-then-comes_again c =
    sym (not-distinct c.args.keys.now c.loop-i.i c.number_at-key.result c.loop-i-test.true (omega arith) c.number_at-key.ensures.0 (sym (asked (goal.at.returns-then-comes_again c).After-comes_again) ∙ c.if-comes_again.true))

pub loop-i-preserved-else-comes_again : goal.loop-i-preserved-else-comes_again
loop-i-preserved-else-comes_again c =
    let n = on (goal.at.loop-i-preserved-else-comes_again c).After-add (sym (asked (goal.at.loop-i-preserved-else-comes_again c).After-comes_again) ∙ c.if-comes_again.false) in
    (n.0, n.1, search rules)

pub loop-i-preserved : goal.loop-i-preserved
loop-i-preserved c =
    let clear : is_set c.loop-i.bits (mixed c.number_at-key.result) ≡ false = rw (← c.mix.ensures) (sym c.add.ensures.0 ∙ c.if-add.false) in
    let n = on (goal.at.loop-i-preserved c).After-add (is-new c.loop-i.bits c.number_at-key.result (drop c.loop-i.i (map key_number c.args.keys.now)) clear c.loop-i.invariant.1) in
    (n.0, n.1, search rules)

pub returns : goal.returns
returns c = let none : c.loop-i.i ≡ 0 = omega arith in sym (rw none at c.loop-i.invariant.0)

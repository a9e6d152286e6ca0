-- `contact_checks::keys_rise` meets its contract: a turn asks the first of the keys that are left.
use Rattle.std.proofs.Common.{◌+◌, ◌∷◌, ◌≡◌, refl, map, drop}
use Rattle.contact_checks.specs.Cells.{key_number}
use Rattle.contact_checks.proofs.Turns.{ascends-low, ascends-on, ascends-end}
use Rattle.contact_checks.proofs.Keys.{one-before, none-behind}
use Rattle.contact_checks.proofs.keys_rise.Goals as goal
use Rattle.contact_checks.proofs.keys_rise.Goals.{After-number_at-key}

here : (c : After-number_at-key) → drop c.loop-place.place-index (map key_number c.args.keys.now) ≡ c.number_at-key.result ∷ drop (c.loop-place.place-index + 1) (map key_number c.args.keys.now)
here c = rw c.number_at-key.ensures.0 (one-before c.args.keys.now c.loop-place.place-index c.loop-place-test.true)

pub loop-place-init : goal.loop-place-init
loop-place-init c = record { so = refl }

pub returns-then-key-low : goal.returns-then-key-low
returns-then-key-low c = ascends-low c.loop-place.invariant (here (goal.at.returns-then-key-low c).After-number_at-key) c.if-key-low.true

pub loop-place-preserved : goal.loop-place-preserved
loop-place-preserved c = ascends-on c.loop-place.invariant (here (goal.at.loop-place-preserved c).After-number_at-key) c.if-key-low.false

pub returns : goal.returns
returns c = ascends-end c.loop-place.invariant (none-behind c.args.keys.now c.loop-place.place-index c.loop-place-test.false)

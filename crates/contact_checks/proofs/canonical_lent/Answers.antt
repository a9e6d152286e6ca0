-- `contact_checks::canonical_lent` meets its contract. The invariant: the ranges from the i-th on answer as all of them.
use Prim.Native.Nat.{◌+◌}
use mathlib.Core.List.{◌∷◌}
use mathlib.Core.Path.{◌≡◌, refl}
use native.Mathlib.Omega.{arith}
use lib.ListN.{drop}
use Rattle.received.specs.Lent.{pairs}
use Rattle.received.proofs.Pairs.{drop-pairs, drop-pairs-all}
use Rattle.contact_checks.proofs.Turns.{ordered-turned, ordered-low, ordered-high, ordered-on, ordered_end}
use Rattle.contact_checks.proofs.canonical_lent.Goals as goal
use Rattle.contact_checks.proofs.canonical_lent.Goals.{After-from-b}

here : (c : After-from-b) → drop c.loop-i.i (pairs c.args.count c.args.list.now) ≡ record { from = c.from-a.result; to = c.from-b.result } ∷ drop (c.loop-i.i + 1) (pairs c.args.count c.args.list.now)
here c = rw (c.from-a.ensures, c.from-b.ensures) (drop-pairs c.args.list.now c.args.count c.loop-i.i c.loop-i-test.true c.requires.0)

pub loop-i-init : goal.loop-i-init
loop-i-init c = record { so = refl }

pub returns-then-b-a : goal.returns-then-b-a
returns-then-b-a c = ordered-turned c.loop-i.invariant (here (goal.at.returns-then-b-a c).After-from-b) c.if-b-a.true

pub returns-then-a-low : goal.returns-then-a-low
returns-then-a-low c = ordered-low c.loop-i.invariant (here (goal.at.returns-then-a-low c).After-from-b) c.if-b-a.false c.if-a-low.true

pub returns-then-from-b : goal.returns-then-from-b
returns-then-from-b c = ordered-high c.loop-i.invariant (here (goal.at.returns-then-from-b c).After-from-b) c.if-b-a.false c.if-a-low.false (omega arith)

pub loop-i-preserved : goal.loop-i-preserved
loop-i-preserved c = ordered-on c.loop-i.invariant (here (goal.at.loop-i-preserved c).After-from-b) c.if-b-a.false c.if-a-low.false (omega arith)

pub returns : goal.returns
returns c =
    ordered_end c.loop-i.invariant (drop-pairs-all c.args.list.now c.args.count c.loop-i.i c.loop-i-test.false c.requires.0)

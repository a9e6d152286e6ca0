-- `contact_checks::rising_lent` meets its contract: a turn asks the first of the numbers that are left.
use Prim.Native.Nat.{◌+◌}
use mathlib.Core.List.{◌∷◌}
use mathlib.Core.Path.{◌≡◌, refl}
use native.Mathlib.Omega.{arith}
use native.Mathlib.Numerals.{add-one}
use lib.ListN.{take, drop, drop_of_length-le}
use lib.Seq.{drop-cons}
use Rattle.contact_checks.proofs.Turns.{rising-low, rising-high, rising-on, rising-end}
use Rattle.contact_checks.proofs.rising_lent.Goals as goal
use Rattle.contact_checks.proofs.rising_lent.Goals.{After-from-n}

here : (c : After-from-n) → drop c.loop-n.n-index (take c.args.count c.args.list.now) ≡ c.from-n.result ∷ drop (c.loop-n.n-index + 1) (take c.args.count c.args.list.now)
here c =
    let i = c.loop-n.n-index in
    rw (add-one i, drop-cons (take c.args.count c.args.list.now) i 0 c.loop-n-test.true, c.from-n.ensures)

pub loop-n-init : goal.loop-n-init
loop-n-init c = record { so = refl }

pub returns-then-n-low : goal.returns-then-n-low
returns-then-n-low c = rising-low c.loop-n.invariant (here (goal.at.returns-then-n-low c).After-from-n) c.if-n-low.true

pub returns-then-from-n : goal.returns-then-from-n
returns-then-from-n c = rising-high c.loop-n.invariant (here (goal.at.returns-then-from-n c).After-from-n) c.if-n-low.false (omega arith)

pub loop-n-preserved : goal.loop-n-preserved
loop-n-preserved c = rising-on c.loop-n.invariant (here (goal.at.loop-n-preserved c).After-from-n) c.if-n-low.false (omega arith)

pub returns : goal.returns
returns c = rising-end c.loop-n.invariant (drop_of_length-le (take c.args.count c.args.list.now) {i = c.loop-n.n-index} c.loop-n-test.false)

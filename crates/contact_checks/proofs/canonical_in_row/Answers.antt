-- `contact_checks::canonical_in_row` meets its contract: a turn asks the range that stands there (`turn_at`).
use Prim.Native.Nat.{◌+◌, ◌*◌}
use mathlib.Core.List.{List}
use mathlib.Core.Bool.{◌&&◌}
use mathlib.Core.Path.{ap}
use native.Mathlib.Omega.{arith}
use native.Mathlib.Nat.{sub-zero, add-zero}
use Rattle.layout.specs.Layout.{group}
use Rattle.rows.specs.Values.{Range}
use Rattle.rows.specs.Checks.{canonical, none_above}
use Rattle.rows.specs.Rows.{range}
use Rattle.contact_checks.proofs.Turns.{ordered-turned, ordered-low, ordered-high, ordered-on, ordered_end}
use Rattle.contact_checks.proofs.Cells.{TurnAt, standing, all_shown, turn_at, none_left}
use Rattle.contact_checks.proofs.Fields.{range_at, range-shows, BeginAt, range-read_at}
use Rattle.contact_checks.proofs.canonical_in_row.Goals as goal
use Rattle.contact_checks.proofs.canonical_in_row.Goals.{In-loop-i, After-be32-b}

turned : (c : In-loop-i) → TurnAt 8 range_at c.args.row.now c.args.first c.args.count c.loop-i.i
turned c = turn_at 8 range_at c.args.row.now c.args.first c.args.count c.loop-i.i c.loop-i-test.true c.loop-i.invariant.0

here : (c : After-be32-b) → BeginAt c.args.row.now c.args.first c.args.count c.loop-i.i c.be32-a.result c.be32-b.result
here c = range-read_at (turn_at 8 range_at _ _ _ _ c.loop-i-test.true c.loop-i.invariant.0) c.be32-a.ensures.0 c.be32-b.ensures.0

pub loop-i-init : goal.loop-i-init
loop-i-init c =
    let a = c.args in
    let m = standing (λ l. 8) range_at (λ r. r) (group range) range-shows a.row.now a.first a.count c.requires.0 in
    rw (sub-zero, add-zero) (m.rooms, record { so = ap (λ (rs : List Range). canonical a.from rs && none_above a.high rs) (all_shown (λ l. 8) range_at m) })

pub overflow_mul-p : goal.overflow_mul-p
overflow_mul-p c = omega (arith, (turned (goal.at.overflow_mul-p c).In-loop-i).fits)

pub overflow_add-p : goal.overflow_add-p
overflow_add-p c = omega (arith, (turned (goal.at.overflow_add-p c).In-loop-i).fits)

pub be32-a-requires : goal.be32-a-requires
be32-a-requires c = omega (arith, (turned (goal.at.be32-a-requires c).In-loop-i).fits)

pub overflow_add-p-in-loop-i : goal.overflow_add-p-in-loop-i
overflow_add-p-in-loop-i c = omega (arith, (turned (goal.at.overflow_add-p-in-loop-i c).In-loop-i).fits)

pub be32-b-requires : goal.be32-b-requires
be32-b-requires c = omega (arith, (turned (goal.at.be32-b-requires c).In-loop-i).fits)

pub returns-then-b-a : goal.returns-then-b-a
returns-then-b-a c = ordered-turned c.loop-i.invariant.1 (here (goal.at.returns-then-b-a c).After-be32-b) c.if-b-a.true

pub returns-then-a-low : goal.returns-then-a-low
returns-then-a-low c = ordered-low c.loop-i.invariant.1 (here (goal.at.returns-then-a-low c).After-be32-b) c.if-b-a.false c.if-a-low.true

pub returns-then-from-b : goal.returns-then-from-b
returns-then-from-b c = ordered-high c.loop-i.invariant.1 (here (goal.at.returns-then-from-b c).After-be32-b) c.if-b-a.false c.if-a-low.false (omega arith)

pub loop-i-preserved : goal.loop-i-preserved
loop-i-preserved c =
    ((turned (goal.at.loop-i-preserved c).In-loop-i).rooms, ordered-on c.loop-i.invariant.1 (here (goal.at.loop-i-preserved c).After-be32-b) c.if-b-a.false c.if-a-low.false (omega arith))

pub returns : goal.returns
returns c = ordered_end c.loop-i.invariant.1 (none_left (λ l. 8) range_at c.args.row.now c.args.count c.loop-i.i (c.args.first + 8 * c.loop-i.i) c.loop-i-test.false)

-- `contact_checks::rising_in_row` meets its contract: a turn asks the number that stands there (`turn_at`).
use Prim.Native.Nat.{◌+◌, ◌-◌, ◌*◌}
use mathlib.Core.List.{◌∷◌}
use mathlib.Core.Path.{◌≡◌, ap}
use native.Mathlib.Omega.{arith}
use native.Mathlib.Nat.{sub-zero, add-zero}
use lib.ListN.{drop}
use Rattle.layout.specs.Form.{big_endian, u32}
use Rattle.rows.specs.Checks.{rising}
use Rattle.contact_checks.proofs.Turns.{rising-low, rising-high, rising-on, rising-end}
use Rattle.contact_checks.proofs.Cells.{TurnAt, standing, all_shown, turn_at, none_left}
use Rattle.contact_checks.proofs.Fields.{number-shows}
use Rattle.contact_checks.proofs.rising_in_row.Invariants.{numbers}
use Rattle.contact_checks.proofs.rising_in_row.Goals as goal
use Rattle.contact_checks.proofs.rising_in_row.Goals.{In-loop-i, After-be32-n}

turned : (c : In-loop-i) → TurnAt 4 (big_endian 4) c.args.row.now c.args.first c.args.count c.loop-i.i
turned c = turn_at 4 (big_endian 4) c.args.row.now c.args.first c.args.count c.loop-i.i c.loop-i-test.true c.loop-i.invariant.0

here : (c : After-be32-n) → numbers (c.args.count - c.loop-i.i) (drop (c.args.first + 4 * c.loop-i.i) c.args.row.now)
    ≡ c.be32-n.result ∷ numbers (c.args.count - (c.loop-i.i + 1)) (drop (c.args.first + 4 * (c.loop-i.i + 1)) c.args.row.now)
here c = rw c.be32-n.ensures.0 (turn_at 4 (big_endian 4) _ _ _ _ c.loop-i-test.true c.loop-i.invariant.0).here

pub loop-i-init : goal.loop-i-init
loop-i-init c =
    let m = standing (λ l. 4) (big_endian 4) (λ n. n) u32 (number-shows 4) c.args.row.now c.args.first c.args.count c.requires in
    rw (sub-zero, add-zero) (m.rooms, record { so = ap (rising 1 c.args.sent) (all_shown (λ l. 4) (big_endian 4) m) })

pub overflow_mul-i : goal.overflow_mul-i
overflow_mul-i c = omega (arith, (turned (goal.at.overflow_mul-i c).In-loop-i).fits)

pub overflow_add-first : goal.overflow_add-first
overflow_add-first c = omega (arith, (turned (goal.at.overflow_add-first c).In-loop-i).fits)

pub be32-n-requires : goal.be32-n-requires
be32-n-requires c = omega (arith, (turned (goal.at.be32-n-requires c).In-loop-i).fits)

pub returns-then-n-low : goal.returns-then-n-low
returns-then-n-low c = rising-low c.loop-i.invariant.1 (here (goal.at.returns-then-n-low c).After-be32-n) c.if-n-low.true

pub returns-then-from-n : goal.returns-then-from-n
returns-then-from-n c = rising-high c.loop-i.invariant.1 (here (goal.at.returns-then-from-n c).After-be32-n) c.if-n-low.false (omega arith)

pub loop-i-preserved : goal.loop-i-preserved
loop-i-preserved c =
    ((turned (goal.at.loop-i-preserved c).In-loop-i).rooms, rising-on c.loop-i.invariant.1 (here (goal.at.loop-i-preserved c).After-be32-n) c.if-n-low.false (omega arith))

pub returns : goal.returns
returns c = rising-end c.loop-i.invariant.1 (none_left (λ l. 4) (big_endian 4) c.args.row.now c.args.count c.loop-i.i (c.args.first + 4 * c.loop-i.i) c.loop-i-test.false)

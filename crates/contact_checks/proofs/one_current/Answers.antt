-- `contact_checks::one_current` meets its contract. The invariant: the chains that are left answer as all of them.
use mathlib.Core.Path.{refl}
use native.Mathlib.Omega.{arith}
use native.Mathlib.Nat.{sub-zero}
use Rattle.contact_checks.specs.Cells.{superseded_at, chain_width}
use Rattle.contact_checks.proofs.Turns.{currents-two, currents-on, currents-end}
use Rattle.contact_checks.proofs.Chains.{width-least}
use Rattle.contact_checks.proofs.Cells.{Turn, turn, none_left}
use Rattle.contact_checks.proofs.one_current.Goals as goal
use Rattle.contact_checks.proofs.one_current.Goals.{In-loop}

turned : (c : In-loop) → Turn (chain_width c.args.padded) superseded_at c.args.bytes.now c.args.count c.loop.counter c.loop.p
turned c = turn (chain_width c.args.padded) superseded_at c.args.bytes.now c.args.count c.loop.counter c.loop.p c.loop-test.true c.loop.invariant.0

pub loop-init : goal.loop-init
loop-init c = rw sub-zero (c.requires, omega arith, record { so = refl })

pub current_at-found-requires : goal.current_at-found-requires
current_at-found-requires c = omega (arith, (turned (goal.at.current_at-found-requires c).In-loop).fits, width-least c.args.bytes.now c.loop.p c.args.padded)

pub returns-then-found-gt1 : goal.returns-then-found-gt1
returns-then-found-gt1 c = currents-two c.loop.invariant.2 (turned (goal.at.returns-then-found-gt1 c).In-loop).here c.current_at-found.ensures.0 c.if-found-gt1.true

pub after_chain-p-requires : goal.after_chain-p-requires
after_chain-p-requires c = omega (arith, (turned (goal.at.after_chain-p-requires c).In-loop).fits, width-least c.args.bytes.now c.loop.p c.args.padded)

pub loop-preserved : goal.loop-preserved
loop-preserved c =
    let t = turned (goal.at.loop-preserved c).In-loop in
    (rw c.after_chain-p.ensures t.rooms, omega arith, rw c.after_chain-p.ensures (currents-on c.loop.invariant.2 t.here c.current_at-found.ensures.0))

pub returns : goal.returns
returns c =
    currents-end c.loop.invariant.2 c.loop.invariant.1 (none_left (chain_width c.args.padded) superseded_at c.args.bytes.now c.args.count c.loop.counter c.loop.p c.loop-test.false)

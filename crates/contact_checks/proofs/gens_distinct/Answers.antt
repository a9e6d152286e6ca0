-- `contact_checks::gens_distinct` meets its contract. The invariant: the chains that are left answer as all of them.
use Prim.Native.Nat.{◌+◌, ◌-◌}
use mathlib.Core.List.{◌∷◌}
use mathlib.Core.Path.{◌≡◌, refl}
use native.Mathlib.Omega.{arith}
use native.Mathlib.Nat.{sub-zero}
use lib.ListN.{drop, length-set}
use Rattle.layout.proofs.At.{typed, bytes_drop}
use Rattle.contact_checks.specs.Cells.{gen_at, chain_width, gens}
use Rattle.contact_checks.proofs.Distinct.{fresh-distinct, gens-within}
use Rattle.contact_checks.proofs.Turns.{unseen-again, unseen-on, unseen-end}
use Rattle.contact_checks.proofs.Chains.{gen-at, width-least}
use Rattle.contact_checks.proofs.Cells.{Turn, turn, none_left}
use Rattle.contact_checks.proofs.gens_distinct.Goals as goal
use Rattle.contact_checks.proofs.gens_distinct.Goals.{In-loop, After-from-g}

turned : (c : In-loop) → Turn (chain_width c.args.padded) gen_at c.args.bytes.now c.args.count c.loop.counter c.loop.p
turned c = turn (chain_width c.args.padded) gen_at c.args.bytes.now c.args.count c.loop.counter c.loop.p c.loop-test.true c.loop.invariant.0

here : (c : After-from-g) → gens c.args.padded (c.args.count - c.loop.counter) (drop c.loop.p c.args.bytes.now)
    ≡ c.from-g.result ∷ gens c.args.padded (c.args.count - (c.loop.counter + 1)) (drop (c.loop.p + chain_width c.args.padded (drop c.loop.p c.args.bytes.now)) c.args.bytes.now)
here c = rw (c.from-g.ensures, ← gen-at c.args.bytes.now c.loop.p) (turn (chain_width c.args.padded) gen_at c.args.bytes.now _ _ c.loop.p c.loop-test.true c.loop.invariant.0).here

pub loop-init : goal.loop-init
loop-init c =
    let a = c.args in
    let part = drop a.first a.bytes.now in
    let by = bytes_drop a.first a.bytes.now (typed a.bytes.now c.type_inv.bytes) in
    rw sub-zero (c.requires, refl, record { so = fresh-distinct 256 (gens a.padded a.count part) (gens-within a.padded a.count part by) })

pub bounds-bytes-p : goal.bounds-bytes-p
bounds-bytes-p c = omega (arith, (turned (goal.at.bounds-bytes-p c).In-loop).fits, width-least c.args.bytes.now c.loop.p c.args.padded)

pub after_chain-p-requires : goal.after_chain-p-requires
after_chain-p-requires c = omega (arith, (turned (goal.at.after_chain-p-requires c).In-loop).fits, width-least c.args.bytes.now c.loop.p c.args.padded)

pub returns-then-seen-g : goal.returns-then-seen-g
returns-then-seen-g c = unseen-again c.loop.invariant.2 (here (goal.at.returns-then-seen-g c).After-from-g) c.if-seen-g.true

pub loop-preserved : goal.loop-preserved
loop-preserved c = (
  rw c.after_chain-p.ensures (turned (goal.at.loop-preserved c).In-loop).rooms,
  simp length-set c.loop.invariant.1,
  rw c.after_chain-p.ensures (unseen-on c.loop.invariant.2 (here (goal.at.loop-preserved c).After-from-g) c.if-seen-g.false),
)

pub returns : goal.returns
returns c =
    unseen-end c.loop.invariant.2 (none_left (chain_width c.args.padded) gen_at c.args.bytes.now c.args.count c.loop.counter c.loop.p c.loop-test.false)

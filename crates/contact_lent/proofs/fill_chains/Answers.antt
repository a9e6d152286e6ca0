-- `contact_lent::fill_chains` meets its contract. The invariant (`Filling`): i chains are copied, and the next one stands in the row at p.
use Prim.Native.Nat.{◌+◌, ◌*◌}
use mathlib.Core.Path.{◌≡◌, ◌∙◌}
use native.Mathlib.Omega.{arith}
use lib.ListN.{length, take, drop}
use Rattle.layout.specs.Layout.{print, group}
use Rattle.layout.proofs.At.{typed}
use Rattle.rows.specs.Rows.{chain}
use Rattle.rows.proofs.Lawful.{chain-lawful}
use Rattle.put.proofs.Put.{◌then◌, wrote-long}
use Rattle.contact_lent.proofs.Fill.{filling-start, filling-turn, filling-end, First, first_of, taken, padded, show-places}
use Rattle.contact_lent.proofs.Records.{ChainAt, chain-at}
use Rattle.contact_lent.proofs.fill_chains.Goals as goal
use Rattle.contact_lent.proofs.fill_chains.Goals.{In-loop-i}

-- the next chain of the row
next : (c : In-loop-i) → First (group chain) c.args.row.now c.loop-i.p
next c = first_of (group chain) c.args.row.now chain-lawful (typed c.args.row.now c.type_inv.row) c.loop-i.p c.args.count c.loop-i.i c.loop-i-test.true c.loop-i.invariant.left

its : (c : In-loop-i) → ChainAt c.args.row.now c.loop-i.p (next c).item (next c).after
its c = chain-at c.args.row.now c.loop-i.p (taken (group chain) c.args.row.now chain-lawful (typed c.args.row.now c.type_inv.row) c.loop-i.invariant.left.so.starts (next c).takes)

pub loop-i-init : goal.loop-i-init
loop-i-init c = filling-start (group chain) _ (padded 51 (group chain)) _ _ _ c.requires.0

pub chain_len-n-requires : goal.chain_len-n-requires
chain_len-n-requires c =
    let t = (goal.at.chain_len-n-requires c).In-loop-i in
    omega (arith, (its t).ends, (its t).least, (next t).takes.inside)

pub put_run-at-requires : goal.put_run-at-requires
put_run-at-requires c =
    let t = (goal.at.put_run-at-requires c).In-loop-i in
    (omega (arith, c.loop-i.invariant.writing.same), omega (arith, (its t).ends, (its t).size, (next t).takes.inside))

pub put_zeros-requires : goal.put_zeros-requires
put_zeros-requires c = omega (arith, c.loop-i.invariant.writing.same, wrote-long c.put_run-at.ensures.1)

pub overflow_add-p : goal.overflow_add-p
overflow_add-p c =
    let t = (goal.at.overflow_add-p c).In-loop-i in
    omega (arith, (its t).ends, (its t).size, (next t).takes.inside)

pub loop-i-preserved : goal.loop-i-preserved
loop-i-preserved c =
    let t = (goal.at.loop-i-preserved c).In-loop-i in
    let n = c.chain_len-n.result in
    let long : n ≡ length (print chain (next t).item) = c.chain_len-n.ensures.0 ∙ (its t).size in
    let at : 51 * (c.loop-i.i + 1) ≡ c.put_zeros.result = omega arith in
    let behind : c.loop-i.p + n ≡ (next t).after = omega (arith, (its t).ends) in
    let bytes : take n (drop c.loop-i.p c.args.row.now) ≡ print chain (next t).item = rw c.chain_len-n.ensures.0 (its t).bytes in
    rw (at, behind)
    (filling-turn (group chain) c.args.row.now (padded 51 (group chain)) _ _ _ c.loop-i-test.true c.loop-i.invariant (next t).takes
    (rw (bytes, long) at (c.put_run-at.ensures.1 then c.put_zeros.ensures.1)))

pub shape_of-lent : goal.shape_of-lent
shape_of-lent c = c.loop-i.invariant.writing.same

pub returns : goal.returns
returns c =
    rw show-places at (filling-end (group chain) _ (padded 51 (group chain)) _ _ _ c.loop-i-test.false c.loop-i.invariant)

-- `contact_lent::put_chains` meets its contract. The invariant: what a row has for i places is written, and the rest is to come.
use Prim.Native.Nat.{◌*◌}
use mathlib.Core.Path.{◌≡◌, ap}
use native.Mathlib.Omega.{arith}
use native.Mathlib.Nat.{sub-zero}
use lib.ListN.{length, take, drop, length-append, length-drop}
use lib.Seq.{length-take-le}
use borrow.Author.Rules.{rules}
use Rattle.layout.proofs.At.{typed}
use Rattle.put.proofs.Put.{writing_start, writing_step, writing-done}
use Rattle.contact_lent.specs.Lent.{chain_size}
use Rattle.contact_lent.proofs.Offsets.{bytes-turn, bytes-end}
use Rattle.contact_lent.proofs.Records.{chains-row}
use Rattle.contact_lent.proofs.put_chains.Goals as goal

pub loop-i-init : goal.loop-i-init
loop-i-init c = rw sub-zero (writing_start _ _ _)

pub put_run-p-requires : goal.put_run-p-requires
put_run-p-requires c =
    let a = c.args in
    let place = drop (51 * c.loop-i.i) a.lent.now in
    let long : length (take (chain_size place) place) ≡ chain_size place = length-take-le (chain_size place) place (rw length-drop (omega (arith, c.chain_len-n.ensures.0))) in
    let room = simp (bytes-turn 51 chain_size a.lent.now a.count c.loop-i.i c.loop-i-test.true, length-append, long) at c.loop-i.invariant.room in
    (omega (arith, room, c.chain_len-n.ensures.0, ap length (chains-row a.count a.lent.now (typed a.lent.now c.type_inv.lent) c.requires.0 c.requires.1)), search rules)

pub loop-i-preserved : goal.loop-i-preserved
loop-i-preserved c =
    writing_step _ (rw (bytes-turn 51 chain_size c.args.lent.now c.args.count c.loop-i.i c.loop-i-test.true) at c.loop-i.invariant) (rw c.chain_len-n.ensures.0 at c.put_run-p.ensures.1)

pub shape_of-out : goal.shape_of-out
shape_of-out c = c.loop-i.invariant.same

pub returns : goal.returns
returns c =
    let a = c.args in
    let done = writing-done (rw (bytes-end 51 chain_size a.lent.now a.count c.loop-i.i c.loop-i-test.false) at c.loop-i.invariant) in
    let wrote = rw (chains-row a.count a.lent.now (typed a.lent.now c.type_inv.lent) c.requires.0 c.requires.1) at done in
    (wrote.next-is, wrote)

-- `veil_contact::veil_each` meets its contract. The invariant: the items that are left stand in the row at `from`, and stored from `to` on give the whole.
use mathlib.Core.Path.{◌≡◌}
use native.Mathlib.Omega.{arith}
use Rattle.layout.proofs.At.{typed}
use Rattle.veil_contact.proofs.Items.{copying-start, copying-done, turn_inside, turn-some, turn-room, turn_more}
use Rattle.veil_contact.proofs.veil_each.Goals as goal

pub loop-init : goal.loop-init
loop-init g c =
    copying-start g.I.Item.form g.met.I.Item.lawful c.args.row.now (typed c.args.row.now c.type_inv.row) c.requires.1 c.args.out.now c.args.at

pub tail-tail-requires : goal.tail-tail-requires
tail-tail-requires g c = turn-some g.I.Item.form c.requires.0 c.loop.invariant c.loop-test.true

pub veil_key-to-requires : goal.veil_key-to-requires
veil_key-to-requires g c =
    rw (c.HEAD.ensures, c.tail-tail.ensures)
    (turn_inside g.I.Item.form c.requires.0 c.loop.invariant c.loop-test.true, turn-room g.I.Item.form c.requires.0 c.loop.invariant c.loop-test.true c.requires.2)

pub loop-preserved : goal.loop-preserved
loop-preserved g c =
    rw (c.HEAD-in-loop.ensures, c.tail-tail.ensures)
    (turn_more g.I.Item.form c.requires.0 c.loop.invariant c.loop-test.true (rw (c.HEAD.ensures, c.tail-tail.ensures) at c.veil_key-to.ensures.1))

pub returns : goal.returns
returns g c =
    let l = c.loop in
    let done : l.counter ≡ c.args.l.count = omega (arith, l.invariant.count) in
    let w = copying-done g.I.Item.form (rw done at l.invariant) in
    (w.next-is, w)

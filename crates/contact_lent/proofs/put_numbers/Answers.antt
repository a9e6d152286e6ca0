-- `contact_lent::put_numbers` meets its contract: a turn writes the first of the numbers that are left.
use lib.ListN.{take}
use borrow.Author.Rules.{rules}
use Rattle.put.proofs.Put.{writing_start, writing_step, writing-done}
use Rattle.contact_lent.proofs.Numbers.{numbers-turn, numbers-end}
use Rattle.contact_lent.proofs.put_numbers.Goals as goal

pub loop-n-init : goal.loop-n-init
loop-n-init c = (search rules, writing_start _ _ _)

pub loop-n-preserved : goal.loop-n-preserved
loop-n-preserved c =
    let t = numbers-turn (take c.args.count c.args.list.now) c.loop-n.n-index c.loop-n-test.true in
    (search rules, writing_step _ (rw t at c.loop-n.invariant.1) (rw c.from.ensures at c.put_be-p.ensures.1))

pub returns : goal.returns
returns c =
    let e = numbers-end (take c.args.count c.args.list.now) c.loop-n.n-index c.loop-n-test.false in
    (search rules, writing-done (rw e at c.loop-n.invariant.1))

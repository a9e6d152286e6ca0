-- `contact_lent::fill_numbers` meets its contract. The invariant (`Filling`): i numbers are copied, and the next one stands in the row at p.
use mathlib.Core.Path.{sym}
use Rattle.layout.specs.Form.{u32}
use Rattle.layout.proofs.Front.{number-lawful}
use Rattle.layout.proofs.At.{took, typed}
use Rattle.put.proofs.Put.{wrote-byte}
use Rattle.contact_lent.proofs.Fill.{filling-start, filling-turn, filling-end, first_of, never-refused, show-numbers}
use Rattle.contact_lent.proofs.fill_numbers.Invariants.{one}
use Rattle.contact_lent.proofs.fill_numbers.Goals as goal

pub loop-i-init : goal.loop-i-init
loop-i-init c = filling-start u32 _ one _ _ _ c.requires.0

pub returns-in_default : goal.returns-in_default
returns-in_default c =
    let by = typed c.args.row.now c.type_inv.row in
    let n = first_of u32 c.args.row.now (number-lawful 4) by c.loop-i.p c.args.count c.loop-i.i c.loop-i-test.true c.loop-i.invariant.left in
    absurd (never-refused u32 c.args.row.now n (sym c.in_default.ensures))

pub loop-i-preserved : goal.loop-i-preserved
loop-i-preserved c =
    let t = took _ _ u32 (number-lawful 4) (typed c.args.row.now c.type_inv.row) (sym c.in-Ok.ensures) in
    filling-turn u32 _ one _ _ _ c.loop-i-test.true c.loop-i.invariant t (wrote-byte _ _ _)

pub returns : goal.returns
returns c = rw show-numbers at (filling-end u32 _ one _ _ _ c.loop-i-test.false c.loop-i.invariant)

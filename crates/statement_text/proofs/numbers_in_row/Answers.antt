-- `statement_text::numbers_in_row` meets its contract. The invariant: the sum, and what the ranges from the i-th on hold from `lowest` on, are what all hold.
-- Assumes nothing.
use Prim.Native.Nat.{◌+◌, ◌*◌}
use mathlib.Core.Path.{◌≡◌, ap}
use native.Mathlib.Omega.{arith}
use native.Mathlib.Nat.{sub-zero, zero-add}
use Rattle.layout.specs.Layout.{group}
use Rattle.rows.specs.Rows.{range}
use Rattle.numbers.specs.Sets.{size_from}
use Rattle.contact_checks.proofs.Cells.{standing, all_shown, Turn, turn, none_left}
use Rattle.contact_checks.proofs.Fields.{range_at, range-shows, range-read}
use Rattle.statement_line.proofs.Numbers.{counted, all-counted}
use Rattle.statement_text.proofs.numbers_in_row.Goals as goal

pub loop-i-init : goal.loop-i-init
loop-i-init c =
    let a = c.args in
    let m = standing (λ l. 8) range_at (λ r. r) (group range) range-shows a.row.now a.first a.count c.requires.0 in
    let here : a.first + 0 ≡ a.first = omega arith in
    rw (sub-zero, here) (c.requires.0.so.starts, omega arith, m.rooms, simp zero-add (ap (size_from a.lowest) (all_shown (λ l. 8) range_at m)))

pub be32-a-requires : goal.be32-a-requires
be32-a-requires c =
    omega (arith, (turn (λ l. 8) range_at c.args.row.now c.args.count c.loop-i.i (c.args.first + 8 * c.loop-i.i) c.loop-i-test.true c.loop-i.invariant.2).fits)

pub be32-b-requires : goal.be32-b-requires
be32-b-requires c =
    omega (arith, (turn (λ l. 8) range_at c.args.row.now c.args.count c.loop-i.i (c.args.first + 8 * c.loop-i.i) c.loop-i-test.true c.loop-i.invariant.2).fits)

pub loop-i-preserved : goal.loop-i-preserved
loop-i-preserved c =
    let p = c.args.first + 8 * c.loop-i.i in
    let turned : Turn (λ l. 8) range_at c.args.row.now c.args.count c.loop-i.i p = turn (λ l. 8) range_at c.args.row.now c.args.count c.loop-i.i p c.loop-i-test.true c.loop-i.invariant.2 in
    let next : c.args.first + 8 * (c.loop-i.i + 1) ≡ p + 8 = omega arith in
    let w = c.size_from-sum.ensures in
    rw next
    (omega (arith, turned.fits), omega (arith, w.1), turned.rooms, counted c.args.lowest c.loop-i.sum c.loop-i.invariant.3 (range-read turned c.be32-a.ensures.0 c.be32-b.ensures.0) w.0)

pub returns : goal.returns
returns c =
    all-counted c.args.lowest c.loop-i.sum c.loop-i.invariant.3 (none_left (λ l. 8) range_at c.args.row.now c.args.count c.loop-i.i (c.args.first + 8 * c.loop-i.i) c.loop-i-test.false)

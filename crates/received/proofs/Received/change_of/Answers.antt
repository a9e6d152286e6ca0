-- `received::Received::change_of` meets its contract: from..to reaches 1..contiguous, or stands apart from it.
use Rattle.std.proofs.Common.{◌≡◌, length, drop, length-drop, arith}
use Rattle.numbers.specs.Ranges.{merged}
use Rattle.received.specs.Lent.{ranges_of, pairs}
use Rattle.received.proofs.Pairs.{ranges-behind, length-ranges}
use Rattle.received.proofs.Changes.{joined-found, apart-found, behind-short}
use Rattle.received.proofs.Received.change_of.Goals as goal

pub returns-then-from : goal.returns-then-from
returns-then-from c =
    let a = c.args in
    let held = c.ranges-ranges.ensures.0 in
    joined-found a.self.contiguous (pairs a.self.count a.self.above.now) a.from a.to _ _ _ _ c.added-added.ensures _ (omega arith) c.max.ensures (rw held at c.merge-m.ensures.range) (rw held at c.merge-m.ensures.after)

pub overflow_add-result : goal.overflow_add-result
overflow_add-result c =
    let a = c.args in
    let ps = c.ranges-ranges.result.now in
    let rs = ranges_of ps in
    let n : length (merged a.from a.to (drop c.below-below.result rs)).behind ≡ c.merge-m-2.result.after = rw ranges-behind at c.merge-m-2.ensures.after in
    omega (arith, n, behind-short a.from a.to (drop c.below-below.result rs), length-drop c.below-below.result rs, length-ranges ps)

pub returns : goal.returns
returns c =
    let a = c.args in
    let held = c.ranges-ranges.ensures.0 in
    apart-found a.self.contiguous (pairs a.self.count a.self.above.now) a.from a.to _ _ _ _ c.added-added.ensures _ (omega arith) (rw held at c.below-below.ensures.0)
    (rw (ranges-behind, held) at c.merge-m-2.ensures.range) (rw (ranges-behind, held) at c.merge-m-2.ensures.after)

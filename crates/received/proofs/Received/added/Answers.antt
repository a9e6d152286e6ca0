-- `received::Received::added` meets its contract: the ranges are 0..contiguous, which from..to is taken behind, and those above.
use Rattle.std.proofs.Common.{◌≡◌, ◌+◌, max, ◌∙◌, arith}
use Rattle.numbers.proofs.Uncovered.{behind-contiguous}
use Rattle.received.specs.Lent.{pairs}
use Rattle.received.proofs.Received.added.Goals as goal

pub returns : goal.returns
returns c =
    let a = c.args in
    let v = a.self in
    let at : c.max.result ≡ max a.from (v.contiguous + 1) = omega arith in
    c.uncovered.ensures ∙ rw (at, c.ranges-2.ensures.0) (behind-contiguous v.contiguous a.from a.to (pairs v.count v.above.now))

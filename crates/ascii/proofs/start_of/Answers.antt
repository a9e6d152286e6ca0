-- `ascii::start_of` meets its contract. The invariant: the word that is looked for is as many words behind `at` as turns are left.
use Rattle.std.proofs.Common.{◌≡◌, ◌+◌, ◌-◌, drop, ◌∙◌, arith}
use Rattle.ascii.proofs.Words.{first_word, next-left}
use Rattle.ascii.proofs.start_of.Goals as goal

pub loop-preserved : goal.loop-preserved
loop-preserved c =
    let a = c.args in
    let l = c.loop in
    let left : a.i - l.counter - 1 ≡ a.i - (l.counter + 1) = omega arith in
    (c.next_word-at.ensures.0, l.invariant.1 ∙ next-left a.mark (drop l.at a.text.now) (a.i - l.counter) (omega arith) ∙ rw (left, c.next_word-at.ensures.1))

pub returns : goal.returns
returns c =
    let a = c.args in
    let none : a.i - c.loop.counter ≡ 0 = omega arith in
    (c.loop.invariant.0, c.loop.invariant.1 ∙ rw none (first_word a.mark (drop c.loop.at a.text.now)))

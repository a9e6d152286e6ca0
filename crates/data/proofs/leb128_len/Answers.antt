-- `data::leb128_len` meets its contract. The invariant: the bytes counted and those of what is left (`Printing`) are one more than those of the whole. The measure is what is left.
-- Assumes nothing.
use native.Mathlib.Omega.{arith}
use borrow.Author.Rules.{rules}
use Rattle.data.proofs.Leb.{few-printed, prints-more, prints-last}
use Rattle.data.proofs.leb128_len.Goals as goal

pub loop-rest-init : goal.loop-rest-init
loop-rest-init c = record { left = 4; below = search rules; holds = omega arith }

pub overflow_add-n : goal.overflow_add-n
overflow_add-n c = omega (arith, few-printed 4 c.args.value)

pub loop-rest-preserved : goal.loop-rest-preserved
loop-rest-preserved c = prints-more c.loop-rest.invariant c.loop-rest-test.true (λ l e. omega arith)

pub returns : goal.returns
returns c = omega (arith, prints-last c.loop-rest.invariant c.loop-rest-test.false)

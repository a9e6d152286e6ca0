-- The i-th word is asked, and then those behind it.
use mathlib.Core.Bool.{true, false}
use mathlib.Core.Path.{sym, ◌∙◌}
use native.Mathlib.Omega.{arith}
use Rattle.ascii.specs.Words.{SPACE, parted}
use Rattle.replay_script.proofs.Numbers.{decimal-next, decimals-end}
use Rattle.replay_script.proofs.are_decimals.Goals as goal

pub returns-then-not-is_decimal_at : goal.returns-then-not-is_decimal_at
returns-then-not-is_decimal_at c =
    let e = rw c.highest.ensures at c.if-not-is_decimal_at.ensures in
    sym (decimal-next c.args.narrow c.loop-i.i c.args.count (parted SPACE c.args.line.now) c.loop-i-test.true false e) ∙ c.loop-i.invariant

pub loop-i-preserved : goal.loop-i-preserved
loop-i-preserved c =
    let e = rw c.highest.ensures at c.if-not-is_decimal_at.ensures in
    sym (decimal-next c.args.narrow c.loop-i.i c.args.count (parted SPACE c.args.line.now) c.loop-i-test.true true e) ∙ c.loop-i.invariant

pub returns : goal.returns
returns c = sym (decimals-end c.args.narrow c.loop-i.i c.args.count _ (omega arith)) ∙ c.loop-i.invariant

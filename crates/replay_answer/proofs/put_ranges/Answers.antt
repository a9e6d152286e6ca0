-- `replay_answer::put_ranges` meets its contract: its test is that of the definition.
-- Assumes nothing.
use mathlib.Core.Path.{ap}
use native.Mathlib.Omega.{arith}
use lib.ListN.{length}
use borrow.Author.Rules.{rules}
use Rattle.replay_answer.proofs.Ranges.{no-ranges, some-ranges, as-stored}
use Rattle.replay_answer.proofs.put_ranges.Goals as goal

pub put_run-requires : goal.put_run-requires
put_run-requires c = (omega (arith, ap length (no-ranges c.args.ranges.now c.is_empty.ensures c.if-is_empty.true)), search rules)

pub returns-then-is_empty : goal.returns-then-is_empty
returns-then-is_empty c = as-stored (no-ranges c.args.ranges.now c.is_empty.ensures c.if-is_empty.true) c.put_run.ensures.1

pub put_listed-requires : goal.put_listed-requires
put_listed-requires c = omega (arith, ap length (some-ranges c.args.ranges.now c.is_empty.ensures c.if-is_empty.false))

pub returns : goal.returns
returns c = as-stored (some-ranges c.args.ranges.now c.is_empty.ensures c.if-is_empty.false) c.put_listed.ensures.1

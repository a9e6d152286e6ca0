-- `replay_answer::ranges_fit` meets its contract: its test is that of the definition.
-- Assumes nothing.
use Prim.Native.Nat.{ℕ}
use mathlib.Core.List.{List}
use mathlib.Core.Path.{ap, ◌∙◌}
use lib.ListN.{length}
use lib.Dec.{leb}
use Rattle.replay_answer.proofs.Ranges.{no-ranges, some-ranges}
use Rattle.replay_answer.proofs.ranges_fit.Goals as goal

pub returns-then-is_empty : goal.returns-then-is_empty
returns-then-is_empty c =
    ap (λ (text : List ℕ). leb (length text) c.args.room) (no-ranges c.args.ranges.now c.is_empty.ensures c.if-is_empty.true)

pub returns : goal.returns
returns c =
    c.listed_fit.ensures ∙ ap (λ (text : List ℕ). leb (length text) c.args.room) (some-ranges c.args.ranges.now c.is_empty.ensures c.if-is_empty.false)

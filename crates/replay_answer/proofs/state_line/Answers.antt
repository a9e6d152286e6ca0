-- `replay_answer::state_line` meets its contract: the first pairs are the ranges that the list holds.
-- Assumes nothing.
use mathlib.Core.List.{List}
use mathlib.Core.Path.{ap}
use native.Mathlib.Omega.{arith}
use Prim.Native.Nat.{◌/◌}
use lib.ListN.{length}
use Rattle.rows.specs.Values.{Range}
use Rattle.received.proofs.Pairs.{ranges-first}
use Rattle.replay_answer.specs.Transcript.{state_text}
use Rattle.replay_answer.proofs.Lines.{as_line}
use Rattle.replay_answer.proofs.state_line.Goals as goal

pub returns : goal.returns
returns c =
    let a = c.args in
    let l = a.above.now in
    as_line a.out.now (ap (λ (rs : List Range). state_text a.id.0 a.row.now rs) (rw c.as_chunks.ensures.front (ranges-first (length l / 2) a.count c.min.result l (omega arith) (omega arith) (omega arith)))) c.opened_line.ensures

-- `replay_answer::added_line` meets its contract: by the truth.
-- Assumes nothing.
use Rattle.replay_answer.proofs.Lines.{as_line}
use Rattle.replay_answer.proofs.Answers.{is_false, is_true, with-added}
use Rattle.replay_answer.proofs.added_line.Goals as goal

pub returns-then-a-eq0 : goal.returns-then-a-eq0
returns-then-a-eq0 c =
    let s = c.args in
    as_line s.out.now (with-added s.a s.added (is_false s.a c.if-a-eq0.true)) c.number_line.ensures

pub returns : goal.returns
returns c =
    let s = c.args in
    as_line s.out.now (with-added s.a s.added (is_true s.a c.if-a-eq0.false)) c.number_line-2.ensures

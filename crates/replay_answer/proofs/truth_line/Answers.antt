-- `replay_answer::truth_line` meets its contract: by the number.
-- Assumes nothing.
use Rattle.replay_answer.proofs.Lines.{as_line}
use Rattle.replay_answer.proofs.Answers.{is_false, is_true}
use Rattle.replay_answer.proofs.truth_line.Goals as goal

pub returns-then-a-eq0 : goal.returns-then-a-eq0
returns-then-a-eq0 c =
    let s = c.args in
    as_line s.out.now (is_false s.a c.if-a-eq0.true) c.text_line.ensures

pub returns : goal.returns
returns c =
    let s = c.args in
    as_line s.out.now (is_true s.a c.if-a-eq0.false) c.text_line-2.ensures

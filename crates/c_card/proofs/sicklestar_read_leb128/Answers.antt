-- `c_card::sicklestar_read_leb128` meets its contract: the answer of `read_leb128` says which case of the definition it is, and the test of the length which half of the first.
-- Assumes nothing.
use borrow.Author.Tests.{lt-leb}
use Rattle.c_card.specs.Faces.{read_leb128}
use Rattle.c_card.proofs.Faces.{set-two}
use Rattle.c_card.proofs.sicklestar_read_leb128.Goals as goal

pub returns-then-answer-lt2 : goal.returns-then-answer-lt2
unfolding read_leb128
returns-then-answer-lt2 c = rw (← c.in-Ok.ensures, lt-leb 2 _ c.if-answer-lt2.true, c.from.ensures, c.number.ensures)

pub returns-else-answer-lt2 : goal.returns-else-answer-lt2
unfolding read_leb128
returns-else-answer-lt2 c = rw (← c.in-Ok.ensures, set-two _ _ c.args.answer.now c.if-answer-lt2.false, c.from-in-Ok.ensures)

pub returns-in-Err : goal.returns-in-Err
unfolding read_leb128
returns-in-Err c = rw (← c.in-Err.ensures, c.from-in-Err.ensures, c.number-in-Err.ensures)

-- `replay_answer::text_line` meets its contract: the room is asked for, then the text is stored between `= ` and LF.
-- Assumes nothing.
use mathlib.Core.Path.{refl, sym}
use native.Mathlib.Omega.{arith}
use lib.ListN.{length}
use Rattle.put.proofs.Put.{whole_run}
use Rattle.replay_answer.proofs.Lines.{no_room, line-written}
use Rattle.replay_answer.proofs.text_line.Goals as goal

pub returns-then-out-lt-AROUND : goal.returns-then-out-lt-AROUND
returns-then-out-lt-AROUND c =
    let a = c.args in
    sym (no_room a.out.now a.text.now (omega arith))

pub returns-then-out-text : goal.returns-then-out-text
returns-then-out-text c =
    let a = c.args in
    sym (no_room a.out.now a.text.now (omega arith))

pub returns : goal.returns
returns c =
    let a = c.args in
    line-written a.out.now a.text.now (omega arith) c.begin-at.ensures.1 (whole_run (length a.text.now) refl c.put_run-end.ensures.1) c.put_byte.ensures.1

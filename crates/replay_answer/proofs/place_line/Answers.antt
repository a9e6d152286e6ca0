-- `replay_answer::place_line` meets its contract: the room is asked for, then the parts are stored one behind the other.
-- Assumes nothing.
use mathlib.Core.Path.{sym}
use native.Mathlib.Omega.{arith}
use Rattle.put.proofs.Put.{◌then◌}
use Rattle.replay_answer.specs.Transcript.{place_text}
use Rattle.replay_answer.proofs.Lines.{no_room, line-written, length-place}
use Rattle.replay_answer.proofs.place_line.Goals as goal

pub returns-then-out-len : goal.returns-then-out-len
returns-then-out-len c =
    let a = c.args in
    sym (no_room a.out.now (place_text a.number a.place) (omega (arith, length-place a.number a.place, c.decimal_len.ensures.0, c.decimal_len-2.ensures.0)))

pub returns : goal.returns
returns c =
    let a = c.args in
    line-written a.out.now (place_text a.number a.place)
    (omega (arith, length-place a.number a.place, c.decimal_len.ensures.0, c.decimal_len-2.ensures.0))
    c.begin-at.ensures.1
    (c.put_run-number_at.ensures.1 then (c.put_decimal-space_at.ensures.1 then (c.put_byte-place_at.ensures.1 then c.put_decimal-end.ensures.1)))
    c.put_byte.ensures.1

-- `replay_answer::number_line` meets its contract: the room is asked for, then word and number are stored between `= ` and LF.
-- Assumes nothing.
use Prim.Native.Nat.{◌+◌}
use mathlib.Core.List.{◌++◌}
use mathlib.Core.Path.{◌≡◌, refl, sym}
use native.Mathlib.Omega.{arith}
use lib.ListN.{length, length-append}
use Rattle.put.proofs.Put.{◌then◌, whole_run}
use Rattle.numbers.specs.Decimal.{decimal}
use Rattle.replay_answer.proofs.Lines.{no_room, line-written}
use Rattle.replay_answer.proofs.number_line.Goals as goal
use Rattle.replay_answer.proofs.number_line.Goals.{After-decimal_len-fixed}

long : (c : After-decimal_len-fixed) → length (c.args.word.now ++ decimal c.args.n) ≡ length c.args.word.now + c.decimal_len-fixed.result
long c = omega (arith, length-append c.args.word.now (decimal c.args.n))

pub returns-then-out-fixed : goal.returns-then-out-fixed
returns-then-out-fixed c = sym (no_room c.args.out.now _ (omega (arith, long (goal.at.returns-then-out-fixed c).After-decimal_len-fixed)))

pub returns-then-out-fixed-2 : goal.returns-then-out-fixed-2
returns-then-out-fixed-2 c = sym (no_room c.args.out.now _ (omega (arith, long (goal.at.returns-then-out-fixed-2 c).After-decimal_len-fixed)))

pub returns : goal.returns
returns c =
    line-written c.args.out.now _ (omega (arith, long (goal.at.returns c).After-decimal_len-fixed)) c.begin-at.ensures.1
    (whole_run (length c.args.word.now) refl c.put_run-number_at.ensures.1 then c.put_decimal-end.ensures.1) c.put_byte.ensures.1

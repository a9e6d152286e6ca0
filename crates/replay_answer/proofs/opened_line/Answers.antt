-- `replay_answer::opened_line` meets its contract: the room is asked for part by part, so that nothing overflows, and then the line is written.
-- Assumes nothing.
use Prim.Native.Nat.{◌+◌, ◌*◌}
use mathlib.Core.Path.{◌≡◌, sym, ◌∙◌}
use native.Mathlib.Omega.{arith}
use lib.ListN.{length}
use borrow.Author.Tests.{leb-true, leb-false}
use Rattle.received.specs.Lent.{ranges_of}
use Rattle.replay_answer.specs.Transcript.{ranges_text, state_text}
use Rattle.replay_answer.proofs.Lines.{no_room}
use Rattle.replay_answer.proofs.Ranges.{length-state}
use Rattle.replay_answer.proofs.opened_line.Goals as goal
use Rattle.replay_answer.proofs.opened_line.Goals.{After-decimal_len}

long : (c : After-decimal_len) → length (state_text c.args.id.0 c.args.row.now (ranges_of c.args.ranges.now)) ≡ c.decimal_len.result + 1 + 2 * length c.args.row.now + length (ranges_text (ranges_of c.args.ranges.now))
long c = omega (arith, length-state c.args.id.0 c.args.row.now (ranges_of c.args.ranges.now))

pub returns-then-out-fixed : goal.returns-then-out-fixed
returns-then-out-fixed c = sym (no_room c.args.out.now _ (omega (arith, long (goal.at.returns-then-out-fixed c).After-decimal_len)))

pub returns-then-room-row : goal.returns-then-room-row
returns-then-room-row c = sym (no_room c.args.out.now _ (omega (arith, long (goal.at.returns-then-room-row c).After-decimal_len)))

pub write_state-requires : goal.write_state-requires
write_state-requires c = omega (arith, long (goal.at.write_state-requires c).After-decimal_len, leb-true _ _ (sym c.ranges_fit.ensures ∙ c.if-ranges_fit.true))

pub returns : goal.returns
returns c = sym (no_room c.args.out.now _ (omega (arith, long (goal.at.returns c).After-decimal_len, leb-false _ _ (sym c.ranges_fit.ensures ∙ c.if-ranges_fit.false))))

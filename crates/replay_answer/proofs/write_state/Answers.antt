-- `replay_answer::write_state` meets its contract: the parts are stored one behind the other.
-- Assumes nothing.
use native.Mathlib.Omega.{arith}
use Rattle.put.proofs.Put.{◌then◌}
use Rattle.received.specs.Lent.{ranges_of}
use Rattle.replay_answer.specs.Transcript.{state_text}
use Rattle.replay_answer.proofs.Lines.{line-written}
use Rattle.replay_answer.proofs.Ranges.{length-state}
use Rattle.replay_answer.proofs.write_state.Goals as goal

pub put_decimal-space_at-requires : goal.put_decimal-space_at-requires
put_decimal-space_at-requires c = omega (arith, length-state c.args.id.0 c.args.row.now (ranges_of c.args.ranges.now))

pub put_byte-row_at-requires : goal.put_byte-row_at-requires
put_byte-row_at-requires c = omega (arith, length-state c.args.id.0 c.args.row.now (ranges_of c.args.ranges.now))

pub put_pairs-ranges_at-requires : goal.put_pairs-ranges_at-requires
put_pairs-ranges_at-requires c = omega (arith, length-state c.args.id.0 c.args.row.now (ranges_of c.args.ranges.now))

pub put_ranges-end-requires : goal.put_ranges-end-requires
put_ranges-end-requires c = omega (arith, length-state c.args.id.0 c.args.row.now (ranges_of c.args.ranges.now))

pub put_byte-requires : goal.put_byte-requires
put_byte-requires c = omega (arith, length-state c.args.id.0 c.args.row.now (ranges_of c.args.ranges.now))

pub returns : goal.returns
returns c =
    line-written c.args.out.now (state_text c.args.id.0 c.args.row.now (ranges_of c.args.ranges.now))
    c.requires
    c.begin-at.ensures.1
    (c.put_decimal-space_at.ensures.1 then (c.put_byte-row_at.ensures.1 then (c.put_pairs-ranges_at.ensures.1 then c.put_ranges-end.ensures.1)))
    c.put_byte.ensures.1

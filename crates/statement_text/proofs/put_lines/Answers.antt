-- `statement_text::put_lines` meets its contract. The invariant: the lines from the i-th entry on, written from here on, give the whole.
-- Assumes nothing.
use mathlib.Core.Path.{ap}
use native.Mathlib.Omega.{arith}
use native.Mathlib.Nat.{sub-zero}
use lib.ListN.{length}
use Rattle.put.proofs.Put.{writing_start, wrote_none}
use Rattle.statement_text.proofs.Lines.{retext, line-room, line-turn, lines_end, lineless}
use Rattle.statement_text.proofs.put_lines.Goals as goal
use Rattle.statement_text.proofs.put_lines.Goals.{in-Some, in_default}

pub loop-i-init : goal.loop-i-init
loop-i-init c = rw sub-zero (writing_start _ _ _)

pub put_line-here-requires : goal.put_line-here-requires
put_line-here-requires c =
    let room = line-room c.args.run.now _ c.args.records.now c.args.n c.loop-i.i c.loop-i.invariant c.loop-i-test.true c.requires.2 in
    (omega arith, omega (arith, ap length c.in-Some.ensures.text-is, room))

pub loop-i-preserved : goal.loop-i-preserved
loop-i-preserved c =
    elim c.match-line_at.branch [
      | in-Some w ↦
          rw (w.out-is, w.here-is)
          (line-turn c.args.run.now _ c.args.records.now c.args.n c.loop-i.i c.loop-i.invariant c.loop-i-test.true (retext w.in-Some.ensures.text-is w.put_line-here.ensures.1))
      | in_default w ↦
          rw (w.out-is, w.here-is)
          (line-turn c.args.run.now _ c.args.records.now c.args.n c.loop-i.i c.loop-i.invariant c.loop-i-test.true (retext (lineless _ c.line_at.ensures w.in_default.not-Some).text-is (wrote_none _ _)))
    ]

pub returns : goal.returns
returns c = lines_end c.args.run.now _ c.args.records.now c.args.n c.loop-i.i c.loop-i.invariant c.loop-i-test.false

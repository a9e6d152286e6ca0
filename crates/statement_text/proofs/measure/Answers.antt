-- `statement_text::measure` meets its contract. The invariant: what is measured and counted, and what the entries from the i-th on add, are those of all.
-- Assumes nothing.
use Prim.Native.Nat.{suc}
use mathlib.Core.Path.{ap, ◌∙◌}
use native.Mathlib.Omega.{arith}
use native.Mathlib.Nat.{sub-zero}
use lib.ListN.{length}
use Rattle.sheet_entries.specs.Table.{entries_from}
use Rattle.statement_text.proofs.Lines.{lengths, counts, sum-turn, sum-end, lineless}
use Rattle.statement_text.proofs.measure.Goals as goal
use Rattle.statement_text.proofs.measure.Goals.{in-Some, in_default}

pub loop-i-init : goal.loop-i-init
loop-i-init c = rw sub-zero (omega arith, omega arith, omega arith, omega arith)

pub loop-i-preserved : goal.loop-i-preserved
loop-i-preserved c =
    let a = c.args in
    let es = entries_from a.n a.records.now in
    let taken = c.loop-i-test.true in
    elim c.match-line_at.branch [
      | in-Some w ↦
          let line = w.in-Some.ensures in
          let long = ap suc w.fields_len.ensures.0 ∙ ap length line.text-is in (
            omega (arith, w.len-is, w.fields_len.ensures.1),
            omega (arith, w.contacts-is),
            omega (arith, w.len-is, sum-turn (lengths a.run.now es) a.records.now a.n c.loop-i.i c.loop-i.len c.loop-i.invariant.2 taken long),
            omega (arith, w.contacts-is, sum-turn (counts a.run.now) a.records.now a.n c.loop-i.i c.loop-i.contacts c.loop-i.invariant.3 taken line.count-is),
          )
      | in_default w ↦
          let line = lineless _ c.line_at.ensures w.in_default.not-Some in (
            omega (arith, w.len-is),
            omega (arith, w.contacts-is),
            omega (arith, w.len-is, sum-turn (lengths a.run.now es) a.records.now a.n c.loop-i.i c.loop-i.len c.loop-i.invariant.2 taken (ap length line.text-is)),
            omega (arith, w.contacts-is, sum-turn (counts a.run.now) a.records.now a.n c.loop-i.i c.loop-i.contacts c.loop-i.invariant.3 taken line.count-is),
          )
    ]

pub returns : goal.returns
returns c =
    let a = c.args in
    let es = entries_from a.n a.records.now in
    record {
      long = sum-end (lengths a.run.now es) a.records.now a.n c.loop-i.i c.loop-i.len c.loop-i.invariant.2 c.loop-i-test.false;
      many = sum-end (counts a.run.now) a.records.now a.n c.loop-i.i c.loop-i.contacts c.loop-i.invariant.3 c.loop-i-test.false;
      short = omega arith;
    }

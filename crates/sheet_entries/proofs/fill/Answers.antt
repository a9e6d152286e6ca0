-- One turn lays one entry over the table.
use Prim.Native.Nat.{min}
use mathlib.Core.Path.{◌∙◌}
use native.Mathlib.Omega.{arith}
use Rattle.sheet_entries.specs.Table.{ENTRIES}
use Rattle.sheet_entries.proofs.Turns.{none-laid}
use Rattle.sheet_entries.proofs.Filled.{line-laid, lines-laid}
use Rattle.sheet_entries.proofs.fill.Goals as goal

pub loop-i-init : goal.loop-i-init
loop-i-init c = none-laid c.args.table.now

pub loop-i-preserved : goal.loop-i-preserved
loop-i-preserved c =
    rw c.entry_from.ensures (line-laid (min c.args.lines ENTRIES) c.args.records.now c.args.table.now c.loop-i.i c.loop-i.table (omega arith) c.loop-i.invariant)

pub returns : goal.returns
returns c = (omega arith, c.loop-i.invariant ∙ lines-laid (min c.args.lines ENTRIES) c.args.records.now c.args.table.now c.loop-i.i (omega arith))

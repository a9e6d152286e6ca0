-- `statement_text::put_lines` meets its contract. The invariant: the lines from the i-th entry on, written from here on, give the whole.
-- Assumes nothing.
use Prim.Native.Nat.{◌-◌, ◌*◌}
use lib.ListN.{drop}
use Rattle.put.proofs.Put.{Writing}
use Rattle.sheet_entries.specs.Table.{entries_from}
use Rattle.statement_text.specs.Lines.{lines_from}
use Rattle.statement_text.proofs.put_lines.Given as goal

abbrev pub invariant-loop-i : goal.invariant-loop-i
invariant-loop-i l = Writing l.initial.out 0 (lines_from l.run (entries_from l.n l.records) (entries_from l.n l.records)) l.out l.here (lines_from l.run (entries_from l.n l.records) (entries_from (l.n - l.i) (drop (6 * l.i) l.records)))

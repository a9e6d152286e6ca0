-- The invariant: the entries so far are laid over the table.
use Rattle.std.proofs.Common.{◌≡◌, take}
use Prim.Native.Nat.{min}
use Rattle.sheet_entries.specs.Table.{ENTRIES, entries_from, overlaid}
use Rattle.sheet_entries.proofs.fill.Given as goal

abbrev pub invariant-loop-i : goal.invariant-loop-i
invariant-loop-i l = l.table ≡ overlaid l.initial.table (take l.i (entries_from (min l.lines ENTRIES) l.records))

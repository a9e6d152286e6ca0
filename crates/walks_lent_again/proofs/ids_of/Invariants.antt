-- Before each turn: the place is the first that is free, and both lists hold what is stored so far over their front.
use Rattle.std.proofs.Common.{◌≡◌, length, map, min, take}
use Rattle.sheet_entries.specs.Table.{overlaid}
use Rattle.walks_lent_again.specs.Ids.{id_of}
use Rattle.walks_lent_again.proofs.ids_of.Given as goal

abbrev pub invariant-loop-i : goal.invariant-loop-i
invariant-loop-i l = record {
  place : l.place ≡ min l.i (length l.kept);
  ids : l.ids ≡ overlaid l.initial.ids (take l.i (map id_of l.entries));
  kept : l.kept ≡ overlaid l.initial.kept (take l.i l.entries);
}

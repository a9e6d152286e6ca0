-- `restore_duplicates::first_of` meets its contract: where all entries rise none has a duplicate, and else the parts have all entries.
use Rattle.std.proofs.Common.{◌-◌, length, sym, ◌∙◌, arith}
use Rattle.restore_duplicates.proofs.Parts.{all-rise, all-parts}
use Rattle.restore_duplicates.proofs.first_of.Goals as goal

pub returns-then-rising-n : goal.returns-then-rising-n
returns-then-rising-n g c = all-rise c.args.entries.now (sym c.if-rising-n.true ∙ c.rising.ensures)

pub returns : goal.returns
returns g c = let a = c.args in c.first_below.ensures ∙ all-parts a.entries.now (a.parts - 1) a.parts (length a.entries.now) (omega arith)

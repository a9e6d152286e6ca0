-- `restore_duplicates::first_below` meets its contract: one pass is one more part.
use Rattle.restore_duplicates.proofs.Parts.{no-parts, next-part}
use Rattle.restore_duplicates.proofs.first_below.Goals as goal

pub loop-part-init : goal.loop-part-init
loop-part-init g c = let a = c.args in no-parts a.entries.now a.last a.best

pub loop-part-preserved : goal.loop-part-preserved
loop-part-preserved g c =
    let a = c.args in
    next-part a.entries.now a.last a.best c.loop-part.part c.loop-part.first c.first_in-first.result
    c.loop-part.invariant c.first_in-first.ensures

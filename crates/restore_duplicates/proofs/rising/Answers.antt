-- `restore_duplicates::rising` meets its contract: an entry that is above the one before it is passed.
use Rattle.std.proofs.Common.{length, sym, ◌∙◌}
use Rattle.restore_entries.proofs.Looking.{passed}
use Rattle.restore_duplicates.specs.Above.{is_stop_at}
use Rattle.restore_duplicates.proofs.rising.Goals as goal

pub loop-i-preserved : goal.loop-i-preserved
loop-i-preserved c =
    let es = c.args.entries.now in
    passed (is_stop_at es) c.loop-i.i (length es) c.loop-i-test.true (sym c.stops_at.ensures ∙ c.if-stops_at.false) ∙ c.loop-i.invariant

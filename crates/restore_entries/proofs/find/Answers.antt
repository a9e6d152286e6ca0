-- `restore_entries::find` meets its contract: an entry that is not wanted is passed.
use Rattle.std.proofs.Common.{sym, ◌∙◌}
use Rattle.store.specs.Store.{entry_at}
use Rattle.store.specs.Find.{is_wanted}
use Rattle.restore_entries.proofs.Looking.{passed}
use Rattle.restore_entries.proofs.find.Goals as goal

pub loop-i-preserved : goal.loop-i-preserved
loop-i-preserved c =
    let a = c.args in
    passed (λ k. is_wanted a.wanted (entry_at a.entries.now k)) c.loop-i.i a.upto c.loop-i-test.true (sym c.is_wanted_at.ensures ∙ c.if-is_wanted_at.false) ∙ c.loop-i.invariant

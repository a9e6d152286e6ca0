-- `calls_find::queued_of` meets its contract: the rows are counted, or none is wanted.
-- Assumes nothing.
use Rattle.std.proofs.Common.{◌≡◌, rules, ◌∙◌, sym}
use Rattle.std.specs.List.{count_by}
use Rattle.store.specs.Kinds.{QUEUED}
use Rattle.store.specs.Store.{is_of}
use Rattle.calls_find.proofs.Laws.{queued-is}
use Rattle.calls_find.proofs.queued_of.Goals as goal

pub returns : goal.returns
returns c =
    let a = c.args in
    let counted : c.count.result ≡ count_by (is_of QUEUED a.id.0) a.entries.now = search rules in
    rw c.if-not-wanted.false (counted ∙ sym (queued-is a.id.0 a.entries.now))

-- `calls_find::queued_among` meets its contract: all entries are looked at, or none.
-- Assumes nothing.
use Rattle.std.proofs.Common.{◌≡◌, rules, length, take, ◌∙◌, ap}
use Rattle.std.proofs.lemmas.List.{take_min}
use Rattle.calls_find.specs.Sought.{is_queued_found, queued_found}
use Rattle.calls_find.proofs.Laws.{none_found, any-is}
use Rattle.calls_find.proofs.queued_among.Goals as goal

pub returns-then-is_empty : goal.returns-then-is_empty
returns-then-is_empty c =
    let a = c.args in
    let none : length (take c.min.result a.unacked.now) ≡ 0 = search rules in
    none_found a.id.0 (take c.min.result a.unacked.now) a.entries.now none ∙ ap (λ numbers. queued_found a.id.0 numbers a.entries.now) (rw c.min.ensures (take_min a.count a.unacked.now))

pub returns : goal.returns
returns c =
    let a = c.args in
    c.any_among.ensures ∙ any-is (is_queued_found a.id.0 (take c.min.result a.unacked.now)) a.entries.now ∙ ap (λ numbers. queued_found a.id.0 numbers a.entries.now) (rw c.min.ensures (take_min a.count a.unacked.now))

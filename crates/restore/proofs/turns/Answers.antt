-- `restore::turns` meets its contract: one turn is one more of the round, and a refusal is the round's.
use Rattle.std.proofs.Common.{rules, ◌≡◌, length, ◌∙◌, Err}
use Rattle.store.specs.Rounds.{Going}
use Rattle.restore_rounds.specs.Rounds.{round_of}
use Rattle.restore.proofs.Rounds.{turn_is, goes_on, ends_with}
use Rattle.restore.proofs.turns.Goals as goal

pub returns-in_err-going_turn : goal.returns-in_err-going_turn
returns-in_err-going_turn c =
    let a = c.args in
    let l = c.loop-i in
    let turn = turn_is a.store.run.now a.store.entries.now a.omitted a.round l.i c.saturating_sub.result c.saturating_sub.ensures c.in_err-going_turn.ensures in
    let told : c.from_residual.result ≡ Err c.in_err-going_turn.field-0.0 = search rules in
    rw told (ends_with (round_of a.round a.store.run.now a.store.entries.now a.omitted) (length a.store.entries.now) l.i c.loop-i-test.true turn ∙ l.invariant)

pub loop-i-preserved : goal.loop-i-preserved
loop-i-preserved c =
    let a = c.args in
    let l = c.loop-i in
    let turn = turn_is a.store.run.now a.store.entries.now a.omitted a.round l.i c.saturating_sub.result c.saturating_sub.ensures c.in_ok-going_turn.ensures in
    goes_on (round_of a.round a.store.run.now a.store.entries.now a.omitted) (length a.store.entries.now) l.i Going c.loop-i-test.true turn ∙ l.invariant

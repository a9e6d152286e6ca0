-- `restore::questions` meets its contract: the first round that has a no ends all.
use Rattle.std.proofs.Common.{rules, ◌≡◌, Err}
use Rattle.restore.proofs.Ends.{no-order, no-bounds, no-rows}
use Rattle.restore.proofs.questions.Goals as goal

pub returns-in_err-turns : goal.returns-in_err-turns
returns-in_err-turns c =
    let a = c.args in
    let told : c.from_residual-in_err-turns.result ≡ Err c.in_err-turns.field-0.0 = search rules in
    rw told (no-order a.store.run.now a.store.entries.now a.omitted c.in_ok-begin.ensures c.in_err-turns.ensures)

pub returns-in_err-turns-2 : goal.returns-in_err-turns-2
returns-in_err-turns-2 c =
    let a = c.args in
    let told : c.from_residual-in_err-turns-2.result ≡ Err c.in_err-turns-2.field-0.0 = search rules in
    rw told (no-bounds a.store.run.now a.store.entries.now a.omitted c.in_ok-begin.ensures c.in_ok-turns.ensures c.in_err-turns-2.ensures)

pub returns-in_err-turns-3 : goal.returns-in_err-turns-3
returns-in_err-turns-3 c =
    let a = c.args in
    let told : c.from_residual-in_err-turns-3.result ≡ Err c.in_err-turns-3.field-0.0 = search rules in
    rw told (no-rows a.store.run.now a.store.entries.now a.omitted c.in_ok-begin.ensures c.in_ok-turns.ensures c.in_ok-turns-2.ensures c.in_err-turns-3.ensures)

-- `restore::across_turns` meets its contract: the turns of all entries are made, or those up to a refusal.
use Rattle.std.proofs.Common.{rules, ◌≡◌, ◌+◌, ◌-◌, length, Err, arith}
use Rattle.restore_across.proofs.Laws.{begins, stopped}
use Rattle.restore.proofs.across_turns.Goals as goal

pub loop-i-init : goal.loop-i-init
loop-i-init c = let a = c.args in rw c.begin-w.ensures (begins a.read.store.run.now a.read.store.entries.now a.read.omitted a.read.read)

pub returns-in_err-w : goal.returns-in_err-w
returns-in_err-w c =
    let a = c.args in
    let es = a.read.store.entries.now in
    let i = c.loop-i.i in
    let told : c.from_residual.result ≡ Err c.in_err-w.field-0.0 = search rules in
    rw told (stopped a.read.store.run.now es a.read.omitted (i + 1) (length es - (i + 1)) (length es) (omega (arith, c.loop-i-test.true)) c.in_err-w.ensures)

-- `contact_known::chained_end` meets its contract: each field starts where the one before it ends.
use Rattle.std.proofs.Common.{rules, ◌≡◌, Ok}
use mathlib.Core.Path.{sym, ap}
use Rattle.layout.proofs.At.{typed}
use Rattle.rows.proofs.RoundTrip.{ok≢err}
use Rattle.contact_known.proofs.Ends.{never, once, pending-ended, send-ended, chains-read, skipped-counted, skipped-run}
use Rattle.contact_known.proofs.chained_end.Goals as goal

pub returns-in_err-send : goal.returns-in_err-send
returns-in_err-send c = λ v next read. absurd (ok≢err (sym (pending-ended c.args.row.now (typed _ c.type_inv.row) c.args.at read c.in_err-send.ensures)))

pub returns-in_err-chains_at : goal.returns-in_err-chains_at
returns-in_err-chains_at c = λ v next read.
    absurd (ok≢err (sym (send-ended c.args.row.now (typed _ c.type_inv.row) c.args.at read c.in_ok-send.ensures c.in_err-chains_at.ensures)))

pub returns-in_err-chains : goal.returns-in_err-chains
returns-in_err-chains c = λ v next read.
    absurd (never (chains-read c.args.row.now (typed _ c.type_inv.row) c.args.at read _ _ c.in_ok-send.ensures c.in_ok-chains_at.ensures) (sym c.in_err-chains.ensures.0))

pub returns-in_err-count : goal.returns-in_err-count
returns-in_err-count c = λ v next read.
    absurd (never (skipped-counted c.args.row.now (typed _ c.type_inv.row) c.args.at read _ _ c.in_ok-send.ensures c.in_ok-chains_at.ensures (sym c.in_ok-chains.ensures.0)) (sym c.in_err-count.ensures))

pub returns-in_err-_skipped : goal.returns-in_err-_skipped
returns-in_err-_skipped c =
    let same : c.from.result ≡ c.in_ok-count.count = search rules in
    let cut = c.in_err-_skipped.ensures.0 in
    λ v next read.
    let run = skipped-run c.args.row.now (typed _ c.type_inv.row) c.args.at read _ _ c.in_ok-send.ensures c.in_ok-chains_at.ensures (sym c.in_ok-chains.ensures.0) (sym c.in_ok-count.ensures) in
    absurd (never run (sym (rw same at cut)))

pub returns : goal.returns
returns c =
    let same : c.from.result ≡ c.in_ok-count.count = search rules in
    let taken = c.in_ok-_skipped.ensures.0 in
    λ v next read.
    let run = skipped-run c.args.row.now (typed _ c.type_inv.row) c.args.at read _ _ c.in_ok-send.ensures c.in_ok-chains_at.ensures (sym c.in_ok-chains.ensures.0) (sym c.in_ok-count.ensures) in
    ap (λ n. Ok n) (once (sym (rw same at taken)) run).1

-- `<PendingAt as Part>::part_at` meets its contract: along the layout, and each field at its place.
-- Assumes nothing.
use Rattle.std.proofs.Common.{rules, ◌≡◌, ◌+◌, ℕ, List, take, drop, Err, arith}
use Rattle.layout.specs.Veil.{veiled}
use Rattle.layout.specs.RowLaws.{Bytes}
use Rattle.layout.proofs.At.{typed}
use Rattle.layout.proofs.Along.{Fields}
use Rattle.layout.proofs.Walk.{start, runs, cut, all}
use Rattle.offsets.specs.Offset.{offset}
use Rattle.offsets.proofs.Runs.{run-starts}
use Rattle.contact_parts.proofs.Walked.{refuses_here, stands_here}
use Rattle.layout.proofs.Front.{bytes-lawful}
use Rattle.rows.specs.Values.{Pending}
use Rattle.rows.specs.Rows.{pending}
use Rattle.contact_parts.specs.Offsets.{pending_keys_at}
use Rattle.contact_parts.proofs.PendingAtPart.part_at.Goals as goal

pending-fields : Fields pending
pending-fields = (bytes-lawful veiled 32, λ k. (bytes-lawful veiled 32, λ s. tt))

pub returns-in_err-chain_key : goal.returns-in_err-chain_key
returns-in_err-chain_key c =
    let told : c.from_residual.result ≡ Err c.in_err-chain_key.field-0.0 = search rules in
    rw told (refuses_here pending pending-fields _ (typed _ c.type_inv.row) _ tt (pending_keys_at _) (cut veiled 32 (start pending _ _) c.in_err-chain_key.ensures.0))

pub returns-in_err-msg_seed : goal.returns-in_err-msg_seed
returns-in_err-msg_seed c =
    let told : c.from_residual-in_err-msg_seed.result ≡ Err c.in_err-msg_seed.field-0.0 = search rules in
    rw told (refuses_here pending pending-fields _ (typed _ c.type_inv.row) _ tt (pending_keys_at _) (cut veiled 32 (runs veiled 32 (start pending _ _) c.in_ok-chain_key.ensures.0) c.in_err-msg_seed.ensures.0))

pub returns : goal.returns
returns c =
    let row : List ℕ = c.args.row.now in
    let by : Bytes row = typed row c.type_inv.row in
    let chain_key-run = run-starts row _ 32 by (omega arith) c.in_ok-chain_key.ensures.0 c.in_ok-chain_key.ensures.1 in
    let msg_seed-run = run-starts row _ 32 by (omega arith) c.in_ok-msg_seed.ensures.0 c.in_ok-msg_seed.ensures.1 in
    let its : Pending = record { chain_key = take 32 (drop c.in_ok-chain_key.chain_key row); msg_seed = take 32 (drop c.in_ok-msg_seed.msg_seed row) } in
    let chain-key-at : c.in_ok-chain_key.chain_key ≡ c.args.at + offset pending 0 its = omega (arith, chain_key-run.starts) in
    let msg-seed-at : c.in_ok-msg_seed.msg_seed ≡ c.args.at + offset pending 1 its = omega (arith, chain_key-run.ends, msg_seed-run.starts) in
    stands_here pending pending-fields _ (typed _ c.type_inv.row) _ tt (pending_keys_at _) {v = its} (all (runs veiled 32 (runs veiled 32 (start pending _ _) c.in_ok-chain_key.ensures.0) c.in_ok-msg_seed.ensures.0))
    (λ i. record { chain_key = chain-key-at i; msg_seed = msg-seed-at i })

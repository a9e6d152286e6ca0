-- `contact_parts::keys_at` meets its contract: along the layout, and each field at its place.
-- Assumes nothing.
use Rattle.std.proofs.Common.{rules, ◌≡◌, ◌+◌, ℕ, List, take, drop, Err, arith}
use mathlib.Core.Path.{refl}
use Rattle.layout.specs.Veil.{veiled}
use Rattle.layout.specs.RowLaws.{Bytes}
use Rattle.layout.proofs.At.{typed}
use Rattle.layout.proofs.Along.{Fields}
use Rattle.layout.proofs.Walk.{start, goes, stops, runs, cut, all}
use Rattle.offsets.specs.Offset.{offset}
use Rattle.offsets.proofs.Runs.{run-starts, field-ends}
use Rattle.contact_parts.proofs.Walked.{refuses_here, stands_here}
use Rattle.layout.specs.Form.{u64}
use Rattle.layout.proofs.Front.{bytes-lawful, number-lawful}
use Rattle.contact_parts.specs.Parts.{Keys, keys}
use Rattle.contact_parts.specs.Offsets.{keys_at}
use Rattle.contact_parts.proofs.keys_at.Goals as goal

keys-fields : Fields keys
keys-fields = (bytes-lawful veiled 32, λ a. (bytes-lawful veiled 32, λ b. (bytes-lawful veiled 32, λ r. (number-lawful 8, λ i. (bytes-lawful veiled 32, λ k. (number-lawful 4, λ s. tt))))))

pub returns-in_err-door_a_to_b : goal.returns-in_err-door_a_to_b
returns-in_err-door_a_to_b c =
    let told : c.from_residual.result ≡ Err c.in_err-door_a_to_b.field-0.0 = search rules in
    rw told (refuses_here keys keys-fields _ (typed _ c.type_inv.row) _ tt (keys_at _) (cut veiled 32 (start keys _ _) c.in_err-door_a_to_b.ensures.0))

pub returns-in_err-door_b_to_a : goal.returns-in_err-door_b_to_a
returns-in_err-door_b_to_a c =
    let told : c.from_residual-in_err-door_b_to_a.result ≡ Err c.in_err-door_b_to_a.field-0.0 = search rules in
    rw told (refuses_here keys keys-fields _ (typed _ c.type_inv.row) _ tt (keys_at _) (cut veiled 32 (runs veiled 32 (start keys _ _) c.in_ok-door_a_to_b.ensures.0) c.in_err-door_b_to_a.ensures.0))

pub returns-in_err-route_key : goal.returns-in_err-route_key
returns-in_err-route_key c =
    let told : c.from_residual-in_err-route_key.result ≡ Err c.in_err-route_key.field-0.0 = search rules in
    rw told (refuses_here keys keys-fields _ (typed _ c.type_inv.row) _ tt (keys_at _) (cut veiled 32 (runs veiled 32 (runs veiled 32 (start keys _ _) c.in_ok-door_a_to_b.ensures.0) c.in_ok-door_b_to_a.ensures.0) c.in_err-route_key.ensures.0))

pub returns-in_err-resume_index : goal.returns-in_err-resume_index
returns-in_err-resume_index c =
    let told : c.from_residual-in_err-resume_index.result ≡ Err c.in_err-resume_index.field-0.0 = search rules in
    rw told (refuses_here keys keys-fields _ (typed _ c.type_inv.row) _ tt (keys_at _) (stops (runs veiled 32 (runs veiled 32 (runs veiled 32 (start keys _ _) c.in_ok-door_a_to_b.ensures.0) c.in_ok-door_b_to_a.ensures.0) c.in_ok-route_key.ensures.0) c.in_err-resume_index.ensures))

pub returns-in_err-chain_key : goal.returns-in_err-chain_key
returns-in_err-chain_key c =
    let told : c.from_residual-in_err-chain_key.result ≡ Err c.in_err-chain_key.field-0.0 = search rules in
    rw told (refuses_here keys keys-fields _ (typed _ c.type_inv.row) _ tt (keys_at _) (cut veiled 32 (goes (runs veiled 32 (runs veiled 32 (runs veiled 32 (start keys _ _) c.in_ok-door_a_to_b.ensures.0) c.in_ok-door_b_to_a.ensures.0) c.in_ok-route_key.ensures.0) c.in_ok-resume_index.ensures) c.in_err-chain_key.ensures.0))

pub returns-in_err-sent_msgno : goal.returns-in_err-sent_msgno
returns-in_err-sent_msgno c =
    let told : c.from_residual-in_err-sent_msgno.result ≡ Err c.in_err-sent_msgno.field-0.0 = search rules in
    rw told (refuses_here keys keys-fields _ (typed _ c.type_inv.row) _ tt (keys_at _) (stops (runs veiled 32 (goes (runs veiled 32 (runs veiled 32 (runs veiled 32 (start keys _ _) c.in_ok-door_a_to_b.ensures.0) c.in_ok-door_b_to_a.ensures.0) c.in_ok-route_key.ensures.0) c.in_ok-resume_index.ensures) c.in_ok-chain_key.ensures.0) c.in_err-sent_msgno.ensures))

pub returns : goal.returns
returns c =
    let row : List ℕ = c.args.row.now in
    let by : Bytes row = typed row c.type_inv.row in
    let door_a_to_b-run = run-starts row _ 32 by (omega arith) c.in_ok-door_a_to_b.ensures.0 c.in_ok-door_a_to_b.ensures.1 in
    let door_b_to_a-run = run-starts row _ 32 by (omega arith) c.in_ok-door_b_to_a.ensures.0 c.in_ok-door_b_to_a.ensures.1 in
    let route_key-run = run-starts row _ 32 by (omega arith) c.in_ok-route_key.ensures.0 c.in_ok-route_key.ensures.1 in
    let resume-index-next = field-ends _ _ u64 (number-lawful 8) by refl c.in_ok-resume_index.ensures in
    let chain_key-run = run-starts row _ 32 by (omega arith) c.in_ok-chain_key.ensures.0 c.in_ok-chain_key.ensures.1 in
    let its : Keys = record {
      door_a_to_b = take 32 (drop c.in_ok-door_a_to_b.door_a_to_b row);
      door_b_to_a = take 32 (drop c.in_ok-door_b_to_a.door_b_to_a row);
      route_key = take 32 (drop c.in_ok-route_key.route_key row);
      resume_index = c.in_ok-resume_index.resume_index;
      chain_key = take 32 (drop c.in_ok-chain_key.chain_key row);
      sent_msgno = c.in_ok-sent_msgno.sent_msgno;
    } in
    let door-a-to-b-at : c.in_ok-door_a_to_b.door_a_to_b ≡ c.args.at + offset keys 0 its = omega (arith, door_a_to_b-run.starts) in
    let door-b-to-a-at : c.in_ok-door_b_to_a.door_b_to_a ≡ c.args.at + offset keys 1 its = omega (arith, door_a_to_b-run.ends, door_b_to_a-run.starts) in
    let route-key-at : c.in_ok-route_key.route_key ≡ c.args.at + offset keys 2 its = omega (arith, door_a_to_b-run.ends, door_b_to_a-run.ends, route_key-run.starts) in
    let chain-key-at : c.in_ok-chain_key.chain_key ≡ c.args.at + offset keys 4 its = omega (arith, door_a_to_b-run.ends, door_b_to_a-run.ends, route_key-run.ends, resume-index-next, chain_key-run.starts) in
    stands_here keys keys-fields _ (typed _ c.type_inv.row) _ tt (keys_at _) {v = its} (all (goes (runs veiled 32 (goes (runs veiled 32 (runs veiled 32 (runs veiled 32 (start keys _ _) c.in_ok-door_a_to_b.ensures.0) c.in_ok-door_b_to_a.ensures.0) c.in_ok-route_key.ensures.0) c.in_ok-resume_index.ensures) c.in_ok-chain_key.ensures.0) c.in_ok-sent_msgno.ensures))
    (λ i. record {
      resume_index = its.resume_index;
      door_a_to_b = door-a-to-b-at i;
      door_b_to_a = door-b-to-a-at i;
      route_key = route-key-at i;
      chain_key = chain-key-at i;
      sent_msgno = its.sent_msgno;
    })

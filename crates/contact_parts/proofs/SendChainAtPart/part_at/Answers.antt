-- `<SendChainAt as Part>::part_at` meets its contract: along the layout, and each field at its place.
-- Assumes nothing.
use Rattle.std.proofs.Common.{rules, ◌≡◌, ◌+◌, ℕ, List, take, drop, Err, arith}
use mathlib.Core.Path.{refl}
use Rattle.layout.specs.Veil.{veiled}
use Rattle.layout.specs.RowLaws.{Bytes}
use Rattle.layout.proofs.At.{typed}
use Rattle.layout.proofs.Along.{Fields}
use Rattle.layout.proofs.Walk.{start, goes, stops, runs, cut, all}
use Rattle.offsets.specs.Offset.{offset}
use Rattle.offsets.proofs.Runs.{run-starts, field-ends}
use Rattle.contact_parts.proofs.Walked.{refuses_here, stands_here}
use Rattle.layout.specs.Form.{u8, u32}
use Rattle.layout.proofs.Front.{bytes-lawful, number-lawful}
use Rattle.rows.specs.Values.{Send}
use Rattle.rows.specs.Rows.{dir, send}
use Rattle.rows.proofs.Lawful.{dir-lawful}
use Rattle.contact_parts.specs.Offsets.{send_chain_at}
use Rattle.contact_parts.proofs.SendChainAtPart.part_at.Goals as goal

send-fields : Fields send
send-fields = (number-lawful 1, λ g. (dir-lawful, λ d. (number-lawful 4, λ i. (bytes-lawful veiled 32, λ k. tt))))

pub returns-in_err-gen_ : goal.returns-in_err-gen_
returns-in_err-gen_ c =
    let told : c.from_residual.result ≡ Err c.in_err-gen_.field-0.0 = search rules in
    rw told (refuses_here send send-fields _ (typed _ c.type_inv.row) _ tt (send_chain_at _) (stops (start send _ _) c.in_err-gen_.ensures))

pub returns-in_err-dir : goal.returns-in_err-dir
returns-in_err-dir c =
    let told : c.from_residual-in_err-dir.result ≡ Err c.in_err-dir.field-0.0 = search rules in
    rw told (refuses_here send send-fields _ (typed _ c.type_inv.row) _ tt (send_chain_at _) (stops (goes (start send _ _) c.in_ok-gen_.ensures) c.in_err-dir.ensures))

pub returns-in_err-idx : goal.returns-in_err-idx
returns-in_err-idx c =
    let told : c.from_residual-in_err-idx.result ≡ Err c.in_err-idx.field-0.0 = search rules in
    rw told (refuses_here send send-fields _ (typed _ c.type_inv.row) _ tt (send_chain_at _) (stops (goes (goes (start send _ _) c.in_ok-gen_.ensures) c.in_ok-dir.ensures) c.in_err-idx.ensures))

pub returns-in_err-key : goal.returns-in_err-key
returns-in_err-key c =
    let told : c.from_residual-in_err-key.result ≡ Err c.in_err-key.field-0.0 = search rules in
    rw told (refuses_here send send-fields _ (typed _ c.type_inv.row) _ tt (send_chain_at _) (cut veiled 32 (goes (goes (goes (start send _ _) c.in_ok-gen_.ensures) c.in_ok-dir.ensures) c.in_ok-idx.ensures) c.in_err-key.ensures.0))

pub returns : goal.returns
returns c =
    let row : List ℕ = c.args.row.now in
    let by : Bytes row = typed row c.type_inv.row in
    let gen-next = field-ends _ _ u8 (number-lawful 1) by refl c.in_ok-gen_.ensures in
    let dir-next = field-ends _ _ dir dir-lawful by refl c.in_ok-dir.ensures in
    let idx-next = field-ends _ _ u32 (number-lawful 4) by refl c.in_ok-idx.ensures in
    let key-run = run-starts row _ 32 by (omega arith) c.in_ok-key.ensures.0 c.in_ok-key.ensures.1 in
    let its : Send = record { gen = c.in_ok-gen_.gen_; dir = c.in_ok-dir.dir; idx = c.in_ok-idx.idx; key = take 32 (drop c.in_ok-key.key row) } in
    let key-at : c.in_ok-key.key ≡ c.args.at + offset send 3 its = omega (arith, gen-next, dir-next, idx-next, key-run.starts) in
    stands_here send send-fields _ (typed _ c.type_inv.row) _ tt (send_chain_at _) {v = its} (all (runs veiled 32 (goes (goes (goes (start send _ _) c.in_ok-gen_.ensures) c.in_ok-dir.ensures) c.in_ok-idx.ensures) c.in_ok-key.ensures.0))
    (λ i. record { key = key-at i; idx = its.idx; gen_ = its.gen; dir = its.dir })

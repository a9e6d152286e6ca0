-- `veil::veil_contact` meets its contract: one part behind another; or the row's own refusal, or no room.
use Rattle.std.proofs.Common.{rules, ◌≡◌, ◌+◌, Err, length, arith}
use Rattle.layout.specs.Layout.{accepted, read_row, print, blank_of}
use Rattle.layout.specs.Veil.{veil}
use Rattle.layout.proofs.At.{typed}
use Rattle.rows.specs.Rows.{contact}
use Rattle.put.proofs.Put.{◌then◌, wrote-long}
use Rattle.contact_parts.specs.Parts.{paired, keys, chained, numbers}
use Rattle.contact_parts.specs.Offsets.{paired_from, numbers_from}
use Rattle.contact.specs.Check.{contact_from, Offsets}
use Rattle.contact.proofs.Placed.{placed}
use Rattle.veil_contact.specs.Veiled.{veiled_keys, veiled_chained}
use Rattle.veil_contact.proofs.Whole.{paired-stands, veiled-copy, copy-long, numbers-run}
use Rattle.veil.proofs.Copied.{not-copied, copy-short, copy_stored}
use Rattle.veil.proofs.veil_contact.Goals as goal
use Rattle.veil.proofs.veil_contact.Goals.{In_ok-at}

-- what the check's places tell
its : (c : In_ok-at) → (read_row (contact c.args.version) c.args.row.now ≡ accepted (contact_from c.args.row.now c.in_ok-at.at)) × Offsets c.args.row.now c.in_ok-at.at
its c = placed c.args.row.now (typed c.args.row.now c.type_inv.row) c.args.version c.in_ok-at.ensures

-- the copy is as long as the row, part by part
long : (c : In_ok-at) → let at = c.in_ok-at.at in
    length (print paired (blank_of paired veil (paired_from c.args.row.now at.paired))) + (length (print keys (veiled_keys at.keys)) + (length (print chained (veiled_chained c.args.row.now at.chained)) + length (print numbers (numbers_from c.args.row.now at.numbers)))) ≡ length c.args.row.now
long c = let at = c.in_ok-at.at in copy-long c.args.version c.args.row.now (typed c.args.row.now c.type_inv.row) at.paired at.keys at.chained at.numbers (its c).0

pub returns-in_err-at : goal.returns-in_err-at
returns-in_err-at c =
    let no : c.from_residual.result ≡ Err c.in_err-at.field-0.0 = search rules in
    rw no (not-copied _ (contact c.args.version) c.args.row.now c.in_err-at.ensures c.args.out.now)

pub returns-then-out-n : goal.returns-then-out-n
returns-then-out-n c = copy-short (contact c.args.version) c.args.row.now c.args.out.now (its (goal.at.returns-then-out-n c).In_ok-at).0 c.if-out-n.true

pub veil_paired-keys_at-requires : goal.veil_paired-keys_at-requires
veil_paired-keys_at-requires c =
    let k = (goal.at.veil_paired-keys_at-requires c).In_ok-at in
    let at = c.in_ok-at.at in
    let stands = paired-stands c.args.version c.args.row.now (typed c.args.row.now c.type_inv.row) at.paired at.keys at.chained at.numbers (its k).0 in
    ((its k).1.card, stands, omega (arith, long k))

pub veil_keys-chained_at-requires : goal.veil_keys-chained_at-requires
veil_keys-chained_at-requires c = omega (arith, long (goal.at.veil_keys-chained_at-requires c).In_ok-at)

pub veil_chained-numbers_at-requires : goal.veil_chained-numbers_at-requires
veil_chained-numbers_at-requires c =
    let k = (goal.at.veil_chained-numbers_at-requires c).In_ok-at in
    ((its k).1.chained, omega (arith, long k, wrote-long c.veil_paired-keys_at.ensures.1, wrote-long c.veil_keys-chained_at.ensures.1))

pub overflow_sub-n : goal.overflow_sub-n
overflow_sub-n c = omega (arith, long (goal.at.overflow_sub-n c).In_ok-at)

pub put_run-requires : goal.put_run-requires
put_run-requires c =
    let long = long (goal.at.put_run-requires c).In_ok-at in
    (omega (arith, long), omega (arith, long, wrote-long c.veil_paired-keys_at.ensures.1, wrote-long c.veil_keys-chained_at.ensures.1, wrote-long c.veil_chained-numbers_at.ensures.1))

pub returns : goal.returns
returns c =
    let k = (goal.at.returns c).In_ok-at in
    let a = c.args in
    let at = c.in_ok-at.at in
    let by = typed a.row.now c.type_inv.row in
    let here : c.veil_chained-numbers_at.result + length (print numbers (numbers_from a.row.now at.numbers)) ≡ length a.row.now = omega (arith, long k) in
    let run = rw (numbers-run a.version a.row.now by at.paired at.keys at.chained at.numbers (its k).0 _ here) at c.put_run.ensures.1 in
    let w = c.veil_paired-keys_at.ensures.1 then (c.veil_keys-chained_at.ensures.1 then (c.veil_chained-numbers_at.ensures.1 then run)) in
    copy_stored (contact a.version) a.row.now a.out.now (its k).0 c.if-out-n.false (rw (← veiled-copy a.version a.row.now by at.paired at.keys at.chained at.numbers (its k).0) at w)

-- `contact_known::sent_if_known` meets its contract: the parts of an accepted row are found where its reader found them.
use Rattle.std.proofs.Common.{Ok}
use mathlib.Core.Path.{sym}
use Rattle.layout.proofs.At.{typed}
use Rattle.rows.proofs.RoundTrip.{ok≢err}
use Rattle.contact_known.proofs.Ends.{never, once, ok_is}
use Rattle.contact_known.proofs.Parts.{parted, keys-there, chained-there, unacked-there}
use Rattle.contact_known.proofs.sent_if_known.Goals as goal

pub returns-in_err-keys_at : goal.returns-in_err-keys_at
returns-in_err-keys_at c = λ version v granted.
    absurd (ok≢err (sym (c.in_err-keys_at.ensures _ _ (parted version c.args.row.now (typed _ c.type_inv.row) granted).paired-read)))

pub returns-in_err-keys : goal.returns-in_err-keys
returns-in_err-keys c = λ version v granted.
    absurd (never (keys-there version c.args.row.now (typed _ c.type_inv.row) granted c.in_ok-keys_at.ensures) (sym c.in_err-keys.ensures))

pub returns-in_err-numbers_at : goal.returns-in_err-numbers_at
returns-in_err-numbers_at c = λ version v granted.
    let there = keys-there version c.args.row.now (typed _ c.type_inv.row) granted c.in_ok-keys_at.ensures in
    absurd (ok≢err (sym (chained-there version c.args.row.now (typed _ c.type_inv.row) granted (once there (sym c.in_ok-keys.ensures)).1 c.in_err-numbers_at.ensures)))

pub returns-in_err-unacked : goal.returns-in_err-unacked
returns-in_err-unacked c = λ version v granted.
    let there = keys-there version c.args.row.now (typed _ c.type_inv.row) granted c.in_ok-keys_at.ensures in
    let behind = chained-there version c.args.row.now (typed _ c.type_inv.row) granted (once there (sym c.in_ok-keys.ensures)).1 c.in_ok-numbers_at.ensures in
    absurd (ok≢err (sym (unacked-there version c.args.row.now (typed _ c.type_inv.row) granted (ok_is behind) c.in_err-unacked.ensures)))

pub returns : goal.returns
returns c = λ version v granted.
    let there = keys-there version c.args.row.now (typed _ c.type_inv.row) granted c.in_ok-keys_at.ensures in
    let its = once there (sym c.in_ok-keys.ensures) in
    let behind = chained-there version c.args.row.now (typed _ c.type_inv.row) granted its.1 c.in_ok-numbers_at.ensures in
    let unacked = ok_is (unacked-there version c.args.row.now (typed _ c.type_inv.row) granted (ok_is behind) c.in_ok-unacked.ensures) in
    λ i. Ok (record { unacked = unacked i; sent_msgno = (sym its.0 i).sent_msgno })

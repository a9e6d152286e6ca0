-- `veil_contact::veil_chained` meets its contract: one writer behind another.
use native.Mathlib.Omega.{arith}
use Rattle.put.proofs.Put.{◌then◌}
use Rattle.veil_contact.proofs.Keyed.{chain-keys, skipped-keys}
use Rattle.veil_contact.proofs.Chained.{chained-print, chained-long}
use Rattle.veil_contact.proofs.veil_chained.Goals as goal

pub veil_pending-send_at-requires : goal.veil_pending-send_at-requires
veil_pending-send_at-requires c = omega (arith, chained-long c.args.row.now c.args.c)

pub veil_send-chains_at-requires : goal.veil_send-chains_at-requires
veil_send-chains_at-requires c = omega (arith, chained-long c.args.row.now c.args.c)

pub veil_list-skipped_at-requires : goal.veil_list-skipped_at-requires
veil_list-skipped_at-requires c = (chain-keys, c.requires.0.chains, omega (arith, chained-long c.args.row.now c.args.c))

pub veil_list-requires : goal.veil_list-requires
veil_list-requires c = (skipped-keys, c.requires.0.skipped, omega (arith, chained-long c.args.row.now c.args.c))

pub returns : goal.returns
returns c =
    let w = c.veil_pending-send_at.ensures.1 then (c.veil_send-chains_at.ensures.1 then (c.veil_list-skipped_at.ensures.1 then c.veil_list.ensures.1)) in
    rw (chained-print c.args.row.now c.args.c) (w.next-is, w)

-- `veil_contact::veil_pending` meets its contract: one writer behind another.
use mathlib.Core.Bool.{true, false}
use mathlib.Core.Path.{◌≡◌, ap}
use native.Mathlib.Omega.{arith}
use lib.ListN.{length}
use Rattle.std.specs.Option.{is_some}
use Rattle.put.proofs.Put.{◌then◌}
use Rattle.veil_contact.proofs.Flagged.{pending-none, pending-some}
use Rattle.veil_contact.proofs.veil_pending.Goals as goal
use Rattle.veil_contact.proofs.veil_pending.Goals.{Then-is_none, Else-is_none}

none : (c : Then-is_none) → is_some c.args.p ≡ false
none c = rw c.if-is_none.true at c.is_none.ensures

some : (c : Else-is_none) → is_some c.args.p ≡ true
some c = rw c.if-is_none.false at c.is_none.ensures

pub put_byte-requires : goal.put_byte-requires
put_byte-requires c = omega (arith, ap length (pending-none c.args.p (none (goal.at.put_byte-requires c).Then-is_none)))

pub put_byte-chain_key_at-requires : goal.put_byte-chain_key_at-requires
put_byte-chain_key_at-requires c = omega (arith, ap length (pending-some c.args.p (some (goal.at.put_byte-chain_key_at-requires c).Else-is_none)))

pub put_zeros-requires : goal.put_zeros-requires
put_zeros-requires c = omega (arith, ap length (pending-some c.args.p (some (goal.at.put_zeros-requires c).Else-is_none)))

pub returns-then-is_none : goal.returns-then-is_none
returns-then-is_none c =
    let w = c.put_byte.ensures.1 in
    rw (pending-none c.args.p (none (goal.at.returns-then-is_none c).Then-is_none)) (w.next-is, w)

pub returns : goal.returns
returns c =
    let w = c.put_byte-chain_key_at.ensures.1 then c.put_zeros.ensures.1 in
    rw (pending-some c.args.p (some (goal.at.returns c).Else-is_none)) (w.next-is, w)

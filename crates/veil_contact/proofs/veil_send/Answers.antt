-- `veil_contact::veil_send` meets its contract: one writer behind another.
use mathlib.Core.Path.{ap}
use native.Mathlib.Omega.{arith}
use lib.ListN.{length}
use borrow.Author.Rules.{rules}
use Rattle.layout.proofs.Front.{byte-print}
use Rattle.put.proofs.Put.{◌then◌}
use Rattle.veil_contact.proofs.Flagged.{send-none, send-some}
use Rattle.veil_contact.proofs.veil_send.Goals as goal

pub put_byte-requires : goal.put_byte-requires
put_byte-requires c = omega (arith, ap length (send-none c.args.s c.in_default.not-Some))

pub returns-in_default : goal.returns-in_default
returns-in_default c =
    let w = c.put_byte.ensures.1 in
    rw (send-none c.args.s c.in_default.not-Some) (w.next-is, w)

pub returns : goal.returns
returns c =
    let w = c.put_byte-gen_at.ensures.1 then (rw (← byte-print c.in-Some.its.gen_ (search rules)) at c.put_byte-dir_at.ensures.1 then (rw c.from.ensures at c.put_byte-idx_at.ensures.1 then (rw c.from-2.ensures at c.put_be-key_at.ensures.1 then c.put_zeros.ensures.1))) in
    rw (send-some c.in-Some.is) (w.next-is, w)

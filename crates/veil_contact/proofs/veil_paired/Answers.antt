-- `veil_contact::veil_paired` meets its contract: the part is bytes around a key.
use native.Mathlib.Omega.{arith}
use Rattle.veil_contact.proofs.Around.{hidden-long, inside, copied}
use Rattle.veil_contact.proofs.Paired.{paired-found}
use Rattle.veil_contact.proofs.veil_paired.Goals as goal

pub veil_key-requires : goal.veil_key-requires
veil_key-requires c =
    let a = paired-found c.args.row.now c.args.p c.requires.0 c.requires.1 c.card_tail-tail.ensures in
    (inside a c.args.row.now 0 c.requires.1.post c.requires.1.joins, omega (arith, hidden-long a, c.requires.2))

pub returns : goal.returns
returns c =
    let a = paired-found c.args.row.now c.args.p c.requires.0 c.requires.1 c.card_tail-tail.ensures in
    let w = rw (copied a c.args.row.now 0 c.requires.1.post c.requires.1.joins) at c.veil_key.ensures.1 in
    (w.next-is, w)

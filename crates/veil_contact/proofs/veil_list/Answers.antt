-- `veil_contact::veil_list` meets its contract: the count, and the items behind it.
use native.Mathlib.Omega.{arith}
use Rattle.layout.proofs.At.{typed}
use Rattle.put.proofs.Put.{◌then◌}
use Rattle.veil_contact.proofs.Chained.{list-print, list-long}
use Rattle.veil_contact.proofs.veil_list.Goals as goal

pub put_be-first-requires : goal.put_be-first-requires
put_be-first-requires g c =
    omega (arith, list-long g.I.Item.form g.met.I.Item.lawful c.args.row.now (typed c.args.row.now c.type_inv.row) c.args.l c.requires.1)

pub veil_each-requires : goal.veil_each-requires
veil_each-requires g c =
    (c.requires.0, c.requires.1, omega (arith, list-long g.I.Item.form g.met.I.Item.lawful c.args.row.now (typed c.args.row.now c.type_inv.row) c.args.l c.requires.1))

pub returns : goal.returns
returns g c =
    let w = c.put_be-first.ensures.1 then c.veil_each.ensures.1 in
    rw (list-print g.I.Item.form g.met.I.Item.lawful c.args.row.now (typed c.args.row.now c.type_inv.row) c.args.l c.requires.1) (w.next-is, w)

-- `contact_lent::places_size` meets its contract. The invariant (`Sizing`): i places have n bytes, and with what is left that is the whole.
use Rattle.std.proofs.Common.{rules, ◌≡◌, Err}
use Rattle.contact_lent.proofs.Sizes.{sizing-start, sizing-turn, sizing-stop, sizing-end}
use Rattle.contact_lent.proofs.places_size.Goals as goal

pub loop-i-init : goal.loop-i-init
loop-i-init g c = sizing-start g.P.Place.BYTES g.P.Place.row_size c.args.lent.now c.args.count

pub returns-in_err-n : goal.returns-in_err-n
returns-in_err-n g c =
    let no : c.from_residual.result ≡ Err c.in_err-n.field-0.0 = search rules in
    let e = c.in_err-n.ensures.0 in
    rw no (sizing-stop _ _ _ _ c.loop-i-test.true c.loop-i.invariant (rw c.BYTES.ensures at e))

pub loop-i-preserved : goal.loop-i-preserved
loop-i-preserved g c = let e = c.in_ok-n.ensures.0 in sizing-turn _ _ _ _ c.loop-i-test.true c.loop-i.invariant (rw c.BYTES.ensures at e) c.in_ok-n.ensures.1

pub returns : goal.returns
returns g c = sizing-end _ _ _ _ c.loop-i-test.false c.loop-i.invariant

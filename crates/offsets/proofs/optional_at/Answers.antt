-- `offsets::optional_at` meets its contract: the flag, and then the part or nothing.
use Rattle.std.proofs.Common.{rules, ◌≡◌, Err}
use Rattle.layout.proofs.At.{typed}
use Rattle.offsets.proofs.Optional.{no-flag, absent, not_read, there}
use Rattle.offsets.proofs.optional_at.Goals as goal

pub returns-in_err-present : goal.returns-in_err-present
returns-in_err-present g c =
    let no : c.from_residual.result ≡ Err c.in_err-present.field-0.0 = search rules in
    rw no (no-flag _ g.met.P.Part.lawful g.P.Part.places c.args.row.now (typed _ c.type_inv.row) c.args.at c.in_err-present.ensures)

pub returns-then-not-present : goal.returns-then-not-present
returns-then-not-present g c = absent _ g.met.P.Part.lawful g.P.Part.places c.args.row.now (typed _ c.type_inv.row) c.args.at c.in_ok-present.ensures c.if-not-present.true

pub returns-in_err-its : goal.returns-in_err-its
returns-in_err-its g c =
    let no : c.from_residual-in_err-its.result ≡ Err c.in_err-its.field-0.0 = search rules in
    rw no (not_read _ g.met.P.Part.lawful g.P.Part.places c.args.row.now (typed _ c.type_inv.row) c.args.at c.in_ok-present.ensures c.if-not-present.false c.in_err-its.ensures)

pub returns : goal.returns
returns g c = there _ g.met.P.Part.lawful g.P.Part.places c.args.row.now (typed _ c.type_inv.row) c.args.at c.in_ok-present.ensures c.if-not-present.false c.in_ok-its.ensures

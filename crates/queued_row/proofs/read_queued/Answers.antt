-- `queued_row::read_queued` meets its contract: checked, then copied; or refused by the same question.
use Rattle.std.proofs.Common.{rules, ◌≡◌, ◌-◌, ◌≤◌, Err, length, drop, length-drop, arith}
use mathlib.Core.Path.{refl}
use Rattle.layout.proofs.At.{typed}
use Rattle.sealed.proofs.Made.{made-no}
use Rattle.queued.proofs.Placed.{placed}
use Rattle.queued_row.proofs.read_queued.Goals as goal

pub returns-in_err-at : goal.returns-in_err-at
returns-in_err-at c = let no : c.from_residual.result ≡ Err c.in_err-at.field-0.0 = search rules in rw no (made-no _ _ _ c.in_err-at.ensures)

pub queued_from-requires : goal.queued_from-requires
queued_from-requires c = (placed c.args.row.now (typed _ c.type_inv.row) c.args.version c.in_ok-at.ensures).1

pub returns : goal.returns
returns c =
    let its = placed c.args.row.now (typed _ c.type_inv.row) c.args.version c.in_ok-at.ensures in
    let inside : c.in_ok-at.at.sealed ≤ length c.args.row.now = its.1.sealed in
    let place : length c.args.row.now - length (drop c.in_ok-at.at.sealed c.args.row.now) ≡ c.in_ok-at.at.sealed = rw length-drop (omega arith) in
    rw (its.0, c.queued_from.ensures, place) refl

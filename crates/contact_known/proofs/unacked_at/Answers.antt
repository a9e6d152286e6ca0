-- `contact_known::unacked_at` meets its contract: four numbers, the ranges above contiguous, and then the list.
use mathlib.Core.Path.{sym}
use Rattle.layout.proofs.At.{typed}
use Rattle.contact_known.proofs.Ends.{never, once, four-run, above-read, unacked-is}
use Rattle.contact_known.proofs.unacked_at.Goals as goal

pub returns-in_err-_numbers : goal.returns-in_err-_numbers
returns-in_err-_numbers c = λ n next read. absurd (never (four-run c.args.row.now (typed _ c.type_inv.row) c.args.at read) (sym c.in_err-_numbers.ensures.0))

pub returns-in_err-above : goal.returns-in_err-above
returns-in_err-above c = λ n next read.
    let behind = (once (sym c.in_ok-_numbers.ensures.0) (four-run c.args.row.now (typed _ c.type_inv.row) c.args.at read)).1 in
    absurd (never (above-read c.args.row.now (typed _ c.type_inv.row) c.args.at read _ behind) (sym c.in_err-above.ensures.0))

pub returns : goal.returns
returns c = λ n next read.
    let behind = (once (sym c.in_ok-_numbers.ensures.0) (four-run c.args.row.now (typed _ c.type_inv.row) c.args.at read)).1 in
    unacked-is c.args.row.now (typed _ c.type_inv.row) c.args.at read _ behind (sym c.in_ok-above.ensures.0) c.numbers_at.result c.numbers_at.ensures

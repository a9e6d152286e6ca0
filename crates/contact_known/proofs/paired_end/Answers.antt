-- `contact_known::paired_end` meets its contract: the card's length stands where it does in every row that was read, and the card ends where that says.
use Rattle.std.proofs.Common.{rules, ◌≡◌, Ok}
use mathlib.Core.Path.{sym, ap}
use Rattle.layout.proofs.At.{typed}
use Rattle.contact_known.proofs.Ends.{never, once, card-counted, card-run}
use Rattle.contact_known.proofs.paired_end.Goals as goal

pub returns-in_err-len : goal.returns-in_err-len
returns-in_err-len c = λ p next read. absurd (never (card-counted c.args.row.now (typed _ c.type_inv.row) read) (sym c.in_err-len.ensures))

pub returns-in_err-_card : goal.returns-in_err-_card
returns-in_err-_card c =
    let same : c.from.result ≡ c.in_ok-len.len = search rules in
    let cut = c.in_err-_card.ensures.0 in
    λ p next read. absurd (never (card-run c.args.row.now (typed _ c.type_inv.row) read (sym c.in_ok-len.ensures)) (sym (rw same at cut)))

pub returns : goal.returns
returns c =
    let same : c.from.result ≡ c.in_ok-len.len = search rules in
    let run = c.in_ok-_card.ensures.0 in
    λ p next read. ap (λ n. Ok n) (once (sym (rw same at run)) (card-run c.args.row.now (typed _ c.type_inv.row) read (sym c.in_ok-len.ensures))).1

-- `c_card::sicklestar_card` meets its contract: a card that is read is written again, and what `encode` leaves is what the definition stores.
-- Assumes nothing.
use mathlib.Core.Path.{refl, ◌∙◌}
use Rattle.layout.specs.Layout.{read_row}
use Rattle.layout.proofs.At.{typed}
use Rattle.rows.specs.Rows.{card_row}
use Rattle.c_card.specs.Faces.{zero_or, rewrite_card}
use Rattle.c_card.proofs.Faces.{answered}
use Rattle.c_card.proofs.Card.{refused-again, written-again}
use Rattle.c_card.proofs.sicklestar_card.Goals as goal

pub returns-in-Ok : goal.returns-in-Ok
unfolding rewrite_card
returns-in-Ok c =
    let input = c.args.input.now in
    let out = c.args.out.now in
    answered zero_or c.zero_or.ensures (c.encode.ensures ∙ written-again out input (typed input c.type_inv.input) (read_row card_row input) refl c.in-Ok.ensures)

pub returns-in-Err : goal.returns-in-Err
unfolding rewrite_card
returns-in-Err c = rw (refused-again c.args.out.now (read_row card_row c.args.input.now) c.in-Err.ensures, c.from.ensures, c.number.ensures)

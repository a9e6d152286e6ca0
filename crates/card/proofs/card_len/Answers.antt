-- `card::card_len` meets its contract.
use mathlib.Core.Path.{sym, ◌∙◌}
use Rattle.card.proofs.Image.{length-image}
use Rattle.card.proofs.card_len.Goals as goal

pub returns : goal.returns
returns c = c.length_of.ensures ∙ sym (length-image c.args.card c.typed.ensures)

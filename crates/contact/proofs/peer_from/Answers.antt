-- `contact::peer_from` meets its contract: the card's runs lie in its part of the row.
use mathlib.Core.Path.{◌∙◌}
use Rattle.card.proofs.Placed.{card-placed}
use Rattle.contact.proofs.peer_from.Goals as goal

pub returns : goal.returns
returns c = c.card_from.ensures ∙ card-placed _ _ c.requires.runs

-- `card::Card::decode` meets its contract: checked, then copied.
use Rattle.std.proofs.Common.{rules, ◌≡◌, Err}
use mathlib.Core.Path.{ap, ◌∙◌}
use Rattle.layout.specs.Layout.{accepted}
use Rattle.layout.specs.Says.{made}
use Rattle.card.specs.Card.{card_of}
use Rattle.card.proofs.Placed.{card-placed}
use Rattle.card.proofs.Card.decode.Goals as goal

pub returns-in_err-at : goal.returns-in_err-at
returns-in_err-at c = let told : c.from_residual.result ≡ Err c.in_err-at.field-0.0 = search rules in rw told (ap (made card_of) c.in_err-at.ensures.0)

pub returns : goal.returns
returns c = ap accepted (c.card_from.ensures ∙ card-placed c.args.input.now c.in_ok-at.at c.in_ok-at.ensures.1) ∙ ap (made card_of) c.in_ok-at.ensures.0

-- `contact_lent::chains_size` meets its contract: the places one by one.
use mathlib.Core.Path.{◌∙◌}
use Rattle.layout.specs.Layout.{group}
use Rattle.rows.specs.Rows.{chain}
use Rattle.contact_lent.proofs.Sizes.{sizes_are}
use Rattle.contact_lent.proofs.chains_size.Goals as goal

pub returns : goal.returns
returns c = c.places_size.ensures ∙ sizes_are 51 (group chain) c.args.count c.args.lent.now

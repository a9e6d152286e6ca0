-- `contact_lent::skipped_size` meets its contract: the places one by one.
use mathlib.Core.Path.{◌∙◌}
use Rattle.layout.specs.Layout.{group}
use Rattle.rows.specs.Rows.{skipped}
use Rattle.contact_lent.proofs.Sizes.{sizes_are}
use Rattle.contact_lent.proofs.skipped_size.Goals as goal

pub returns : goal.returns
returns c = c.places_size.ensures ∙ sizes_are 46 (group skipped) c.args.count c.args.lent.now

-- `contact_image::put_numbers` meets its contract: the counters, and the lists behind them.
use native.Mathlib.Omega.{arith}
use Rattle.put.proofs.Put.{◌then◌}
use Rattle.sealed.proofs.Text.{wrote_as}
use Rattle.contact.specs.Contact.{read_in}
use Rattle.contact_image.proofs.Bytes.{numbers-are}
use Rattle.contact_image.proofs.put_numbers.Goals as goal

pub returns : goal.returns
returns c = (
  omega (arith, c.put_counters-lists_at.ensures.0, c.put_lists.ensures.0),
  (wrote_as (numbers-are c.args.contact (read_in c.args.lists)) (c.put_counters-lists_at.ensures.1 then c.put_lists.ensures.1)).1,
)

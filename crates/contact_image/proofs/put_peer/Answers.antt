-- `contact_image::put_peer` meets its contract: the length, and the card behind it.
use Prim.Native.Nat.{ℕ, ◌-◌, ◌≤◌}
use mathlib.Core.List.{◌++◌}
use mathlib.Core.Path.{sym, ap}
use native.Mathlib.Omega.{arith}
use lib.ListN.{length}
use Rattle.layout.specs.Form.{bytes_of}
use Rattle.put.proofs.Put.{◌then◌, wrote-long}
use Rattle.sealed.proofs.Text.{wrote_as}
use Rattle.card.specs.Card.{image}
use Rattle.card.proofs.Image.{whole-fits}
use Rattle.contact_image.proofs.put_peer.Goals as goal

pub returns : goal.returns
returns c =
    let card = c.args.contact.peer in
    let room : length (image card) ≤ length c.put_count-card_at.new.out - c.put_count-card_at.result = omega (arith, wrote-long c.put_count-card_at.ensures.1, c.put_count-card_at.ensures.0, c.requires.1) in
    let w = rw (whole-fits card _ c.requires.0 room) at c.put_card.ensures in (
      omega (arith, c.put_count-card_at.ensures.0, w.next-is),
      (wrote_as (ap (λ (k : ℕ). bytes_of 2 k ++ image card) (sym c.card_len-n.ensures)) (c.put_count-card_at.ensures.1 then w)).1,
    )

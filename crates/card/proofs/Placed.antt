-- The runs of a card lie in its input exactly where the card fits.
-- Assumes nothing.
use Prim.Native.Nat.{ℕ, ◌+◌, ◌≤◌}
use mathlib.Core.List.{List}
use mathlib.Core.Bool.{Bool, true, false, cond}
use mathlib.Core.Path.{◌≡◌, refl, ap}
use native.Mathlib.Omega.{arith}
use lib.ListN.{length}
use borrow.Author.Tests.{le-leb, leb-true}
use Rattle.rows.specs.Checks.{kci}
use Rattle.rows.proofs.Tests.{and_both, both-and}
use Rattle.card.specs.Card.{Offsets, card_from, card_of, zero_card, length_of, card_fits, card_at}
use Rattle.card.specs.declared.CardAt.{CardAt}

module _ (input : List ℕ) (n : CardAt) where
  pub fit-places : card_fits n.caps n.name_len (length input) ≡ true → Offsets input n
  fit-places e =
      let few = and_both _ _ e in
      let room : length_of n.caps n.name_len ≤ length input = leb-true _ _ few.1 in
      record { name_len = leb-true _ _ few.0; name = omega arith; static_ek = λ set. rw set at room }

  pub places-fit : Offsets input n → card_fits n.caps n.name_len (length input) ≡ true
  places-fit p = both-and _ _ (le-leb _ _ p.name_len) (le-leb _ _ (go (kci n.caps) refl))
    where
      go : (t : Bool) → kci n.caps ≡ t → 38 + n.name_len + cond t 1184 0 ≤ length input
      go true set = p.static_ek set
      go false clear = omega (arith, p.name)

  -- where they do, the card is the one that stands there
  pub card-placed : Offsets input n → card_at input n ≡ card_of (card_from input n)
  card-placed p = ap (λ (t : Bool). cond t (card_of (card_from input n)) zero_card) (places-fit p)

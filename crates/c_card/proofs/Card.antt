-- A card decoded and encoded: what is left in the output is what the definition stores.
-- Assumes nothing.
use Prim.Native.Nat.{ℕ}
use mathlib.Core.List.{List}
use mathlib.Core.Path.{◌≡◌, sym}
use Rattle.layout.specs.Layout.{Answer, accepted, refused_by, read_row}
use Rattle.layout.specs.Says.{made}
use Rattle.layout.specs.RowLaws.{Bytes}
use Rattle.layout.specs.Write.{refuses, writes}
use Rattle.layout.specs.Write as write
use Rattle.layout.proofs.Theorems.{accepted≢}
use Rattle.rows.specs.Values.{Card}
use Rattle.rows.specs.Rows.{card_row}
use Rattle.rows.proofs.Proved.{proved}
use Rattle.card.specs.Card.{card_of, image}
use Rattle.card.specs.declared.Card as cards
use Rattle.card.proofs.RoundTrip.{card-laws}
use Rattle.c_card.specs.Faces.{again}

module _ (out : List ℕ) where
  pub refused-again : (a : Answer Card) {q : ℕ} → refused_by q ≡ made card_of a → again a out ≡ record { answer = refuses q; out = out }
  refused-again (accepted v) e = absurd (accepted≢ (sym e))
  refused-again (refused_by p) e = cc

  -- the card stands for the row that was read
  pub written-again : (input : List ℕ) → Bytes input → (a : Answer Card) → read_row card_row input ≡ a → {c : cards.Card} → accepted c ≡ made card_of a
      → writes card_row (image c) out ≡ again a out
  unfolding write.writes
  written-again input by (accepted v) e {c} told =
      let same : c ≡ card_of v = cc in
      rw (same, card-laws.read-image input by v e, proved.card.laws.read-print input by v e, e)
  written-again input by (refused_by q) e told = absurd (accepted≢ told)

-- `card::put_card` meets its contract: the row where it fits, and nothing where it does not.
use Prim.Native.Nat.{ℕ, ◌-◌}
use mathlib.Core.List.{List}
use mathlib.Core.Bool.{Bool, true, false, ◌&&◌, and-false}
use mathlib.Core.Path.{◌≡◌, sym, ap, ◌∙◌}
use native.Mathlib.Omega.{arith}
use lib.ListN.{length}
use lib.Dec.{leb}
use borrow.Author.Tests.{leb-true, lt-leb}
use Rattle.rows.specs.Checks.{name_short}
use Rattle.rows.proofs.Tests.{and_both}
use Rattle.put.specs.Put.{Wrote}
use Rattle.put.proofs.Put.{wrote_none}
use Rattle.card.specs.Card.{CardTyped, image, length_of, card_fits, storable}
use Rattle.card.specs.declared.Card.{Card}
use Rattle.card.proofs.Image.{length-image}
use Rattle.card.proofs.put_card.Goals as goal

module _ (c : Card) (ty : CardTyped c) (room : ℕ) where
  abbrev fits : Bool
  fits = card_fits c.caps c.name_len room

  row_fits : name_short c.name_len && leb (length (image c)) room ≡ fits
  row_fits = ap (λ (n : ℕ). name_short c.name_len && leb n room) (length-image c ty)

  -- no card fits into no bytes
  none-fits : room ≡ 0 → fits ≡ false
  none-fits e = ap (λ (t : Bool). name_short c.name_len && t) (lt-leb (length_of c.caps c.name_len) room (omega arith)) ∙ and-false (name_short c.name_len)

  not-stored : (out : List ℕ) (at : ℕ) → fits ≡ false → Wrote out at (storable c room) out at
  not-stored out at e = rw (row_fits ∙ e) (wrote_none out at)

  whole-stored : {out m : List ℕ} {at p : ℕ} → fits ≡ true → Wrote out at (image c) m p → Wrote out at (storable c room) m p
  whole-stored e w = rw (row_fits ∙ e) w

pub returns-then-len-at : goal.returns-then-len-at
returns-then-len-at c =
    let room = length c.args.out.now - c.args.at in
    not-stored c.args.card c.typed.ensures room c.args.out.now c.args.at (none-fits c.args.card c.typed.ensures room (omega arith))

pub returns-then-not-card_fits : goal.returns-then-not-card_fits
returns-then-not-card_fits c = not-stored c.args.card c.typed.ensures _ _ _ (sym c.card_fits.ensures ∙ c.if-not-card_fits.true)

pub put_row-requires : goal.put_row-requires
put_row-requires c =
    let both = and_both _ _ (sym c.card_fits.ensures ∙ c.if-not-card_fits.false) in
    (leb-true _ _ both.0, omega (arith, leb-true _ _ both.1, length-image c.args.card c.typed.ensures, c.if-len-at.false))

pub returns : goal.returns
returns c = whole-stored c.args.card c.typed.ensures _ (sym c.card_fits.ensures ∙ c.if-not-card_fits.false) c.put_row.ensures.1

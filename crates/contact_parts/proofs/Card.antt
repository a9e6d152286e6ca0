-- What stands at a card's place: the card that is read, in its part of the row.
-- Assumes nothing.
use Prim.Native.Nat.{ℕ, ◌+◌, ◌-◌, ◌≤◌}
use mathlib.Core.List.{List, [], append-nil}
use mathlib.Core.Bool.{Bool, true, false, cond, true≢false}
use mathlib.Core.Option.{Option, none, some}
use mathlib.Core.Path.{◌≡◌, refl, sym, ap, subst}
use native.Mathlib.Omega.{arith}
use lib.ListN.{length, take, drop}
use lib.Seq.{take_at}
use borrow.Author.Tests.{leb-true}
use Rattle.layout.specs.Questions.{CARD_END}
use Rattle.layout.specs.Veil.{plain, veiled}
use Rattle.layout.specs.Form.{bytes, only_if}
use Rattle.layout.specs.Layout.{group, sized, sized_layout}
use Rattle.layout.specs.Layout as layout
use Rattle.layout.proofs.Front.{length-bytes_of, none≢some}
use Rattle.rows.specs.Values.{Card}
use Rattle.rows.specs.Checks.{caps_known, kci, name_short}
use Rattle.rows.specs.Rows.{card}
use Rattle.offsets.specs.Offset.{offset}
use Rattle.offsets.proofs.Offset.{Stands, field-stands, row-stands, offset-inside, run_is, run_inside}
use Rattle.card.specs.Card.{card_from, Offsets}
use Rattle.contact_parts.specs.Offsets.{run, card_at, card_in, CardOffsets}

-- ---- a card that is printed alone
module _ (input : List ℕ) (c : Card) (s : Stands (group card) c input 0) where
  abbrev name-len : ℕ
  name-len = length c.name

  key-at : offset card 2 c ≡ 5
  key-at = omega (arith, length-bytes_of 1 c.caps, length-bytes_of 4 c.beacon_day)

  name-at : offset card 4 c ≡ 38
  name-at = omega (arith, length-bytes_of 1 c.caps, length-bytes_of 4 c.beacon_day, length-bytes_of 1 name-len, (row-stands input card 2 c s).fits)

  static_at : offset card 5 c ≡ 38 + name-len
  static_at = omega (arith, length-bytes_of 1 c.caps, length-bytes_of 4 c.beacon_day, length-bytes_of 1 name-len, (row-stands input card 2 c s).fits)

  -- the key that KCI calls for
  key-is : (t : Bool) (at : ℕ) (o : Option (List ℕ)) → Stands (only_if (bytes plain 1184) t) o input at
      → (cond t (some (take 1184 (drop at input))) none ≡ o) × (t ≡ true → at + 1184 ≤ length input)
  key-is true at none k = absurd k.fits
  key-is true at (some bs) k =
      let its : Stands (bytes plain 1184) bs input at = record { post = k.post; joins = k.joins; fits = k.fits; granted = k.granted } in
      (ap some (run_is plain 1184 its), λ e. run_inside plain 1184 its (omega arith))
  key-is false at none k = (refl, λ e. absurd (true≢false (sym e)))
  key-is false at (some bs) k = absurd k.fits

  static-is : (cond (kci c.caps) (some (take 1184 (drop (38 + name-len) input))) none ≡ c.static_ek) × (kci c.caps ≡ true → 38 + name-len + 1184 ≤ length input)
  static-is = key-is (kci c.caps) (38 + name-len) c.static_ek (subst (Stands (only_if (bytes plain 1184) (kci c.caps)) c.static_ek input) static_at (row-stands input card 5 c s))

  pub alone-is : card_from input (record { caps = c.caps; beacon_day = c.beacon_day; name_len = name-len }) ≡ c
  alone-is =
      let key = subst (Stands (bytes veiled 32) c.beacon_key input) key-at (row-stands input card 2 c s) in
      let name = subst (Stands (bytes plain name-len) c.name input) name-at (row-stands input card 4 c s) in
      λ i. record { caps = c.caps; beacon_day = c.beacon_day; beacon_key = run_is veiled 32 key i; name = run_is plain name-len name i; static_ek = static-is.0 i }

  second-yes : (t u : Bool) (o : Option ℕ) (p q : ℕ) → cond t (cond u o (some p)) (some q) ≡ none → u ≡ true
  second-yes true true o p q e = refl
  second-yes true false o p q e = absurd (none≢some (sym e))
  second-yes false u o p q e = absurd (none≢some (sym e))

  short : name_short name-len ≡ true
  unfolding layout.refusal_of
  short = second-yes (caps_known c.caps) (name_short name-len) _ _ _ s.granted

  pub alone-inside : Offsets input (record { caps = c.caps; beacon_day = c.beacon_day; name_len = name-len })
  alone-inside = record {
    name_len = leb-true name-len 48 short;
    name = omega (arith, static_at, offset-inside input card 5 c s (omega arith));
    static_ek = static-is.1;
  }

-- ---- a card behind its length
module _ (row : List ℕ) (from : ℕ) (c : Card) (s : Stands (sized (group card) CARD_END) c row from) where
  abbrev input : List ℕ
  input = (group card).print c

  abbrev start : ℕ
  start = (card_at from c).start

  abbrev end : ℕ
  end = (card_at from c).end

  alone : Stands (group card) c input 0
  alone =
      let its = field-stands row (sized_layout (group card) CARD_END) 1 c s in
      record { post = []; joins = append-nil input; fits = its.fits.1; granted = its.granted }

  part-is : run (end - start) row start ≡ input
  part-is =
      let its = field-stands row (sized_layout (group card) CARD_END) 1 c s in
      let long : length input ≡ end - start = omega arith in
      rw (← its.joins) (take_at input its.post (end - start) long)

  pub card-is : card_in row (card_at from c) ≡ c
  card-is = rw part-is (alone-is input c alone)

  pub card-inside : from ≤ length row → CardOffsets row (card_at from c)
  card-inside past = record {
    starts = omega arith;
    ends = offset-inside row (sized_layout (group card) CARD_END) 2 c s past;
    runs = rw part-is (alone-inside input c alone);
  }

-- `card::card_from` meets its contract: each run is copied to its array, and the key is zeros where there is none; or zeros, where a run does not lie in the input.
use Prim.Native.Nat.{ℕ, ◌+◌, ◌-◌}
use mathlib.Core.List.{List, ◌++◌}
use mathlib.Core.Bool.{cond}
use mathlib.Core.Option.{none, some}
use mathlib.Core.Path.{◌≡◌, sym, ◌∙◌}
use native.Mathlib.Omega.{arith}
use lib.ListN.{length, take, drop}
use borrow.Author.Tests.{eq-eqb, ne_eqb}
use Rattle.layout.specs.Veil.{zeros}
use Rattle.rows.specs.Checks.{kci}
use Rattle.put.proofs.Put.{length_run}
use Rattle.card.specs.Card.{Offsets, card_at, or_zeros}
use Rattle.card.specs.declared.CardAt.{CardAt}
use Rattle.card.proofs.Placed.{fit-places, card-placed}
use Rattle.card.proofs.card_from.Goals as goal
use Rattle.card.proofs.card_from.Goals.{Else-not-card_fits}

module _ (input : List ℕ) (at : CardAt) (places : Offsets input at) where
  made : (key name ek : List ℕ) → key ≡ take 32 (drop 5 input) → name ≡ take at.name_len (drop 38 input) ++ zeros (48 - at.name_len)
      → ek ≡ or_zeros 1184 (cond (kci at.caps) (some (take 1184 (drop (38 + at.name_len) input))) none)
      → record { beacon_day = at.beacon_day; caps = at.caps; name_len = at.name_len; beacon_key = key; name = name; static_ek = ek } ≡ card_at input at
  made key name ek e1 e2 e3 =
      let long : length (take at.name_len (drop 38 input)) ≡ at.name_len = length_run input 38 at.name_len places.name in
      rw (card-placed input at places, e1, e2, e3, long)

-- the runs lie in the input
stand : (c : Else-not-card_fits) → Offsets c.args.input.now c.args.at
stand c = fit-places _ _ (sym c.card_fits.ensures ∙ c.if-not-card_fits.false)

pub returns-then-not-card_fits : goal.returns-then-not-card_fits
returns-then-not-card_fits c = rw (sym c.card_fits.ensures ∙ c.if-not-card_fits.true, c.zero.ensures)

pub copy_array-beacon_key-requires : goal.copy_array-beacon_key-requires
copy_array-beacon_key-requires c = omega (arith, (stand (goal.at.copy_array-beacon_key-requires c).Else-not-card_fits).name)

pub name_from-name-requires : goal.name_from-name-requires
name_from-name-requires c =
    let p = stand (goal.at.name_from-name-requires c).Else-not-card_fits in
    rw c.from-n.ensures (p.name_len, p.name)

pub copy_array-static_ek-requires : goal.copy_array-static_ek-requires
copy_array-static_ek-requires c =
    let p = stand (goal.at.copy_array-static_ek-requires c).Else-not-card_fits in
    rw c.from-n.ensures (omega arith, p.static_ek (eq-eqb _ _ c.if-at-eq1.true))

pub returns-then-at-eq1 : goal.returns-then-at-eq1
returns-then-at-eq1 c =
    let p = stand (goal.at.returns-then-at-eq1 c).Else-not-card_fits in
    made c.args.input.now c.args.at p _ _ _ c.copy_array-beacon_key.ensures (rw c.from-n.ensures at c.name_from-name.ensures)
    (rw (eq-eqb _ _ c.if-at-eq1.true) (rw c.from-n.ensures at c.copy_array-static_ek.ensures))

pub returns-else-at-eq1 : goal.returns-else-at-eq1
returns-else-at-eq1 c =
    let p = stand (goal.at.returns-else-at-eq1 c).Else-not-card_fits in
    made c.args.input.now c.args.at p _ _ _ c.copy_array-beacon_key.ensures (rw c.from-n.ensures at c.name_from-name.ensures) (rw (ne_eqb _ _ c.if-at-eq1.false))

-- How the questions end: what the questions across the rows leave is the answer.
-- Assumes nothing.
use Prim.Native.Nat.{ℕ, ◌<◌}
use native.Mathlib.Omega.{arith}
use mathlib.Core.List.{List, [], ◌∷◌}
use mathlib.Core.Path.{◌≡◌, refl, sym, ap, ◌∙◌, subst}
use lib.Dec.{T}
use lib.ListN.{length}
use Rattle.store.specs.declared.Entry.{Entry}
use Rattle.store.specs.Omitted.{Omitted, is_omitted, omitted_seen, read_omitted, across_omitted, asked_omitted}
use Rattle.store.proofs.Rounds.{rounds-refused}
use Rattle.std.specs.Prelude.{None}
use Rattle.store.specs.Rounds.{Asked, turns, rounds}
use Rattle.store.specs.Rounds as so
use Rattle.store.specs.Store.{store_of, order, bounds, seen, next_in, slots_below, asked, found, outcome, restore, going}
use Rattle.restore_across.specs.declared.Progress.{Progress}
use Rattle.restore_across.specs.Across as across
use Rattle.restore_across.specs.At.{sight, At}
use Rattle.restore.specs.Restored.{Granted, Refused, answered, granting, begun_with, questioned}

-- ---- the end
-- a store with no entries is refused
some-entry : (run : List ℕ) (es : List Entry) (omitted : Omitted) → so.Going ≡ asked_omitted run es (is_omitted omitted) (omitted_seen omitted) → 0 < length es
some-entry run [] omitted e = absurd (subst T (ap going e) tt)
some-entry run (x ∷ es) omitted e = omega arith

module _ (run : List ℕ) (es : List Entry) (omitted : Omitted) where
  pub granted-at : (w : Progress) → At run es omitted (length es) (across.Going w) → Granted w.next_contact w.slots ≡ questioned run es omitted
  granted-at w at =
      let next = at.so-kept.next (some-entry run es omitted at.asked) in
      λ k. granting (at.asked k) (next k) (at.so-kept.slots k)

  refuses : {q p : ℕ} → so.Refused q p ≡ asked_omitted run es (is_omitted omitted) (omitted_seen omitted) → Refused q p ≡ questioned run es omitted
  refuses is = ap (λ (a : Asked). granting a (next_in (sight run es omitted) es) (slots_below es (length es))) is

  pub refused-at : {q p : ℕ} → At run es omitted (length es) (across.Refused q p) → Refused q p ≡ questioned run es omitted
  refused-at at = refuses at.asked

  -- ---- by the rounds before: the first of them that has a no ends all
  abbrev turns-of : so.Round → Asked → Asked
  turns-of round = turns round 0 (length es)

  abbrev ordering : so.Round
  ordering = order (store_of run es)

  abbrev bounding : so.Round
  bounding = bounds (store_of run es)

  abbrev reading : so.Round
  reading = read_omitted run es (is_omitted omitted)

  abbrev crossing : so.Round
  crossing = across_omitted run es (is_omitted omitted) (omitted_seen omitted)

  stays : (rs : List so.Round) {a : Asked} {q p : ℕ} → so.Refused q p ≡ a → so.Refused q p ≡ rounds rs (length es) a
  stays rs {q = q} {p = p} is = sym (rounds-refused rs (length es) q p) ∙ ap (rounds rs (length es)) is

  module _ (begun : so.Going ≡ begun_with (length es)) where
    pub no-order : {q p : ℕ} → so.Refused q p ≡ turns-of ordering so.Going → Refused q p ≡ questioned run es omitted
    no-order is = refuses (stays (bounding ∷ reading ∷ crossing ∷ []) (is ∙ ap (turns-of ordering) begun))

    module _ (ordered : so.Going ≡ turns-of ordering so.Going) where
      so_ordered : so.Going ≡ turns-of ordering (begun_with (length es))
      so_ordered = ordered ∙ ap (turns-of ordering) begun

      pub no-bounds : {q p : ℕ} → so.Refused q p ≡ turns-of bounding so.Going → Refused q p ≡ questioned run es omitted
      no-bounds is = refuses (stays (reading ∷ crossing ∷ []) (is ∙ ap (turns-of bounding) so_ordered))

      pub no-rows : {q p : ℕ} → so.Going ≡ turns-of bounding so.Going → so.Refused q p ≡ turns-of reading so.Going → Refused q p ≡ questioned run es omitted
      no-rows bounded is = refuses (stays (crossing ∷ []) (is ∙ ap (turns-of reading) (bounded ∙ ap (turns-of bounding) so_ordered)))

-- ---- restore: with nothing left out
pub restored : (run : List ℕ) (es : List Entry) → questioned run es None ≡ answered (restore (store_of run es))
restored run es = go (asked (store_of run es))
  where
    go : (a : Asked) → granting a (next_in (seen (store_of run es)) es) (slots_below es (length es)) ≡ answered (outcome a (found (store_of run es)))
    go so.Going = refl
    go (so.Refused number place) = refl

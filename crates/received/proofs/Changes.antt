-- A change in its two cases, by whether f..t reaches 1..contiguous; and carrying it out gives what `inserted` says.
-- Assumes nothing.
use Prim.Native.Nat.{ℕ, suc, ◌+◌, ◌-◌, ◌*◌, ◌≤◌, ◌<◌, min, max}
use mathlib.Core.List.{List, [], ◌∷◌}
use mathlib.Core.Bool.{Bool, true, false, cond, not}
use mathlib.Core.Path.{◌≡◌, refl, sym, subst, subst⁻¹, ap, ◌∙◌}
use native.Mathlib.Omega.{arith}
use native.Mathlib.Nat.{zero-add}
use native.Mathlib.Numerals.{add-one}
use lib.Dec.{eqb}
use lib.ListN.{length, take, drop, length-append, length-drop}
use lib.Seq.{drop-drop, length-take-le}
use borrow.Author.Tests.{lt-ltb, le-ltb, le-leb, lt-leb, leb-true, eq-eqb, ne_eqb}
use Rattle.layout.specs.Questions.{RANGES_FIT}
use Rattle.rows.specs.Values.{Range}
use Rattle.numbers.proofs.Insert.{merged-joined, insert-joined, insert-apart}
use Rattle.numbers.specs.Ranges.{Received, received, range, below, Merged, merged, merged_at, insert, inserted, added}
use Rattle.received.specs.Change.{change_of, applied}
use Rattle.received.specs.Lent.{pairs, received_in, stored, fits, plan_of, list_after, Fitting}
use Rattle.numbers.specs.Lists.{limit_of}
use Rattle.received.specs.declared.Change.{Change}
use Rattle.rows.proofs.Tests.{either, if-lt}
use Rattle.received.proofs.Pairs.{length_pairs}
use Rattle.layout.specs.Layout.{accepted, refused_by}

-- ---- the ranges behind the merged one are the last of those that were there
pub behind-short : (f t : ℕ) (rs : List Range) → length (merged f t rs).behind ≤ length rs
behind-short f t [] = omega arith
behind-short f t (r ∷ rs) =
    if-lt (t + 1) r.from
    (λ b. length (cond b (record { range = range f t; behind = r ∷ rs }) (merged (min f r.from) (max t r.to) rs)).behind ≤ suc (length rs))
    (λ h. omega arith)
    (λ h. omega (arith, behind-short (min f r.from) (max t r.to) rs))

behind-is : (f t : ℕ) (rs : List Range) → (merged f t rs).behind ≡ drop (length rs - length (merged f t rs).behind) rs
behind-is f t [] = refl
behind-is f t (r ∷ rs) =
    if-lt (t + 1) r.from
    (λ b. let m : Merged = cond b (record { range = range f t; behind = r ∷ rs }) (merged (min f r.from) (max t r.to) rs) in
    m.behind ≡ drop (suc (length rs) - length m.behind) (r ∷ rs))
    (λ h. let n : suc (length rs) - suc (length rs) ≡ 0 = omega arith in rw n)
    (λ h. let m : Merged = merged (min f r.from) (max t r.to) rs in
    let n : suc (length rs) - length m.behind ≡ suc (length rs - length m.behind) = omega (arith, behind-short (min f r.from) (max t r.to) rs) in
    behind-is (min f r.from) (max t r.to) rs ∙ rw n)

pub below-few : (f : ℕ) (rs : List Range) → below f rs ≤ length rs
below-few f [] = omega arith
below-few f (r ∷ rs) =
    if-lt (r.to + 1) f (λ b. cond b (suc (below f rs)) 0 ≤ suc (length rs)) (λ h. omega (arith, below-few f rs)) (λ h. omega arith)

length-insert : (f t : ℕ) (rs : List Range) → length (insert f t rs) ≡ below f rs + 1 + length (merged_at f t rs).behind
unfolding insert
length-insert f t rs =
    length-append (take (below f rs) rs) ((merged_at f t rs).range ∷ (merged_at f t rs).behind)
    ∙ rw (length-take-le (below f rs) rs (below-few f rs)) (omega arith)

-- ---- the two cases
abbrev pub change : (before after count contiguous from to : ℕ) → Bool → (added : ℕ) → Change
change before after count contiguous from to moved added = record {
  before = before;
  after = after;
  count = count;
  contiguous = contiguous;
  from = from;
  to = to;
  moved = moved;
  added = added;
}

abbrev joined : Received → ℕ → ℕ → Change
joined v f t =
    let m : Merged = merged 0 (max t v.contiguous) v.above in
    change 0 (length m.behind) (length m.behind) m.range.to m.range.from m.range.to (not (eqb m.range.to v.contiguous)) (added v f t)

abbrev apart : Received → ℕ → ℕ → Change
apart v f t =
    let i : ℕ = below f v.above in
    let m : Merged = merged_at f t v.above in
    change (i + 1) (length m.behind) (i + 1 + length m.behind) v.contiguous m.range.from m.range.to false (added v f t)

module _ (v : Received) (f t : ℕ) where
  change-joined : f ≤ v.contiguous + 1 → joined v f t ≡ change_of v f t
  unfolding change_of inserted
  change-joined h = rw (insert-joined v f t h, merged-joined v f t h, le-ltb (v.contiguous + 1) f h)

  change-apart : v.contiguous + 1 < f → apart v f t ≡ change_of v f t
  unfolding change_of inserted
  change-apart h =
      rw (insert-apart v f t h, lt-ltb (v.contiguous + 1) f h, length-insert f t v.above, eq-eqb v.contiguous v.contiguous refl, add-one (below f v.above))

-- ---- how many ranges there are then, and that carrying the change out gives them
pub record Sound (v : Received) (f t : ℕ) (c : Change) : Type 0 where
  pub count : c.count ≡ c.before + c.after
  pub after : c.after ≤ length v.above
  pub others : c.before + c.after ≤ length v.above + 1
  pub gives : applied c v.above ≡ (inserted v f t).above

module _ (v : Received) (f t : ℕ) where
  joined-sound : f ≤ v.contiguous + 1 → Sound v f t (joined v f t)
  unfolding inserted
  joined-sound h =
      let short = behind-short 0 (max t v.contiguous) v.above in
      record {
        count = sym (zero-add _);
        after = short;
        others = omega arith;
        gives = sym (behind-is 0 (max t v.contiguous) v.above) ∙ rw (insert-joined v f t h);
      }

  apart-sound : v.contiguous + 1 < f → Sound v f t (apart v f t)
  unfolding inserted insert
  apart-sound h =
      let i : ℕ = below f v.above in
      let m : Merged = merged_at f t v.above in
      let few = below-few f v.above in
      let short : length m.behind ≤ length v.above - i = rw length-drop at (behind-short f t (drop i v.above)) in
      let front : i + 1 - 1 ≡ i = omega arith in
      let back : i + (length (drop i v.above) - length m.behind) ≡ length v.above - length m.behind = rw length-drop (omega arith) in
      let rest : m.behind ≡ drop (length v.above - length m.behind) v.above = behind-is f t (drop i v.above) ∙ rw (drop-drop, back) in
      record {
        count = refl;
        after = omega arith;
        others = omega arith;
        gives = rw (insert-apart v f t h, ne_eqb (i + 1) 0 (λ e. omega arith), front, ← rest);
      }

  pub sound : Sound v f t (change_of v f t)
  sound =
      if-lt (v.contiguous + 1) f (λ _. Sound v f t (change_of v f t))
      (λ h. subst (Sound v f t) (change-apart v f t h) (apart-sound h))
      (λ h. subst (Sound v f t) (change-joined v f t h) (joined-sound h))

-- ---- what `change_of` answers, from what its loops found
module _ (c : ℕ) (rs : List Range) (f t a b after new : ℕ) (counts : new ≡ added (received c rs) f t) where
  pub joined-found : (h : ℕ) → f ≤ c + 1 → h ≡ max t c → (merged 0 h rs).range ≡ range a b → length (merged 0 h rs).behind ≡ after
      → change 0 after after b a b (not (eqb b c)) new ≡ change_of (received c rs) f t
  joined-found h le e is n =
      let is' : (merged 0 (max t c) rs).range ≡ range a b = rw e at is in
      let n' : length (merged 0 (max t c) rs).behind ≡ after = rw e at n in
      rw (← change-joined (received c rs) f t le, is', n', counts)

  pub apart-found : (i : ℕ) → c + 1 < f → i ≡ below f rs → (merged f t (drop i rs)).range ≡ range a b → length (merged f t (drop i rs)).behind ≡ after
      → change (i + 1) after (i + 1 + after) c a b false new ≡ change_of (received c rs) f t
  apart-found i lt e is n =
      let is' : (merged f t (drop (below f rs) rs)).range ≡ range a b = rw e at is in
      let n' : length (merged f t (drop (below f rs) rs)).behind ≡ after = rw e at n in
      rw (← change-apart (received c rs) f t lt, is', n', e, counts)

-- ---- what `plan` answers: the change where there is room for it, else a refusal
module _ (v : Received) (n f t : ℕ) where
  pub plan-change : (c : Change) → c ≡ change_of v f t → c.count ≤ limit_of n → accepted c ≡ plan_of v n f t
  unfolding change_of
  plan-change c e h = rw (le-leb (length (inserted v f t).above) (limit_of n) (rw e at h), e)

  pub plan-refusal : (c : Change) → c ≡ change_of v f t → limit_of n < c.count → refused_by RANGES_FIT ≡ plan_of v n f t
  unfolding change_of
  plan-refusal c e h = rw (lt-leb (length (inserted v f t).above) (limit_of n) (rw e at h))

  granted : (c : Change) → accepted c ≡ plan_of v n f t → (fits v n f t ≡ true) × (c ≡ change_of v f t)
  granted c =
      either (fits v n f t) (λ b. accepted c ≡ cond b (accepted (change_of v f t)) (refused_by RANGES_FIT) → (b ≡ true) × (c ≡ change_of v f t))
      (λ e p. (refl, cc))
      (λ e p. absurd (let z : ◌≡◌ {A = ℕ} 0 1 = cc in omega arith))

  refused : (q : ℕ) → refused_by q ≡ plan_of v n f t → fits v n f t ≡ false
  refused q =
      either (fits v n f t) (λ b. refused_by q ≡ cond b (accepted (change_of v f t)) (refused_by RANGES_FIT) → b ≡ false)
      (λ e p. absurd (let z : ◌≡◌ {A = ℕ} 0 1 = cc in omega arith))
      (λ e p. refl)

-- ---- what `insert` does with the answer
module _ (contiguous count : ℕ) (l : List ℕ) (f t : ℕ) where
  pub kept : (q : ℕ) → refused_by q ≡ plan_of (received_in contiguous count l) (length l) f t → l ≡ list_after (received_in contiguous count l) l f t
  kept q p = rw (refused (received_in contiguous count l) (length l) f t q p)

  -- the list holds k ranges, and the answer is a change
  module _ (k : ℕ) (lent : 2 * k ≤ length l) (same : pairs k l ≡ pairs count l) (c : Change)
      (p : accepted c ≡ plan_of (received_in contiguous count l) (length l) f t) where
    all_held : length (pairs count l) ≡ k
    all_held = rw (← same) (length_pairs k l lent)

    so : (fits (received_in contiguous count l) (length l) f t ≡ true) × (c ≡ change_of (received_in contiguous count l) f t)
    so = granted (received_in contiguous count l) (length l) f t c p

    is-sound : Sound (received_in contiguous count l) f t c
    is-sound = subst⁻¹ (Sound (received_in contiguous count l) f t) so.1 (sound (received_in contiguous count l) f t)

    pub fitting : Fitting l k c
    unfolding change_of
    fitting =
        let s = is-sound in
        let n = all_held in
        let few : c.count ≤ limit_of (length l) = rw so.1 (leb-true (length (inserted (received_in contiguous count l) f t).above) (limit_of (length l)) so.0) in
        record { lent = lent; after = omega arith; others = omega arith; room = omega arith }

    pub carried : (m : List ℕ) → m ≡ stored (applied c (pairs k l)) k l → m ≡ list_after (received_in contiguous count l) l f t
    carried m e =
        e ∙ ap (λ (rs : List Range). stored (applied c rs) k l) same ∙ ap (λ (rs : List Range). stored rs k l) is-sound.gives
        ∙ rw (so.0, all_held)

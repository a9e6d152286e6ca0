-- How many numbers an insert adds: what the ranges say is what counting number by number finds, and the set then has so many more. On every list of ranges
-- these are no more than there can be.
-- Assumes nothing.
use Prim.Native.Nat.{ℕ, zero, suc, ◌+◌, ◌-◌, ◌≤◌, ◌<◌, max, min}
use mathlib.Core.List.{List, [], ◌∷◌}
use mathlib.Core.Bool.{Bool, true, false, cond, not}
use mathlib.Core.Path.{◌≡◌, refl, sym, ap, ◌∙◌}
use native.Mathlib.Omega.{arith}
use borrow.Author.Tests.{le-leb, lt-leb}
use Rattle.rows.specs.Values.{Range}
use Rattle.rows.specs.Checks.{any, canonical}
use Rattle.numbers.specs.Ranges as ranges
use Rattle.numbers.specs.Ranges.{Received, received, range, inside, all_ranges, uncovered, added}
use Rattle.numbers.specs.Sets.{add, how_many, Records}
use Rattle.rows.proofs.Tests.{either, order}
use Rattle.numbers.proofs.Canon.{Canon, to-canon, from-canon, to_in, above-start}

-- ---- on every list
-- no more than at..t
pub uncovered-most : (at t : ℕ) (rs : List Range) → uncovered at t rs ≤ t + 1 - at
unfolding ranges.uncovered
uncovered-most at t [] = omega arith
uncovered-most at t (r ∷ rs) = omega (arith, uncovered-most (max (max at (min (t + 1) r.from)) (r.to + 1)) t rs)

-- ... and so none past t
pub none-past : (at t : ℕ) (rs : List Range) → t < at → uncovered at t rs ≡ 0
none-past at t rs h = omega (arith, uncovered-most at t rs)

-- ---- whatever the ranges above are
-- none of 0..contiguous is new
pub behind-contiguous : (c f t : ℕ) (rs : List Range) → uncovered (max f (c + 1)) t rs ≡ added (received c rs) f t
unfolding ranges.uncovered
behind-contiguous c f t rs =
    let low : max f (min (t + 1) 0) ≡ f = omega arith in
    rw low (omega arith)

-- and so 0 is not, and there are at most t
pub zero-never : (v : Received) (t : ℕ) → added v 0 t ≡ added v 1 t
zero-never v t =
    let c : ℕ = v.contiguous in
    let same : max 0 (c + 1) ≡ max 1 (c + 1) = omega arith in
    sym (behind-contiguous c 0 t v.above) ∙ ap (λ (at : ℕ). uncovered at t v.above) same ∙ behind-contiguous c 1 t v.above

pub added-most : (v : Received) (f t : ℕ) → added v f t ≤ t
added-most v f t =
    omega (arith, behind-contiguous v.contiguous f t v.above, uncovered-most (max f (v.contiguous + 1)) t v.above)

-- a range that ends before it begins, with 0 asked for; and ranges that fall, of which the second comes too late
no_record : (added (received 0 (range 5 1 ∷ [])) 0 9 ≡ 9) × (added (received 0 (range 5 9 ∷ range 1 2 ∷ [])) 1 9 ≡ 4)
unfolding ranges.uncovered
no_record = (refl, refl)

-- ---- on canonical ranges
-- a number before all of them is in none
outside : (g n : ℕ) (rs : List Range) → Canon g rs → n < g → any (inside n n) rs ≡ false
outside g n rs c h = either (any (inside n n) rs) (λ b. b ≡ false) (λ e. absurd (omega (arith, above-start g rs c n (to_in n rs e)))) (λ e. refl)

-- one more from n on than from behind it, if n is not among them
one_more : (g n t : ℕ) (rs : List Range) → Canon g rs → n ≤ t
    → uncovered n t rs ≡ cond (any (inside n n) rs) (uncovered (suc n) t rs) (suc (uncovered (suc n) t rs))
unfolding ranges.uncovered
one_more g n t [] c h = omega arith
one_more g n t (r ∷ rs) c h =
    -- from a number behind the range's start on, none lies before the range
    let here : (at : ℕ) → r.from ≤ at → max at (min (t + 1) r.from) ≡ at = λ at from. omega arith in
    order r.from n
    (λ from. order n r.to
    (λ to. let past : max n (r.to + 1) ≡ r.to + 1 = omega arith in
    let past_next : max (suc n) (r.to + 1) ≡ r.to + 1 = omega arith in
    rw (le-leb r.from n from, le-leb n r.to to, here n from, here (suc n) (omega arith), past, past_next) (omega arith))
    (λ behind. let past : max n (r.to + 1) ≡ n = omega arith in
    let past_next : max (suc n) (r.to + 1) ≡ suc n = omega arith in
    rw (le-leb r.from n from, lt-leb n r.to behind, here n from, here (suc n) (omega arith), past, past_next)
    (either (any (inside n n) rs)
    (λ b. uncovered n t rs ≡ cond b (uncovered (suc n) t rs) (suc (uncovered (suc n) t rs))
    → n - n + uncovered n t rs ≡ cond b (suc n - suc n + uncovered (suc n) t rs) (suc (suc n - suc n + uncovered (suc n) t rs)))
    (λ e rest. omega arith) (λ e rest. omega arith) (one_more (r.to + 2) n t rs c.2 h))))
    (λ before. let same : max n (min (t + 1) r.from) ≡ max (suc n) (min (t + 1) r.from) = omega arith in
    rw (outside r.from n (r ∷ rs) (omega arith, c.1, c.2) before, same) (omega arith))

-- as many as are counted up to t
counts : (k g n t : ℕ) (rs : List Range) → Canon g rs → n + k ≡ t + 1 → uncovered n t rs ≡ how_many (λ m. not (any (inside m m) rs)) n k
counts zero g n t rs c e = none-past n t rs (omega arith)
counts (suc k) g n t rs c e =
    one_more g n t rs c (omega arith)
    ∙ either (any (inside n n) rs)
    (λ b. let later : ℕ = how_many (λ m. not (any (inside m m) rs)) (suc n) k in
    cond b (uncovered (suc n) t rs) (suc (uncovered (suc n) t rs)) ≡ cond (not b) (suc later) later)
    (λ i. counts k g (suc n) t rs c (omega arith)) (λ i. ap suc (counts k g (suc n) t rs c (omega arith)))

pub uncovered-counts : (g n t : ℕ) (rs : List Range) → canonical g rs ≡ true → uncovered n t rs ≡ how_many (λ m. not (any (inside m m) rs)) n (t + 1 - n)
uncovered-counts g n t rs c =
    order n t (λ h. counts (t + 1 - n) g n t rs (to-canon g rs c) (omega arith))
    (λ h. let none : t + 1 - n ≡ 0 = omega arith in rw none (none-past n t rs h))

-- ---- of any set: with f..t added it has as many numbers more as of f..t are not in it
-- tests that say the same from n on find as many
pub same_count : (S T : ℕ → Bool) (n k : ℕ) → ((m : ℕ) → n ≤ m → S m ≡ T m) → how_many S n k ≡ how_many T n k
same_count S T n zero same = refl
same_count S T n (suc k) same =
    let rest : how_many S (suc n) k ≡ how_many T (suc n) k = same_count S T (suc n) k (λ m h. same m (omega arith)) in
    λ i. cond (same n (omega arith) i) (suc (rest i)) (rest i)

-- one number more in front of those that are counted: it is not to be added, or it is
kept : (in-S : Bool) (a b new : ℕ) → a + new ≡ b → cond in-S (suc a) a + new ≡ cond in-S (suc b) b
kept true a b new e = omega arith
kept false a b new e = e

added-too : (in-S : Bool) (a b new : ℕ) → a + new ≡ b → cond in-S (suc a) a + cond (not in-S) (suc new) new ≡ suc b
added-too true a b new e = omega arith
added-too false a b new e = omega arith

module _ (S : ℕ → Bool) (f t : ℕ) where
  -- how many from m to t are not in S
  abbrev new : ℕ → ℕ
  new m = how_many (λ n. not (S n)) m (t + 1 - m)

  -- of the k numbers from n on, if these reach past t
  more-from : (k n : ℕ) → t < n + k → how_many S n k + new (max n f) ≡ how_many (add f t S) n k
  more-from zero n h = let none : t + 1 - max n f ≡ 0 = omega arith in rw none
  more-from (suc k) n h =
      let rest : (m : ℕ) → max (suc n) f ≡ m → how_many S (suc n) k + new m ≡ how_many (add f t S) (suc n) k = λ m e. rw e at (more-from k (suc n) (omega arith)) in
      let here : (m : ℕ) → max n f ≡ m → new (max n f) ≡ new m = λ m e. ap new e in
      order f n
      (λ from. order n t
      (λ to. let one : t + 1 - n ≡ suc (t + 1 - suc n) = omega arith in
      rw (le-leb f n from, le-leb n t to, here n (omega arith), one) (added-too (S n) _ _ _ (rest (suc n) (omega arith))))
      (λ behind. let none : t + 1 - max n f ≡ 0 = omega arith in
      let none_then : t + 1 - max (suc n) f ≡ 0 = omega arith in
      rw (le-leb f n from, lt-leb n t behind, none) (kept (S n) _ _ _ (rw none_then at (rest (max (suc n) f) refl)))))
      (λ before. rw (lt-leb f n before, here f (omega arith)) (kept (S n) _ _ _ (rest f (omega arith))))

  pub add-more : (N : ℕ) → 1 ≤ f → t ≤ N → how_many S 1 N + new f ≡ how_many (add f t S) 1 N
  add-more N one t_n = let from : max 1 f ≡ f = omega arith in rw from at (more-from N 1 (omega arith))

-- ---- a record v of S
module _ {N : ℕ} {S : ℕ → Bool} {v : Received} (p : Records N S v) where
  canon : Canon 0 (all_ranges v)
  canon = (omega arith, omega arith, to-canon (v.contiguous + 2) v.above p.is-canonical)

  -- a message number is in its ranges if it is in S
  among : (n : ℕ) → 1 ≤ n → any (inside n n) (all_ranges v) ≡ S n
  among n one = sym (rw (le-leb 1 n one, le-leb 0 n (omega arith))) ∙ p.same_numbers n

  -- an insert adds as many of f..t as are not in S
  pub added_new : (f t : ℕ) → 1 ≤ f → added v f t ≡ how_many (λ n. not (S n)) f (t + 1 - f)
  added_new f t one =
      uncovered-counts 0 f t (all_ranges v) (from-canon 0 (all_ranges v) canon)
      ∙ same_count (λ n. not (any (inside n n) (all_ranges v))) (λ n. not (S n)) f (t + 1 - f) (λ n h. ap not (among n (omega arith)))

  pub added_more : (f t : ℕ) → 1 ≤ f → t ≤ N → how_many S 1 N + added v f t ≡ how_many (add f t S) 1 N
  added_more f t one t_n = ap (λ (new : ℕ). how_many S 1 N + new) (added_new f t one) ∙ add-more S f t N one t_n

-- How many numbers ranges hold from a number on: the sum over the ranges is what counting number by number finds.
-- Assumes nothing.
use Prim.Native.Nat.{ℕ, zero, suc, ◌+◌, ◌-◌, ◌<◌, max}
use mathlib.Core.List.{List, [], ◌∷◌}
use mathlib.Core.Bool.{true, false, cond, ◌||◌, false≢true}
use mathlib.Core.Path.{◌≡◌, refl, sym, ◌∙◌}
use native.Mathlib.Omega.{arith}
use lib.Dec.{leb}
use borrow.Author.Tests.{le-leb, leb-true}
use Rattle.rows.specs.Values.{Range}
use Rattle.rows.specs.Checks.{any, canonical, none_above}
use Rattle.numbers.specs.Ranges.{inside}
use Rattle.numbers.specs.Sets.{how_many, size_from}
use Rattle.rows.proofs.Tests.{either, order, and_both, both-and}
use Rattle.numbers.proofs.Canon.{Canon, to-canon}

-- above their last number, none
none-behind : (N n : ℕ) (rs : List Range) → none_above N rs ≡ true → N < n → size_from n rs ≡ 0
none-behind N n [] e h = refl
none-behind N n (r ∷ rs) e h =
    let p = and_both (leb r.to N) (none_above N rs) e in
    omega (arith, leb-true r.to N p.0, none-behind N n rs p.1 h)

-- a number before all of them makes no difference
none_before : (g n : ℕ) (rs : List Range) → Canon g rs → n < g → size_from n rs ≡ size_from (suc n) rs
none_before g n [] c h = refl
none_before g n (r ∷ rs) c h = omega (arith, c.0, c.1, none_before (r.to + 2) n rs c.2 (omega (arith, c.0, c.1)))

-- nor one before or behind a range, for that range
outside : (r : Range) (n : ℕ) → inside n n r ≡ false → r.to + 1 - max r.from n ≡ r.to + 1 - max r.from (suc n)
outside r n e =
    order r.from n
    (λ h. order n r.to (λ k. absurd (false≢true (sym e ∙ both-and (leb r.from n) (leb n r.to) (le-leb _ _ h) (le-leb _ _ k)))) (λ k. omega arith))
    (λ h. omega arith)

-- one more from n on than from behind it, if n is among them
one_more : (g n : ℕ) (rs : List Range) → Canon g rs → size_from n rs ≡ cond (any (inside n n) rs) (suc (size_from (suc n) rs)) (size_from (suc n) rs)
one_more g n [] c = refl
one_more g n (r ∷ rs) c =
    either (inside n n r) (λ b. size_from n (r ∷ rs) ≡ cond (b || any (inside n n) rs) (suc (size_from (suc n) (r ∷ rs))) (size_from (suc n) (r ∷ rs)))
    (λ e. let p = and_both (leb r.from n) (leb n r.to) e in
    let k = leb-true n r.to p.1 in
    omega (arith, leb-true r.from n p.0, k, none_before (r.to + 2) n rs c.2 (omega arith)))
    (λ e. either (any (inside n n) rs)
    (λ b. size_from n rs ≡ cond b (suc (size_from (suc n) rs)) (size_from (suc n) rs)
    → size_from n (r ∷ rs) ≡ cond b (suc (size_from (suc n) (r ∷ rs))) (size_from (suc n) (r ∷ rs)))
    (λ t rest. omega (arith, outside r n e)) (λ t rest. omega (arith, outside r n e)) (one_more (r.to + 2) n rs c.2))

-- canonical ranges hold as many as are counted from `lowest` up to their last number or further
pub size_counts : (N lowest k : ℕ) (rs : List Range) → canonical 1 rs ≡ true → none_above N rs ≡ true → N < lowest + k
    → size_from lowest rs ≡ how_many (λ n. any (inside n n) rs) lowest k
size_counts N lowest zero rs c e h = none-behind N lowest rs e (omega arith)
size_counts N lowest (suc k) rs c e h = one_more 1 lowest rs (to-canon 1 rs c) ∙ rw (size_counts N (suc lowest) k rs c e (omega arith))

-- Canonical ranges and the numbers among them: insert adds f..t to them, and a canonical list is the only one of its numbers.
-- Assumes nothing.
use Prim.Native.Nat.{ℕ, ◌+◌, ◌≤◌, ◌<◌, min, max}
use mathlib.Core.List.{List, [], ◌∷◌}
use mathlib.Core.Bool.{true, cond, ◌&&◌, false≢true}
use mathlib.Core.Logic.{◌⊎◌, inl, inr, ⊎_elim}
use mathlib.Core.Path.{◌≡◌, refl, subst, sym, ap₂}
use native.Mathlib.Omega.{arith}
use lib.Dec.{leb}
use borrow.Author.Tests.{lt-ltb, le-ltb, le-leb, leb-true}
use Rattle.rows.specs.Values.{Range}
use Rattle.rows.specs.Checks.{any, canonical}
use Rattle.numbers.specs.Ranges.{range, inside, Merged, merged, insert}
use Rattle.rows.proofs.Tests.{if-lt, order, or_cases, or_left, or_right, and_both, both-and}

-- ---- the tests as facts
-- canonical from g
abbrev pub Canon : ℕ → List Range → Type 0
Canon g [] = Unit {0}
Canon g (r ∷ rs) = (g ≤ r.from) × (r.from ≤ r.to) × Canon (r.to + 2) rs

pub to-canon : (g : ℕ) (rs : List Range) → canonical g rs ≡ true → Canon g rs
to-canon g [] e = tt
to-canon g (r ∷ rs) e =
    let p = and_both (leb r.from r.to && leb g r.from) (canonical (r.to + 2) rs) e in
    let q = and_both (leb r.from r.to) (leb g r.from) p.0 in
    (leb-true g r.from q.1, leb-true r.from r.to q.0, to-canon (r.to + 2) rs p.1)

pub from-canon : (g : ℕ) (rs : List Range) → Canon g rs → canonical g rs ≡ true
from-canon g [] c = refl
from-canon g (r ∷ rs) c = rw (le-leb r.from r.to c.1, le-leb g r.from c.0) (from-canon (r.to + 2) rs c.2)

-- n is among the ranges
abbrev pub In : ℕ → List Range → Type 0
In n [] = ⊥
In n (r ∷ rs) = ((r.from ≤ n) × (n ≤ r.to)) ⊎ In n rs

pub to_in : (n : ℕ) (rs : List Range) → any (inside n n) rs ≡ true → In n rs
to_in n [] e = false≢true e
to_in n (r ∷ rs) e =
    ⊎_elim
    (λ k. let q = and_both (leb r.from n) (leb n r.to) k in inl (leb-true r.from n q.0, leb-true n r.to q.1))
    (λ k. inr (to_in n rs k))
    (or_cases (inside n n r) (any (inside n n) rs) e)

pub from_in : (n : ℕ) (rs : List Range) → In n rs → any (inside n n) rs ≡ true
from_in n [] i = absurd i
from_in n (r ∷ rs) (inl k) = rw (le-leb r.from n k.0, le-leb n r.to k.1)
from_in n (r ∷ rs) (inr i) = or_right (inside n n r) (any (inside n n) rs) (from_in n rs i)

-- ---- where canonical ranges start
pub weaken : {g h : ℕ} (rs : List Range) → h ≤ g → Canon g rs → Canon h rs
weaken [] le c = tt
weaken {g} {h} (r ∷ rs) le c = (omega arith, c.1, c.2)

pub above-start : (g : ℕ) (rs : List Range) → Canon g rs → (n : ℕ) → In n rs → g ≤ n
above-start g [] c n i = absurd i
above-start g (r ∷ rs) c n (inl h) = omega arith
above-start g (r ∷ rs) c n (inr i) = let h = above-start (r.to + 2) rs c.2 n i in omega arith

-- the number behind the first range is not among them
pub gap : (r : Range) (rs : List Range) → Canon (r.to + 2) rs → In (r.to + 1) (r ∷ rs) → ⊥
gap r rs c (inl h) = omega arith
gap r rs c (inr i) = let h = above-start (r.to + 2) rs c (r.to + 1) i in omega arith

-- ---- ranges that hold all of f..t, in one
pub holds-each : (f t : ℕ) (rs : List Range) → any (inside f t) rs ≡ true → (n : ℕ) → f ≤ n → n ≤ t → In n rs
holds-each f t [] e n a b = false≢true e
holds-each f t (r ∷ rs) e n a b =
    ⊎_elim
    (λ k. let q = and_both (leb r.from f) (leb t r.to) k in
    let x = leb-true r.from f q.0 in
    let y = leb-true t r.to q.1 in
    inl (omega arith))
    (λ k. inr (holds-each f t rs k n a b))
    (or_cases (inside f t r) (any (inside f t) rs) e)

-- canonical ranges do not touch, so that where all of f..t is among them it lies in one
pub each_holds : (f t g : ℕ) (rs : List Range) → Canon g rs → f ≤ t → ((n : ℕ) → f ≤ n → n ≤ t → In n rs) → any (inside f t) rs ≡ true
each_holds f t g [] c ft h = absurd (h f (omega arith) ft)
each_holds f t g (r ∷ rs) c ft h =
    order f r.to
    (λ k. or_left (inside f t r) (any (inside f t) rs)
    (both-and (leb r.from f) (leb t r.to)
    (le-leb r.from f (⊎_elim (λ m. m.0) (λ i. let q = above-start (r.to + 2) rs c.2 f i in omega arith) (h f (omega arith) ft)))
    (le-leb t r.to (order t r.to (λ q. q) (λ q. absurd (gap r rs c.2 (h (r.to + 1) (omega arith) (omega arith))))))))
    (λ k. or_right (inside f t r) (any (inside f t) rs)
    (each_holds f t (r.to + 2) rs c.2 ft (λ n a b. ⊎_elim (λ m. absurd (omega arith)) (λ i. i) (h n a b))))

-- ---- insert
-- the merged range and those behind it
abbrev list : Merged → List Range
list m = m.range ∷ m.behind

insert-low : (f t : ℕ) (r : Range) (rs : List Range) → r.to + 1 < f → insert f t (r ∷ rs) ≡ r ∷ insert f t rs
unfolding insert
insert-low f t r rs h = rw (lt-ltb (r.to + 1) f h)

insert-here : (f t : ℕ) (r : Range) (rs : List Range) → f ≤ r.to + 1 → insert f t (r ∷ rs) ≡ list (merged f t (r ∷ rs))
unfolding insert
insert-here f t r rs h = rw (le-ltb (r.to + 1) f h)

merged-canon : (rs : List Range) (g f t : ℕ) → g ≤ f → f ≤ t → Canon g rs → Canon g (list (merged f t rs))
merged-canon [] g f t gf ft c = (gf, ft, tt)
merged-canon (r ∷ rs) g f t gf ft c =
    if-lt (t + 1) r.from
    (λ b. Canon g (list (cond b (record { range = range f t; behind = r ∷ rs }) (merged (min f r.from) (max t r.to) rs))))
    (λ k. (gf, ft, (omega arith, c.1, c.2)))
    (λ k. merged-canon rs g (min f r.from) (max t r.to) (omega arith) (omega arith) (weaken rs (omega arith) c.2))

pub insert-canon : (rs : List Range) (g f t : ℕ) → g ≤ f → f ≤ t → Canon g rs → Canon g (insert f t rs)
unfolding insert
insert-canon [] g f t gf ft c = (gf, ft, tt)
insert-canon (r ∷ rs) g f t gf ft c =
    order f (r.to + 1)
    (λ h. subst (Canon g) (sym (insert-here f t r rs h)) (merged-canon (r ∷ rs) g f t gf ft c))
    (λ h. subst (Canon g) (sym (insert-low f t r rs h)) (c.0, c.1, insert-canon rs (r.to + 2) f t (omega arith) ft c.2))

-- a number of two ranges that touch
between : (a b f t n : ℕ) → f ≤ b + 1 → a ≤ t + 1 → min f a ≤ n → n ≤ max t b → ((f ≤ n) × (n ≤ t)) ⊎ ((a ≤ n) × (n ≤ b))
between a b f t n p q l u =
    order f n (λ h. order n t (λ k. inl (h, k)) (λ k. inr (omega arith))) (λ h. inr (omega arith))

-- n is in f..t or among rs
abbrev pub Or : ℕ → ℕ → ℕ → List Range → Type 0
Or f t n rs = ((f ≤ n) × (n ≤ t)) ⊎ In n rs

-- f is not above the first range's end, but for touching it
abbrev Near : ℕ → List Range → Type 0
Near f [] = Unit {0}
Near f (r ∷ rs) = f ≤ r.to + 1

near : (g f : ℕ) (rs : List Range) → Canon g rs → f ≤ g + 1 → Near f rs
near g f [] c h = tt
near g f (r ∷ rs) c h = omega arith

merged-from : (rs : List Range) (g f t n : ℕ) → Canon g rs → Near f rs → In n (list (merged f t rs)) → Or f t n rs
merged-from [] g f t n c e = λ i. i
merged-from (r ∷ rs) g f t n c e =
    if-lt (t + 1) r.from
    (λ b. In n (list (cond b (record { range = range f t; behind = r ∷ rs }) (merged (min f r.from) (max t r.to) rs))) → Or f t n (r ∷ rs))
    (λ k i. i)
    (λ k i. ⊎_elim
    (λ m. ⊎_elim (λ x. inl x) (λ x. inr (inl x)) (between r.from r.to f t n e (omega arith) m.0 m.1))
    (λ m. inr (inr m))
    (merged-from rs (r.to + 2) (min f r.from) (max t r.to) n c.2 (near (r.to + 2) (min f r.from) rs c.2 (omega arith)) i))

merged-to : (rs : List Range) (f t n : ℕ) → Or f t n rs → In n (list (merged f t rs))
merged-to [] f t n = λ i. i
merged-to (r ∷ rs) f t n =
    if-lt (t + 1) r.from
    (λ b. Or f t n (r ∷ rs) → In n (list (cond b (record { range = range f t; behind = r ∷ rs }) (merged (min f r.from) (max t r.to) rs))))
    (λ k i. i)
    (λ k. ⊎_elim
    (λ m. merged-to rs (min f r.from) (max t r.to) n (inl (omega arith)))
    (⊎_elim
    (λ m. merged-to rs (min f r.from) (max t r.to) n (inl (omega arith)))
    (λ m. merged-to rs (min f r.from) (max t r.to) n (inr m))))

-- the numbers of the result: those of f..t and those that were there
pub insert-from : (rs : List Range) (g f t n : ℕ) → Canon g rs → In n (insert f t rs) → Or f t n rs
unfolding insert
insert-from [] g f t n c i = i
insert-from (r ∷ rs) g f t n c i =
    order f (r.to + 1)
    (λ h. merged-from (r ∷ rs) g f t n c h (subst (In n) (insert-here f t r rs h) i))
    (λ h. ⊎_elim (λ k. inr (inl k)) (λ j. ⊎_elim (λ k. inl k) (λ k. inr (inr k)) (insert-from rs (r.to + 2) f t n c.2 j)) (subst (In n) (insert-low f t r rs h) i))

pub insert-to : (rs : List Range) (f t n : ℕ) → Or f t n rs → In n (insert f t rs)
unfolding insert
insert-to [] f t n i = i
insert-to (r ∷ rs) f t n i =
    order f (r.to + 1)
    (λ h. subst (In n) (sym (insert-here f t r rs h)) (merged-to (r ∷ rs) f t n i))
    (λ h. subst (In n) (sym (insert-low f t r rs h)) (⊎_elim (λ k. inr (insert-to rs f t n (inl k))) (⊎_elim (λ k. inl k) (λ k. inr (insert-to rs f t n (inr k)))) i))

-- ---- a canonical list is the only one of its numbers
-- the first range of one list does not start before that of the other, nor end behind it
first-from : (g : ℕ) (r s : Range) (rs ss : List Range) → Canon g (s ∷ ss) → r.from ≤ r.to → ((n : ℕ) → In n (r ∷ rs) → In n (s ∷ ss)) → s.from ≤ r.from
first-from g r s rs ss c le f = above-start s.from (s ∷ ss) (omega arith, c.1, c.2) r.from (f r.from (inl (omega arith)))

first_to : (r s : Range) (rs ss : List Range) → Canon (s.to + 2) ss → r.from ≡ s.from → s.from ≤ s.to → ((n : ℕ) → In n (r ∷ rs) → In n (s ∷ ss)) → r.to ≤ s.to
first_to r s rs ss c e le f = order r.to s.to (λ h. h) (λ h. absurd (gap s ss c (f (s.to + 1) (inl (omega arith)))))

rest : (r : Range) (rs ss : List Range) → Canon (r.to + 2) rs → ((n : ℕ) → In n (r ∷ rs) → In n (r ∷ ss)) → (n : ℕ) → In n rs → In n ss
rest r rs ss c f n i =
    let h = above-start (r.to + 2) rs c n i in
    ⊎_elim (λ k. absurd (omega arith)) (λ k. k) (f n (inr i))

pub unique : (g : ℕ) (rs ss : List Range) → Canon g rs → Canon g ss → ((n : ℕ) → In n rs → In n ss) → ((n : ℕ) → In n ss → In n rs) → rs ≡ ss
unique g [] [] c d f b = refl
unique g [] (s ∷ ss) c d f b = absurd (b s.from (inl (omega arith)))
unique g (r ∷ rs) [] c d f b = absurd (f r.from (inl (omega arith)))
unique g (r ∷ rs) (s ∷ ss) c d f b =
    let p : r.from ≡ s.from = omega (arith, first-from g r s rs ss d c.1 f, first-from g s r ss rs c d.1 b) in
    let q : r.to ≡ s.to = omega (arith, first_to r s rs ss d.2 p d.1 f, first_to s r ss rs c.2 (sym p) c.1 b) in
    let e : r ≡ s = λ i. record { from = p i; to = q i } in
    let d' : Canon (r.to + 2) ss = weaken ss (omega arith) d.2 in
    ap₂ {C = List Range} (λ x xs. x ∷ xs) e
    (unique (r.to + 2) rs ss c.2 d'
    (rest r rs ss c.2 (λ n i. subst (λ (x : Range). In n (x ∷ ss)) (sym e) (f n i)))
    (rest r ss rs d' (λ n i. b n (subst (λ (x : Range). In n (x ∷ ss)) e i))))

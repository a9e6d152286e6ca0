-- What contains, covers and insert mean for the set of covered numbers: a canonical record stands for one set and is the only one that does,
-- contiguous is the greatest c with 1..c in the set, and insert gives the record of the set with f..t added. Assumes nothing.
use Prim.Native.Nat.{ℕ, zero, suc, ◌+◌, ◌-◌, ◌≤◌, ◌<◌, max, min}
use mathlib.Core.List.{List, [], ◌∷◌}
use mathlib.Core.Bool.{Bool, true, false, cond, ◌&&◌, true≢false}
use mathlib.Core.Logic.{◌⊎◌, inl, inr, ⊎_elim}
use mathlib.Core.Path.{◌≡◌, refl, subst, sym, ap, ◌∙◌}
use native.Mathlib.Omega.{arith}
use lib.Dec.{leb, eqb}
use borrow.Author.Tests.{le-leb, leb-true}
use Rattle.rows.specs.Values.{Range}
use Rattle.rows.specs.Checks.{any, canonical, none_above}
use Rattle.numbers.specs.Ranges.{Received, received, range, inside, covers, contains, Merged, merged, insert, all_ranges, inserted}
use Rattle.numbers.specs.Sets.{add, all_of, how_many, reach, runs, not_from1, record_of, size, Records}
use Rattle.rows.proofs.Tests.{either, if-lt, if-eq, order, or_cases, or_left, or_right, and_both, both-and, same_truth}
use Rattle.numbers.proofs.Canon.{Canon, to-canon, from-canon, In, to_in, from_in, weaken, above-start, gap, holds-each, each_holds, unique, insert-canon, insert-from, insert-to}
use Rattle.numbers.proofs.Runs.{runs-canon, runs-from, runs_to, runs-size, all-each, each_all, reach-is}
use Rattle.numbers.proofs.Insert.{insert-joined, insert-apart}

-- ---- the numbers of a record
contains-in : (v : Received) (n : ℕ) → contains v n ≡ true → (1 ≤ n) × In n (all_ranges v)
contains-in v n e =
    let p = and_both (leb 1 n) (covers v n n) e in (
      leb-true 1 n p.0,
      ⊎_elim (λ k. let h = leb-true n v.contiguous k in inl (omega arith, h)) (λ k. inr (to_in n v.above k))
          (or_cases (leb n v.contiguous) (any (inside n n) v.above) p.1),
    )

in-contains : (v : Received) (n : ℕ) → 1 ≤ n → In n (all_ranges v) → contains v n ≡ true
in-contains v n one i =
    both-and (leb 1 n) (covers v n n) (le-leb 1 n one)
    (⊎_elim (λ k. or_left (leb n v.contiguous) (any (inside n n) v.above) (le-leb n v.contiguous k.1))
    (λ k. or_right (leb n v.contiguous) (any (inside n n) v.above) (from_in n v.above k)) i)

-- ranges that end at N at the latest
none_above_lem : (N : ℕ) (rs : List Range) → none_above N rs ≡ true → (n : ℕ) → In n rs → n ≤ N
none_above_lem N [] e n i = absurd i
none_above_lem N (r ∷ rs) e n (inl k) =
    let h = leb-true r.to N (and_both (leb r.to N) (none_above N rs) e).0 in
    omega arith
none_above_lem N (r ∷ rs) e n (inr i) = none_above_lem N rs (and_both (leb r.to N) (none_above N rs) e).1 n i

above-none : (N g : ℕ) (rs : List Range) → Canon g rs → ((n : ℕ) → In n rs → n ≤ N) → none_above N rs ≡ true
above-none N g [] c f = refl
above-none N g (r ∷ rs) c f =
    both-and (leb r.to N) (none_above N rs) (le-leb r.to N (f r.to (inl (c.1, omega arith)))) (above-none N (r.to + 2) rs c.2 (λ n i. f n (inr i)))

-- a canonical record stands for the numbers that it contains
pub records : (N : ℕ) (v : Received) → canonical (v.contiguous + 2) v.above ≡ true → v.contiguous ≤ N → none_above N v.above ≡ true → Records N (contains v) v
records N v c h e =
    record {
      is-canonical = c;
      in-width = λ n t. ⊎_elim (λ k. omega arith) (λ i. none_above_lem N v.above e n i) (contains-in v n t).1;
      same_numbers = λ n. refl;
    }

-- ---- the runs of a record: 1..c, unless that is empty, and the ranges above
from1 : ℕ → List Range → List Range
from1 zero rs = rs
from1 (suc c) rs = range 1 (suc c) ∷ rs

from1-canon : (c : ℕ) (rs : List Range) → Canon (c + 2) rs → Canon 1 (from1 c rs)
unfolding from1
from1-canon zero rs h = weaken rs (omega arith) h
from1-canon (suc c) rs h = (omega arith, omega arith, h)

from1-to : (c n : ℕ) (rs : List Range) → 1 ≤ n → In n (range 0 c ∷ rs) → In n (from1 c rs)
unfolding from1
from1-to zero n rs one = ⊎_elim (λ h. absurd (omega arith)) (λ i. i)
from1-to (suc c) n rs one = ⊎_elim (λ h. inl (omega arith)) (λ i. inr i)

from1-from : (c n : ℕ) (rs : List Range) → In n (from1 c rs) → In n (range 0 c ∷ rs)
unfolding from1
from1-from zero n rs i = inr i
from1-from (suc c) n rs i = ⊎_elim (λ h. inl (omega arith)) (λ i. inr i) i

not_from1-is : (c : ℕ) (rs : List Range) → Canon (c + 2) rs → not_from1 (from1 c rs) ≡ rs
unfolding from1
not_from1-is zero [] h = refl
not_from1-is zero (r ∷ rs) h = if-eq r.from 1 (λ b. cond b rs (r ∷ rs) ≡ r ∷ rs) (λ e. absurd (omega arith)) (λ e. refl)
not_from1-is (suc c) rs h = refl

size-from1 : (c : ℕ) (rs : List Range) → size (from1 c rs) ≡ c + size rs
unfolding from1
size-from1 zero rs = omega arith
size-from1 (suc c) rs = omega arith

-- ---- what insert does to 0..contiguous and the ranges above, it does to the record
from_zero : (rs : List Range) (f t : ℕ) → f ≡ 0 → (merged f t rs).range.from ≡ 0
from_zero [] f t e = e
from_zero (r ∷ rs) f t e =
    if-lt (t + 1) r.from
    (λ b. (cond b (record { range = range f t; behind = r ∷ rs }) (merged (min f r.from) (max t r.to) rs)).range.from ≡ 0)
    (λ h. e)
    (λ h. from_zero rs (min f r.from) (max t r.to) (omega arith))

ranges-inserted : (v : Received) (f t : ℕ) → all_ranges (inserted v f t) ≡ insert f t (all_ranges v)
unfolding inserted
ranges-inserted v f t =
    let m : Merged = merged 0 (max t v.contiguous) v.above in
    order f (v.contiguous + 1)
    (λ h. rw (insert-joined v f t h) (ap {B = List Range} (λ (x : ℕ). range x m.range.to ∷ m.behind) (sym (from_zero v.above 0 (max t v.contiguous) refl))))
    (λ h. rw (insert-apart v f t h))

-- a number of S with f..t added
add-cases : (f t n : ℕ) (S : ℕ → Bool) → add f t S n ≡ true → ((f ≤ n) × (n ≤ t)) ⊎ (S n ≡ true)
add-cases f t n S e =
    ⊎_elim
    (λ k. let q = and_both (leb f n) (leb n t) k in inl (leb-true f n q.0, leb-true n t q.1))
    (λ k. inr k)
    (or_cases (leb f n && leb n t) (S n) e)

add-range : (f t n : ℕ) (S : ℕ → Bool) → (f ≤ n) × (n ≤ t) → add f t S n ≡ true
add-range f t n S h = or_left (leb f n && leb n t) (S n) (both-and (leb f n) (leb n t) (le-leb f n h.0) (le-leb n t h.1))

-- ---- a record v of S
module _ {N : ℕ} {S : ℕ → Bool} {v : Received} (p : Records N S v) where
  canon : Canon (v.contiguous + 2) v.above
  canon = to-canon (v.contiguous + 2) v.above p.is-canonical

  into : (n : ℕ) → S n ≡ true → (1 ≤ n) × In n (all_ranges v)
  into n t = contains-in v n (p.same_numbers n ∙ t)

  out : (n : ℕ) → 1 ≤ n → In n (all_ranges v) → S n ≡ true
  out n one i = sym (p.same_numbers n) ∙ in-contains v n one i

  below-contiguous : (n : ℕ) → 1 ≤ n → n < 1 + v.contiguous → S n ≡ true
  below-contiguous n one h = out n one (inl (omega arith))

  behind-contiguous : S (1 + v.contiguous) ≡ false
  behind-contiguous =
      either (S (1 + v.contiguous)) (λ b. b ≡ false)
      (λ t. let z : 1 + v.contiguous ≡ v.contiguous + 1 = omega arith in
      absurd (gap (range 0 v.contiguous) v.above canon (subst (λ (n : ℕ). In n (all_ranges v)) z (into (1 + v.contiguous) t).1)))
      (λ t. refl)

  -- no number is too wide for the record
  pub contiguous-width : v.contiguous ≤ N
  contiguous-width = order v.contiguous 0 (λ h. omega arith) (λ h. p.in-width v.contiguous (below-contiguous v.contiguous h (omega arith)))

  pub above-width : none_above N v.above ≡ true
  above-width =
      above-none N (v.contiguous + 2) v.above canon
      (λ n i. let h = above-start (v.contiguous + 2) v.above canon n i in p.in-width n (out n (omega arith) (inr i)))

  -- contiguous is the greatest c with 1..c in S
  pub contiguous-in : all_of S 1 v.contiguous ≡ true
  contiguous-in = each_all S 1 v.contiguous below-contiguous

  pub contiguous-greatest : (c : ℕ) → all_of S 1 c ≡ true → c ≤ v.contiguous
  contiguous-greatest c t =
      order c v.contiguous (λ h. h)
      (λ h. absurd (true≢false (sym (all-each S 1 c t (1 + v.contiguous) (omega arith) (omega arith)) ∙ behind-contiguous)))

  -- the runs behind contiguous are the ranges above
  pub runs-above : runs S (v.contiguous + 1) (N - v.contiguous) ≡ v.above
  runs-above =
      let c : ℕ = v.contiguous in
      unique (c + 1) (runs S (c + 1) (N - c)) v.above (runs-canon S (c + 1) (N - c)) (weaken v.above (omega arith) canon)
      (λ n i. let h = runs-from S (c + 1) (N - c) n i in ⊎_elim (λ k. absurd (omega arith)) (λ k. k) (into n h.0).1)
      (λ n i. let h = above-start (c + 2) v.above canon n i in
      let t = out n (omega arith) (inr i) in
      runs_to S (c + 1) (N - c) n t (omega arith) (omega (arith, p.in-width n t, contiguous-width)))

  -- how many numbers of S lie behind contiguous
  pub beyond : size v.above ≡ how_many S (v.contiguous + 1) (N - v.contiguous)
  beyond = ap size (sym runs-above) ∙ runs-size S (v.contiguous + 1) (N - v.contiguous)

  -- covers: all of f..t is in S
  pub covers-all : (f t : ℕ) → 1 ≤ f → f ≤ t → covers v f t ≡ all_of S f (t + 1 - f)
  covers-all f t one ft =
      let w : covers v f t ≡ any (inside f t) (all_ranges v) = rw (le-leb 0 f (omega arith)) in
      w ∙ same_truth (any (inside f t) (all_ranges v)) (all_of S f (t + 1 - f))
      (λ e. each_all S f (t + 1 - f) (λ n a b. out n (omega arith) (holds-each f t (all_ranges v) e n a (omega arith))))
      (λ e. each_holds f t 0 (all_ranges v) (omega arith, omega arith, canon) ft (λ n a b. (into n (all-each S f (t + 1 - f) e n a (omega arith))).1))

  runs-are : runs S 1 N ≡ from1 v.contiguous v.above
  runs-are =
      let all : List Range = from1 v.contiguous v.above in
      let c : Canon 1 all = from1-canon v.contiguous v.above canon in
      unique 1 (runs S 1 N) all (runs-canon S 1 N) c
      (λ n i. let h = runs-from S 1 N n i in from1-to v.contiguous n v.above h.1 (into n h.0).1)
      (λ n i. let one : 1 ≤ n = above-start 1 all c n i in
      let t = out n one (from1-from v.contiguous n v.above i) in
      runs_to S 1 N n t one (omega (arith, p.in-width n t)))

  -- the record that the definition gives is v
  pub record_is : record_of N S ≡ v
  unfolding record_of
  record_is =
      let c : ℕ = v.contiguous in
      let e : reach S 1 N ≡ c = reach-is S 1 N c contiguous-width below-contiguous (λ h. behind-contiguous) in
      let r : not_from1 (runs S 1 N) ≡ v.above = ap not_from1 runs-are ∙ not_from1-is c v.above canon in
      λ i. received (e i) (r i)

  -- S has as many numbers as the record says
  pub size_is : v.contiguous + size v.above ≡ how_many S 1 N
  size_is = sym (size-from1 v.contiguous v.above) ∙ ap size (sym runs-are) ∙ runs-size S 1 N

  -- insert adds f..t
  module _ (f t : ℕ) (one : 1 ≤ f) (ft : f ≤ t) (t_n : t ≤ N) where
    pub inserts : Records N (add f t S) (inserted v f t)
    inserts =
        let w : all_ranges (inserted v f t) ≡ insert f t (all_ranges v) = ranges-inserted v f t in
        let c : Canon 0 (all_ranges (inserted v f t)) = subst (Canon 0) (sym w) (insert-canon (all_ranges v) 0 f t (omega arith) ft (omega arith, omega arith, canon)) in
        record {
          is-canonical = from-canon ((inserted v f t).contiguous + 2) (inserted v f t).above c.2;
          in-width = λ n e. ⊎_elim (λ h. omega arith) (λ e. p.in-width n e) (add-cases f t n S e);
          same_numbers = λ n. same_truth (contains (inserted v f t) n) (add f t S n)
              (λ e. let q = contains-in (inserted v f t) n e in
              ⊎_elim (λ h. add-range f t n S h) (λ i. or_right (leb f n && leb n t) (S n) (out n q.0 i))
              (insert-from (all_ranges v) 0 f t n (omega arith, omega arith, canon) (subst (In n) w q.1)))
              (λ e. let one : 1 ≤ n = ⊎_elim (λ h. omega arith) (λ e. (into n e).0) (add-cases f t n S e) in
              in-contains (inserted v f t) n one
              (subst (In n) (sym w) (insert-to (all_ranges v) f t n (⊎_elim (λ h. inl h) (λ e. inr (into n e).1) (add-cases f t n S e)))));
        }

-- two canonical records of one set are the same
pub only-record : {N : ℕ} {S : ℕ → Bool} {v w : Received} → Records N S v → Records N S w → v ≡ w
only-record p q = sym (record_is p) ∙ record_is q

-- what insert gives is the record of the set with f..t added
pub insert-is : {N : ℕ} {S : ℕ → Bool} {v : Received} → Records N S v → (f t : ℕ) → 1 ≤ f → f ≤ t → t ≤ N → record_of N (add f t S) ≡ inserted v f t
insert-is p f t one ft t_n = record_is (inserts p f t one ft t_n)

-- ---- every set of numbers from 1 to N has a record
-- the end of the run that starts at 1
abbrev first_end : List Range → ℕ
first_end [] = 0
first_end (r ∷ rs) = cond (eqb r.from 1) r.to 0

module _ (N : ℕ) (S : ℕ → Bool) (in_bounds : (n : ℕ) → S n ≡ true → (1 ≤ n) × (n ≤ N)) where
  -- a canonical record of the same numbers as ranges that have those of S
  recorded : (ws : List Range) (v : Received) → ((n : ℕ) → In n ws → S n ≡ true) → ((n : ℕ) → S n ≡ true → In n ws) → Canon (v.contiguous + 2) v.above
      → ((n : ℕ) → 1 ≤ n → In n (all_ranges v) → In n ws) → ((n : ℕ) → In n ws → In n (all_ranges v)) → Records N S v
  recorded ws v from to c f g =
      record {
        is-canonical = from-canon (v.contiguous + 2) v.above c;
        in-width = λ n t. (in_bounds n t).1;
        same_numbers = λ n. same_truth (contains v n) (S n)
            (λ e. let q = contains-in v n e in from n (f n q.0 q.1))
            (λ t. in-contains v n (in_bounds n t).0 (g n (to n t)));
      }

  of-runs : (ws : List Range) → Canon 1 ws → ((n : ℕ) → In n ws → S n ≡ true) → ((n : ℕ) → S n ≡ true → In n ws) → Records N S (received (first_end ws) (not_from1 ws))
  of-runs [] c from to = recorded [] (received 0 []) from to tt (λ n one. ⊎_elim (λ h. absurd (omega arith)) (λ i. i)) (λ n i. inr i)
  of-runs (r ∷ rs) c from to =
      if-eq r.from 1 (λ b. Records N S (received (cond b r.to 0) (cond b rs (r ∷ rs))))
      (λ e. recorded (r ∷ rs) (received r.to rs) from to c.2
      (λ n one. ⊎_elim (λ h. inl (omega arith)) (λ i. inr i)) (λ n. ⊎_elim (λ h. inl (omega arith)) (λ i. inr i)))
      (λ e. recorded (r ∷ rs) (received 0 (r ∷ rs)) from to (omega arith, c.1, c.2) (λ n one. ⊎_elim (λ h. absurd (omega arith)) (λ i. i)) (λ n i. inr i))

  pub has-record : Records N S (record_of N S)
  has-record =
      let ws : List Range = runs S 1 N in
      let q : Records N S (received (first_end ws) (not_from1 ws)) =
      of-runs ws (runs-canon S 1 N) (λ n i. (runs-from S 1 N n i).0) (λ n t. runs_to S 1 N n t (in_bounds n t).0 (omega (arith, (in_bounds n t).1))) in
      subst (Records N S) (sym (record_is q)) q

-- ---- canonical lists by themselves, as `above` and `expired` are
pub canonical-unique : (g : ℕ) (rs ss : List Range) → canonical g rs ≡ true → canonical g ss ≡ true → ((n : ℕ) → any (inside n n) rs ≡ any (inside n n) ss) → rs ≡ ss
canonical-unique g rs ss c d e =
    unique g rs ss (to-canon g rs c) (to-canon g ss d)
    (λ n i. to_in n ss (sym (e n) ∙ from_in n rs i))
    (λ n i. to_in n rs (e n ∙ from_in n ss i))

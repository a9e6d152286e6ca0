-- What is proved of covered numbers (proofs/Proved.antt): hold it beside document 01's module 4, its ledger, its (p) cases, and 02's A2.
-- A set S is its test, and N the highest number; `Records N S v` says that v, contiguous with the ranges above, is a canonical record of S. Assumes nothing.
use Rattle.std.specs.Prelude.{ℕ, ◌+◌, ◌-◌, ◌*◌, ◌≤◌, ◌<◌, max, List, ◌++◌, Bool, true, false, cond, ◌||◌, not, ◌↔◌, ◌≡◌, length, drop, leb, eqb}
use Rattle.layout.specs.Questions.{RANGES_FIT}
use Rattle.layout.specs.Veil.{zeros}
use Rattle.rows.specs.Values.{Range}
use Rattle.rows.specs.Checks.{any, canonical, none_above}
use Rattle.numbers.specs.Ranges.{Received, inside, contains, covers, inserted, uncovered, added}
use Rattle.received.specs.Lent.{pairs, flat, plan_of, list_after}
use Rattle.numbers.specs.Lists.{limit_of}
use Rattle.numbers.specs.Sets.{add, all_of, how_many, runs, record_of, size, size_from, Records, Coverable, insert_all, added_by_all}
use Rattle.received.specs.Cases.{Outcome, gives, refuses, outcome, cases, AllHold}

-- ---- what scanning the k numbers from n on finds
pub record ScanLaws (S : ℕ → Bool) (n k : ℕ) : Type 0 where
  pub all-of : (all_of S n k ≡ true) ↔ ((m : ℕ) → n ≤ m → m < n + k → S m ≡ true)
  -- the runs hold the numbers of S among them and no others, rise, and do not touch: so they are maximal
  pub runs-in : (m : ℕ) → (any (inside m m) (runs S n k) ≡ true) ↔ ((S m ≡ true) × (n ≤ m) × (m < n + k))
  pub runs-canonical : canonical n (runs S n k) ≡ true
  pub runs-size : size (runs S n k) ≡ how_many S n k

-- ---- a record v of S
-- what a cover of so many new numbers leads to, by the record w of the set after it: 38 where w has more ranges than may be left in the list l
abbrev pub leads_to : (v w : Received) → (new : ℕ) → List ℕ → Outcome
leads_to v w new l = cond (leb (length w.above) (limit_of (length l))) (gives w (not (eqb w.contiguous v.contiguous)) new) (refuses RANGES_FIT l)

pub record RecordLaws (N : ℕ) (S : ℕ → Bool) (v : Received) : Type 0 where
  -- it is the only one, and the one that is found by scanning S
  pub only : (w : Received) → Records N S w → w ≡ v
  pub scanned : record_of N S ≡ v
  -- no number is too wide
  pub contiguous-width : v.contiguous ≤ N
  pub above-width : none_above N v.above ≡ true
  -- contiguous is the greatest c with 1..c in S, else 0
  pub contiguous-in : (n : ℕ) → 1 ≤ n → n ≤ v.contiguous → S n ≡ true
  pub contiguous-greatest : (c : ℕ) → ((n : ℕ) → 1 ≤ n → n ≤ c → S n ≡ true) → c ≤ v.contiguous
  -- above are the maximal runs behind it, rising
  pub above-runs : runs S (v.contiguous + 1) (N - v.contiguous) ≡ v.above
  -- contains: is it in S? 0 is not
  pub contains-in : (n : ℕ) → contains v n ≡ S n
  pub zero-out : S 0 ≡ false
  -- covers: is all of f..t in S?
  pub covers-all : (f t : ℕ) → 1 ≤ f → f ≤ t → covers v f t ≡ all_of S f (t + 1 - f)
  -- insert adds f..t
  pub insert-adds : (f t : ℕ) → 1 ≤ f → f ≤ t → t ≤ N → Records N (add f t S) (inserted v f t)
  -- ... and counts the new numbers: as many of f..t as are not in S, and as many as S then has more
  pub added_new : (f t : ℕ) → 1 ≤ f → added v f t ≡ how_many (λ n. not (S n)) f (t + 1 - f)
  pub added_more : (f t : ℕ) → 1 ≤ f → t ≤ N → how_many S 1 N + added v f t ≡ how_many (add f t S) 1 N
  -- in a lent list l that holds the ranges above: what a cover leads to, by the set alone
  pub cover-leads : (l : List ℕ) (count : ℕ) → pairs count l ≡ v.above → (f t : ℕ) → 1 ≤ f → f ≤ t → t ≤ N
      → outcome (plan_of v (length l) f t) (list_after v l f t) ≡ leads_to v (record_of N (add f t S)) (how_many (add f t S) 1 N - how_many S 1 N) l
  -- ... and every place afterwards: the ranges, 0 where one was and none is any more, and all behind as it was
  pub cover-places : (l : List ℕ) (count : ℕ) → pairs count l ≡ v.above → (f t : ℕ) → 1 ≤ f → f ≤ t → t ≤ N
      → (w : Received) → record_of N (add f t S) ≡ w → length w.above ≤ limit_of (length l)
      → list_after v l f t ≡ flat w.above ++ (zeros (2 * (length v.above - length w.above)) ++ drop (2 * max (length v.above) (length w.above)) l)
  -- beyond: how many are in S above contiguous; and how many there are
  pub beyond : size v.above ≡ how_many S (v.contiguous + 1) (N - v.contiguous)
  pub in_all : v.contiguous + size v.above ≡ how_many S 1 N

-- ---- ranges by themselves, as `expired` is
pub record RangesLaws : Type 0 where
  -- canonical ones are the only ones of their numbers
  pub only : (from : ℕ) (rs ss : List Range) → canonical from rs ≡ true → canonical from ss ≡ true → ((n : ℕ) → any (inside n n) rs ≡ any (inside n n) ss) → rs ≡ ss
  -- ... and from `lowest` on they hold as many as counting up to their last number, or further, finds (the last figure of a statement, document 02's A5)
  pub counted : (N lowest k : ℕ) (rs : List Range) → canonical 1 rs ≡ true → none_above N rs ≡ true → N < lowest + k
      → size_from lowest rs ≡ how_many (λ n. any (inside n n) rs) lowest k

-- ---- how many numbers are new (02, A2), apart from any record
pub record NewLaws : Type 0 where
  -- of any set: with f..t added it has as many numbers more as of f..t are not in it
  pub add-more : (S : ℕ → Bool) (f t N : ℕ) → 1 ≤ f → t ≤ N → how_many S 1 N + how_many (λ n. not (S n)) f (t + 1 - f) ≡ how_many (add f t S) 1 N
  -- of canonical ranges: of at..t as many lie in none of them as counting finds
  pub uncovered-counted : (from at t : ℕ) (rs : List Range) → canonical from rs ≡ true → uncovered at t rs ≡ how_many (λ n. not (any (inside n n) rs)) at (t + 1 - at)
  -- of any ranges: no more than there are; and 0 is never new
  pub uncovered-most : (at t : ℕ) (rs : List Range) → uncovered at t rs ≤ t + 1 - at
  pub added-most : (v : Received) (f t : ℕ) → added v f t ≤ t
  pub zero-never : (v : Received) (t : ℕ) → added v 0 t ≡ added v 1 t

-- ---- 01's (p) cases: all of the table hold, and none of 01's is left out
pub record CaseLaws : Type 0 where
  pub thirteen : length cases ≡ 13
  pub hold : AllHold cases

pub record Proved : Type 0 where
  pub scans : (S : ℕ → Bool) (n k : ℕ) → ScanLaws S n k
  -- a canonical record (23) is one of the numbers that it contains, and every set of numbers from 1 to N has one
  pub of-canonical : (N : ℕ) (v : Received) → canonical (v.contiguous + 2) v.above ≡ true → v.contiguous ≤ N → none_above N v.above ≡ true → Records N (contains v) v
  pub of-set : (N : ℕ) (S : ℕ → Bool) → ((n : ℕ) → S n ≡ true → (1 ≤ n) × (n ≤ N)) → Records N S (record_of N S)
  pub records : {N : ℕ} {S : ℕ → Bool} {v : Received} → Records N S v → RecordLaws N S v
  -- covers one after the other add all their numbers; in which order, and in which pieces, makes no difference
  pub all-added : {N : ℕ} {S : ℕ → Bool} {v : Received} → Records N S v → (rs : List Range) → Coverable N rs → Records N (λ n. any (inside n n) rs || S n) (insert_all rs v)
  pub any_order : {N : ℕ} {S : ℕ → Bool} {v : Received} → Records N S v → (rs ss : List Range) → Coverable N rs → Coverable N ss
      → ((n : ℕ) → any (inside n n) rs ≡ any (inside n n) ss) → insert_all rs v ≡ insert_all ss v
  -- ... and what they count as new, each its own, adds up to what the set has more at the end
  pub all-counted : {N : ℕ} {S : ℕ → Bool} {v : Received} → Records N S v → (rs : List Range) → Coverable N rs
      → how_many S 1 N + added_by_all rs v ≡ how_many (λ n. any (inside n n) rs || S n) 1 N
  pub ranges : RangesLaws
  pub new : NewLaws
  pub table : CaseLaws

-- The set S of covered numbers, in document 01's words, and the record of it that a contact row holds. A set is its test; N is the highest number.
-- Assumes nothing.
use Rattle.std.specs.Prelude.{ℕ, zero, suc, ◌+◌, ◌-◌, ◌≤◌, max, List, [], ◌∷◌, Bool, true, cond, ◌&&◌, ◌||◌, ◌≡◌, leb, eqb}
use Rattle.rows.specs.Values.{Range}
use Rattle.rows.specs.Checks.{canonical}
use Rattle.numbers.specs.Ranges.{Received, received, range, contains, inserted, added}

-- S with f..t added
abbrev pub add : ℕ → ℕ → (ℕ → Bool) → ℕ → Bool
add f t S n = (leb f n && leb n t) || S n

-- Of the k numbers from n on:
-- all are in S
abbrev pub all_of : (ℕ → Bool) → ℕ → ℕ → Bool
all_of S n zero = true
all_of S n (suc k) = S n && all_of S (suc n) k

-- so many are in S
abbrev pub how_many : (ℕ → Bool) → ℕ → ℕ → ℕ
how_many S n zero = 0
how_many S n (suc k) = cond (S n) (suc (how_many S (suc n) k)) (how_many S (suc n) k)

-- so many are in S before the first that is not
abbrev pub reach : (ℕ → Bool) → ℕ → ℕ → ℕ
reach S n zero = 0
reach S n (suc k) = cond (S n) (suc (reach S (suc n) k)) 0

-- n comes before these runs: it lengthens the first, or is a run of its own
abbrev pub grow : ℕ → List Range → List Range
grow n [] = range n n ∷ []
grow n (r ∷ rs) = cond (eqb r.from (suc n)) (range n r.to ∷ rs) (range n n ∷ r ∷ rs)

-- the maximal runs of S among them, rising
abbrev pub runs : (ℕ → Bool) → ℕ → ℕ → List Range
runs S n zero = []
runs S n (suc k) = cond (S n) (grow n (runs S (suc n) k)) (runs S (suc n) k)

-- the runs that do not start at 1, which only the first can
abbrev pub not_from1 : List Range → List Range
not_from1 [] = []
not_from1 (r ∷ rs) = cond (eqb r.from 1) rs (r ∷ rs)

-- The record of S: contiguous is the greatest c with 1..c in S, else 0; above are the maximal runs that do not start at 1.
unfoldable pub record_of : ℕ → (ℕ → Bool) → Received
record_of N S = received (reach S 1 N) (not_from1 (runs S 1 N))

-- how many numbers from `lowest` on are in ranges of which no two share one
abbrev pub size_from : (lowest : ℕ) → List Range → ℕ
size_from lowest [] = 0
size_from lowest (r ∷ rs) = r.to + 1 - max r.from lowest + size_from lowest rs

-- all of them
abbrev pub size : List Range → ℕ
size rs = size_from 0 rs

-- v is a canonical record (question 23) of the set S of numbers up to N
pub record Records (N : ℕ) (S : ℕ → Bool) (v : Received) : Type 0 where
  pub is-canonical : canonical (v.contiguous + 2) v.above ≡ true
  pub in-width : (n : ℕ) → S n ≡ true → n ≤ N
  pub same_numbers : (n : ℕ) → contains v n ≡ S n

-- ranges that may be covered: question 37, and the width
abbrev pub Coverable : ℕ → List Range → Type 0
Coverable N [] = Unit {0}
Coverable N (r ∷ rs) = (1 ≤ r.from) × (r.from ≤ r.to) × (r.to ≤ N) × Coverable N rs

-- covers of these ranges, one after the other
abbrev pub insert_all : List Range → Received → Received
insert_all [] v = v
insert_all (r ∷ rs) v = insert_all rs (inserted v r.from r.to)

-- ... and how many numbers they add, all together
abbrev pub added_by_all : List Range → Received → ℕ
added_by_all [] v = 0
added_by_all (r ∷ rs) v = added v r.from r.to + added_by_all rs (inserted v r.from r.to)

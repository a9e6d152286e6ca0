-- Ranges in a lent flat list of from, to, from, to: which it holds, what a cover answers (question 38), and every place of the list afterwards.
-- Assumes nothing.
use Rattle.std.specs.Prelude.{ℕ, zero, suc, ◌+◌, ◌-◌, ◌*◌, ◌≤◌, List, [], ◌∷◌, ◌++◌, map, Bool, cond, leb, length, get_or}
use Rattle.layout.specs.Questions.{RANGES_FIT}
use Rattle.layout.specs.Veil.{zeros}
use Rattle.rows.specs.Values.{Range}
use Rattle.put.specs.Put.{put}
use Rattle.numbers.specs.Lists.{limit_of}
use Rattle.numbers.specs.Ranges.{Received, received, range, inserted}
use Rattle.received.specs.Change.{change_of}
use Rattle.received.specs.declared.Change.{Change}
use Rattle.received.specs.declared.Received as lent
use Rattle.received.specs.declared.ReceivedMut.{ReceivedMut}
use Rattle.layout.specs.Layout.{Answer, accepted, refused_by}

-- the first k pairs, or as many as there are
unfoldable pub pairs : ℕ → List ℕ → List Range
pairs zero l = []
pairs (suc k) [] = []
pairs (suc k) (a ∷ []) = []
pairs (suc k) (a ∷ b ∷ l) = range a b ∷ pairs k l

-- a pair as a range, and the ranges of a list of pairs
abbrev pub as_range : List ℕ → Range
as_range p = range (get_or p 0 0) (get_or p 1 0)

abbrev pub ranges_of : List (List ℕ) → List Range
ranges_of ps = map as_range ps

abbrev pub received_in : ℕ → ℕ → List ℕ → Received
received_in contiguous count l = received contiguous (pairs count l)

-- what is lent to be read, and what is lent to be changed
abbrev pub received_of : lent.Received → Received
received_of r = received_in r.contiguous r.count r.above.now

abbrev pub received_then : ReceivedMut → Received
received_then r = received_in r.contiguous r.count r.above.now

abbrev pub flat : List Range → List ℕ
flat [] = []
flat (r ∷ rs) = r.from ∷ r.to ∷ flat rs

-- the list l, which held k ranges, once it holds rs: pairs that held a range and hold none any more are 0, and all behind stays
unfoldable pub stored : List Range → ℕ → List ℕ → List ℕ
stored rs k l = put l 0 (flat rs ++ zeros (2 * (k - length rs)))

-- 38
abbrev pub fits : Received → ℕ → ℕ → ℕ → Bool
fits v n f t = leb (length (inserted v f t).above) (limit_of n)

-- what a cover of f..t answers, from v, in a list of n numbers
abbrev pub plan_of : Received → ℕ → ℕ → ℕ → Answer Change
plan_of v n f t = cond (fits v n f t) (accepted (change_of v f t)) (refused_by RANGES_FIT)

-- the list l afterwards, which held the ranges of v; a refusal changes nothing
abbrev pub list_after : Received → List ℕ → ℕ → ℕ → List ℕ
list_after v l f t = cond (fits v (length l) f t) (stored (inserted v f t).above (length v.above) l) l

-- a change that can be carried out in the list l, which holds k ranges
pub record Fitting (l : List ℕ) (k : ℕ) (c : Change) : Type 0 where
  pub lent : 2 * k ≤ length l
  pub after : c.after ≤ k
  pub others : c.before + c.after ≤ k + 1
  pub room : 2 * (c.before + c.after) ≤ length l

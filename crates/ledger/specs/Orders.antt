-- Covers in another order, document 02's A11, by the ledger alone: what granted covers lead to, one after the other.
-- N is the highest message number. `Perm rs ss`, of the library, says that rs and ss are the same ranges, each as often, in some order. Assumes nothing.
use Rattle.std.specs.Prelude.{ℕ, suc, ◌+◌, Bool, cond, ◌&&◌, ◌||◌, ◌↔◌, ◌≡◌, eqb}
use mathlib.Core.List.{List, [], ◌∷◌, Perm}
use Rattle.rows.specs.Values.{Range}
use Rattle.rows.specs.Checks.{any}
use Rattle.numbers.specs.Ranges.{inside}
use Rattle.numbers.specs.Sets.{how_many}
use Rattle.ledger.specs.Call.{cover, advanced, Lent}
use Rattle.ledger.specs.Ledger.{Ledger, nothing, restored, opened, ledger}

-- the state with these ranges covered too; where no contact is open, the same
abbrev pub covered_too : List Range → Ledger → Ledger
covered_too rs nothing = nothing
covered_too rs (restored run es) = restored run es
covered_too rs (opened run es o) = opened run es (record { id = o.id; fields = o.fields; n = o.n; S = λ m. any (inside m m) rs || o.S m })

-- both ends are the same
abbrev pub same_range : Range → Range → Bool
same_range r s = eqb r.from s.from && eqb r.to s.to

-- how often a range stands in a list
abbrev pub how_often : Range → List Range → ℕ
how_often r [] = 0
how_often r (s ∷ rs) = cond (same_range s r) (suc (how_often r rs)) (how_often r rs)

module _ (N : ℕ) where
  -- how many of 1..N are covered
  abbrev pub how_many_in : Ledger → ℕ
  how_many_in nothing = 0
  how_many_in (restored run es) = 0
  how_many_in (opened run es o) = how_many o.S 1 N

  -- from the state l, granted covers of these ranges, one after the other, lead to the state m; their answers count so many new numbers in all.
  -- Each cover has lent lengths of its own
  pub data CoverCalls : (l : Ledger) → List Range → (total : ℕ) → (m : Ledger) → Type 0 where
    none : (l : Ledger) → CoverCalls l [] 0 l
    more : (l m : Ledger) (r : Range) (rs : List Range) (lent : Lent) (moved : Bool) (added total : ℕ)
        → (ledger N (cover r.from r.to) lent l).answer ≡ advanced moved added
        → CoverCalls (ledger N (cover r.from r.to) lent l).state rs total m
        → CoverCalls l (r ∷ rs) (added + total) m

  -- ---- what is proved (proofs/Orders.antt), from every state, whether calls come to it or not
  pub record OrderLaws : Type 0 where
    -- `Perm` says that each range stands in both lists as often
    pub as-often : (rs ss : List Range) → Perm rs ss ↔ ((r : Range) → how_often r rs ≡ how_often r ss)
    -- covers add all their ranges, and count together what is covered then and was not before
    pub all-added : (l m : Ledger) (rs : List Range) (x : ℕ) → CoverCalls l rs x m → m ≡ covered_too rs l
    pub all-counted : (l m : Ledger) (rs : List Range) (x : ℕ) → CoverCalls l rs x m → how_many_in l + x ≡ how_many_in m
    -- so two orders of the same ranges lead to one state, and have one total
    pub any_order : (l m k : Ledger) (rs ss : List Range) (x y : ℕ) → CoverCalls l rs x m → CoverCalls l ss y k → Perm rs ss → (m ≡ k) × (x ≡ y)

-- Covers one after the other add their ranges to the set of covered numbers, whichever comes first.
-- Assumes nothing.
use Prim.Native.Nat.{ℕ, zero, suc, ◌+◌, ◌≤◌}
use mathlib.Core.List.{List, ◌∷◌, Perm, Permᴰ}
use mathlib.Core.Bool.{Bool, true, false, cond, ◌&&◌, ◌||◌, Bool-set}
use mathlib.Core.Logic.{∥∥₁_elim}
use mathlib.Core.Path.{◌≡◌, refl, sym, ap, ◌∙◌}
use native.Mathlib.Omega.{arith}
use lib.ListN.{length}
use lib.Dec.{leb}
use Rattle.rows.specs.Values.{Range}
use Rattle.rows.specs.Checks.{any}
use Rattle.rows.proofs.Tests.{or_swap, or-joined}
use Rattle.numbers.specs.Ranges.{inside, is_range}
use Rattle.numbers.specs.Sets.{add, how_many, record_of}
use Rattle.numbers.specs.Lists.{limit_of}
use Rattle.ledger.specs.Call.{cover, Answer, granted, advanced, truth, number, wrote, said, refused, refused_at, is_granted, Lent}
use Rattle.ledger.specs.Ledger as ledgers
use Rattle.ledger.specs.Ledger.{Ledger, nothing, restored, opened, Account, ledger}
use Rattle.ledger.specs.Orders.{covered_too, how_many_in, CoverCalls, none, more, OrderLaws}
use Rattle.ledger.proofs.Granted.{Granted, asked, on-open}
use Rattle.ledger.proofs.Reordering.{as-often}

-- ---- how many numbers an answer says are new
abbrev added_in : Answer → ℕ
added_in granted = 0
added_in (advanced moved added) = added
added_in (truth b) = 0
added_in (number n) = 0
added_in (wrote n) = 0
added_in (said n line) = 0
added_in (refused q) = 0
added_in (refused_at q i) = 0

-- ---- sets
-- one number more in front of those that are counted
counted : (new old : Bool) (a b : ℕ) → a ≤ b → cond old (suc a) a ≤ cond (new || old) (suc b) b
counted true true a b h = omega arith
counted true false a b h = omega arith
counted false true a b h = omega arith
counted false false a b h = h

-- a set with more numbers added does not have fewer
not-fewer : (S : ℕ → Bool) (f t n k : ℕ) → how_many S n k ≤ how_many (add f t S) n k
not-fewer S f t n zero = omega arith
not-fewer S f t n (suc k) = counted (leb f n && leb n t) (S n) _ _ (not-fewer S f t (suc n) k)

-- whether a number is in one of some ranges does not depend on their order
same-any : (p : Range → Bool) (rs ss : List Range) → Perm rs ss → any p rs ≡ any p ss
same-any p rs ss reordered = ∥∥₁_elim reordered (Bool-set (any p rs) (any p ss)) go
  where
    go : {qs ps : List Range} → Permᴰ qs ps → any p qs ≡ any p ps
    go Permᴰ.nil = refl
    go (Permᴰ.cons e d) = λ i. p (e i) || go d i
    go (Permᴰ.swap {a = a} {b = b} {l = l} e e') = or_swap (p a) (p b) (any p l) ∙ (λ i. p (e' i) || (p (e i) || any p l))
    go (Permᴰ.trans d d') = go d ∙ go d'

module _ (N : ℕ) where
  -- ---- one cover: its range is covered too, and it says how many numbers more there are
  record Adds (r : Range) (l : Ledger) (a : Account) : Type 0 where
    state : (rs : List Range) → covered_too rs a.state ≡ covered_too (r ∷ rs) l
    count : how_many_in N l + added_in a.answer ≡ how_many_in N a.state

  cover-adds : (r : Range) (lent : Lent) (l : Ledger) → Granted (Adds r l) (ledger N (cover r.from r.to) lent l)
  unfolding ledgers.ledger
  cover-adds r lent =
      on-open N (Adds r) lent _ (λ run es o. let P : Account → Type 0 = Adds r (opened run es o) in
      asked P (is_range r.from r.to) _ _ _ (asked P (leb (length (record_of N (add r.from r.to o.S)).above) (limit_of lent.above)) _ _ _ (λ e.
      record {
        state = λ rs i. opened run es (record { id = o.id; fields = o.fields; n = o.n; S = λ m. or-joined (inside m m r) (any (inside m m) rs) (o.S m) i });
        count = omega (arith, not-fewer o.S r.from r.to 1 N);
      })))

  -- ---- covers one after the other
  all-added : {l m : Ledger} {rs : List Range} {x : ℕ} → CoverCalls N l rs x m → m ≡ covered_too rs l
  all-added (none nothing) = refl
  all-added (none (restored run es)) = refl
  all-added (none (opened run es o)) = refl
  all-added (more l m r rs lent moved added total e c) = all-added c ∙ (cover-adds r lent l (ap is_granted e)).state rs

  all-counted : {l m : Ledger} {rs : List Range} {x : ℕ} → CoverCalls N l rs x m → how_many_in N l + x ≡ how_many_in N m
  all-counted (none l) = omega arith
  all-counted (more l m r rs lent moved added total e c) = omega (arith, (cover-adds r lent l (ap is_granted e)).count, ap added_in e, all-counted c)

  same-covered : (rs ss : List Range) → Perm rs ss → (l : Ledger) → covered_too rs l ≡ covered_too ss l
  same-covered rs ss p nothing = refl
  same-covered rs ss p (restored run es) = refl
  same-covered rs ss p (opened run es o) =
      λ i. opened run es (record { id = o.id; fields = o.fields; n = o.n; S = λ m. same-any (inside m m) rs ss p i || o.S m })

  any_order : (l m k : Ledger) (rs ss : List Range) (x y : ℕ) → CoverCalls N l rs x m → CoverCalls N l ss y k → Perm rs ss → (m ≡ k) × (x ≡ y)
  any_order l m k rs ss x y c d p =
      let same : m ≡ k = all-added c ∙ same-covered rs ss p l ∙ sym (all-added d) in
      (same, omega (arith, all-counted c, all-counted d, ap (how_many_in N) same))

  pub order-laws : OrderLaws N
  order-laws = record { as-often = as-often; all-added = λ l m rs x. all-added; all-counted = λ l m rs x. all-counted; any_order = any_order }

-- The search by halves: what holds before each look, and that in numbers that rise it finds those that are there.
-- Assumes nothing.
use Prim.Native.Nat.{ℕ, zero, suc, ◌+◌, ◌-◌, ◌/◌, ◌≤◌, ◌<◌}
use mathlib.Core.List.{List}
use mathlib.Core.Bool.{Bool, true, false, cond}
use mathlib.Core.Path.{◌≡◌, refl, sym, ◌∙◌}
use native.Mathlib.Omega.{arith}
use lib.ListN.{length, get_or}
use lib.Dec.{T, eqb, ltb}
use borrow.Author.Tests.{ltb-true, ltb-false, eqb-true, eqb-false, lt-ltb, le-ltb, eq-eqb, ne_eqb}
use Rattle.rows.specs.Checks.{any, rising}
use Rattle.restore_across.proofs.Halves.{Halved, whole, nowhere, upper, lower, among}
use Rattle.calls_find.specs.Sought as sought
use Rattle.calls_find.specs.Sought.{found_in, is_found}

-- where the search looks
abbrev middle : (low high : ℕ) → ℕ
middle low high = low + (high - low) / 2

-- the fuel is enough for the numbers from low on and below high, and what is found of them is the answer
pub record Searching (numbers : List ℕ) (m low high : ℕ) (answer : Bool) : Type 0 where
  pub fuel : ℕ
  pub enough : high ≤ low + fuel
  pub same : found_in fuel numbers m low high ≡ answer

module _ (numbers : List ℕ) (m : ℕ) where
  pub begins : Searching numbers m 0 (length numbers) (is_found numbers m)
  begins = record { fuel = length numbers; enough = omega arith; same = refl }

  module _ (low high : ℕ) where
    abbrev number : ℕ
    number = get_or numbers (middle low high) 0

    none_left : (fuel : ℕ) → high ≤ low → false ≡ found_in fuel numbers m low high
    unfolding sought.found_in
    none_left zero over = refl
    none_left (suc fuel) over = rw (le-ltb low high over)

    module _ (fuel : ℕ) where
      here : low < high → number ≡ m → true ≡ found_in (suc fuel) numbers m low high
      unfolding sought.found_in
      here less is = simp (lt-ltb low high less, eq-eqb number m is)

      above : low < high → number < m → found_in (suc fuel) numbers m low high ≡ found_in fuel numbers m (middle low high + 1) high
      unfolding sought.found_in
      above less under = simp (lt-ltb low high less, ne_eqb number m (λ e. omega arith), lt-ltb number m under)

      below : low < high → m < number → found_in (suc fuel) numbers m low high ≡ found_in fuel numbers m low (middle low high)
      unfolding sought.found_in
      below less over = simp (lt-ltb low high less, ne_eqb number m (λ e. omega arith), le-ltb number m (omega arith))

    -- ---- one look
    module _ {answer : Bool} (s : Searching numbers m low high answer) where
      pub ends : high ≤ low → false ≡ answer
      ends over = none_left s.fuel over ∙ s.same

      -- some of the fuel is left
      left : {P : Type 0} → low < high → ((n : ℕ) → high ≤ low + suc n → found_in (suc n) numbers m low high ≡ answer → P) → P
      left {P} less then = go s.fuel s.enough s.same
        where
          go : (n : ℕ) → high ≤ low + n → found_in n numbers m low high ≡ answer → P
          go zero f e = absurd (omega arith)
          go (suc n) f e = then n f e

      pub found : low < high → number ≡ m → true ≡ answer
      found less is = left less (λ n f e. here n less is ∙ e)

      pub goes_above : low < high → number < m → Searching numbers m (middle low high + 1) high answer
      goes_above less under = left less (λ n f e. record { fuel = n; enough = omega arith; same = sym (above n less under) ∙ e })

      pub goes-below : low < high → m < number → Searching numbers m low (middle low high) answer
      goes-below less over = left less (λ n f e. record { fuel = n; enough = omega arith; same = sym (below n less over) ∙ e })

-- ---- numbers that rise strictly from 1, as question 22 asks
pub record Rises (numbers : List ℕ) : Type 0 where
  pub highest : ℕ
  pub rises : T (rising 1 highest numbers)

module _ (numbers : List ℕ) (up : Rises numbers) (m : ℕ) where
  abbrev Right : (fuel : ℕ) → Type 0
  Right fuel = (low high : ℕ) → high ≤ low + fuel → high ≤ length numbers → Halved m numbers low high → found_in fuel numbers m low high ≡ any (eqb m) numbers

  look : (fuel : ℕ) → Right fuel → Right (suc fuel)
  unfolding sought.found_in
  look fuel later low high enough inside halved = go (ltb low high) (eqb number m) (ltb number m) refl refl refl
    where
      mid : ℕ
      mid = middle low high

      number : ℕ
      number = get_or numbers mid 0

      go : (less equal under : Bool) → ltb low high ≡ less → eqb number m ≡ equal → ltb number m ≡ under
          → cond less (cond equal true (cond under (found_in fuel numbers m (mid + 1) high) (found_in fuel numbers m low mid))) false ≡ any (eqb m) numbers
      go false equal under p q r = nowhere halved (ltb-false low high p)
      go true true under p q r = let l = ltb-true low high p in among m numbers mid (omega arith) (sym (eqb-true number m q))
      go true false true p q r =
          let l = ltb-true low high p in
          later (mid + 1) high (omega arith) inside (upper halved 1 up.highest up.rises mid (omega arith) (ltb-true number m r))
      go true false false p q r =
          let l = ltb-true low high p in
          let ne = eqb-false number m q in
          let le = ltb-false number m r in
          later low mid (omega arith) (omega arith) (lower halved 1 up.highest up.rises mid (omega arith) (omega arith))

  right : (fuel : ℕ) → Right fuel
  unfolding sought.found_in
  right zero low high enough inside halved = nowhere halved (omega arith)
  right (suc fuel) low high enough inside halved = look fuel (right fuel) low high enough inside halved

  pub found-rising : is_found numbers m ≡ any (eqb m) numbers
  found-rising = right (length numbers) 0 (length numbers) (omega arith) (omega arith) (whole m numbers (length numbers) refl)

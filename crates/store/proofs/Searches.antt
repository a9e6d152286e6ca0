-- The first index that something holds of: what says that an index is it, and that there is one such index only.
-- Assumes nothing.
use Prim.Native.Nat.{ℕ, zero, suc, ◌+◌, ◌≤◌, ◌<◌}
use mathlib.Core.Bool.{Bool, true, false, cond}
use mathlib.Core.Path.{◌≡◌, refl}
use native.Mathlib.Omega.{arith}
use native.Mathlib.Decide.{dec_le}
use lib.Dec.{T, T_not}
use Rattle.store.specs.Find.{first_where}
use Rattle.store.proofs.Tests.{truth, false-not}

-- of n indices from the j-th on; the one behind them where there is none
pub record FirstAt (p : ℕ → Bool) (j n r : ℕ) : Type 0 where
  pub from : j ≤ r
  pub upto : r ≤ j + n
  pub hit : r < j + n → T (p r)
  pub misses : (m : ℕ) → j ≤ m → m < r → T (p m) → ⊥

pub first-at : (p : ℕ → Bool) (j n : ℕ) → FirstAt p j n (first_where p j n)
first-at p j zero = record { from = omega arith; upto = omega arith; hit = λ b. absurd (omega arith); misses = λ m a b t. omega arith }
first-at p j (suc n) = go (p j) refl (first-at p (suc j) n)
  where
    go : (t : Bool) → p j ≡ t → FirstAt p (suc j) n (first_where p (suc j) n) → FirstAt p j (suc n) (cond t j (first_where p (suc j) n))
    go true e r = record { from = omega arith; upto = omega arith; hit = λ b. truth (p j) e; misses = λ m a b t. omega arith }
    go false e r = record {
      from = omega (arith, r.from);
      upto = omega (arith, r.upto);
      hit = λ b. r.hit (omega arith);
      misses = λ m a b t. miss m a b t (dec_le (suc j) m);
    }
      where
        miss : (m : ℕ) → j ≤ m → m < first_where p (suc j) n → T (p m) → Dec (suc j ≤ m) → ⊥
        miss m a b t (yes c) = r.misses m c b t
        miss m a b t (no c) = let x : m ≡ j = omega arith in T_not (p j) (false-not (p j) e) (rw x at t)

pub one-first : (p : ℕ → Bool) (j n r s : ℕ) → FirstAt p j n r → FirstAt p j n s → r ≡ s
one-first p j n r s a b = go (dec_le r s) (dec_le s r)
  where
    go : Dec (r ≤ s) → Dec (s ≤ r) → r ≡ s
    go (yes x) (yes y) = omega arith
    go (no x) y = absurd (a.misses s b.from (omega arith) (b.hit (omega (arith, a.upto))))
    go (yes x) (no y) = absurd (b.misses r a.from (omega arith) (a.hit (omega (arith, b.upto))))

-- ... so it is the one that is defined
pub first-is : (p : ℕ → Bool) (j n r : ℕ) → FirstAt p j n r → r ≡ first_where p j n
first-is p j n r a = one-first p j n r (first_where p j n) a (first-at p j n)

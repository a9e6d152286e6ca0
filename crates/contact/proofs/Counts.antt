-- Five lists that are all long enough.
-- Assumes nothing.
use Prim.Native.Nat.{ℕ, ◌*◌, ◌/◌, ◌≤◌}
use mathlib.Core.Bool.{Bool, true, false, ◌&&◌}
use mathlib.Core.Path.{◌≡◌, refl}
use native.Mathlib.Omega.{arith}
use lib.Dec.{leb}
use borrow.Author.Tests.{leb-true}

pub both : (a b : Bool) → (a && b) ≡ true → (a ≡ true) × (b ≡ true)
both true true e = (refl, refl)
both true false e = absurd (let z : ◌≡◌ {A = ℕ} 0 1 = cc in omega arith)
both false b e = absurd (let z : ◌≡◌ {A = ℕ} 0 1 = cc in omega arith)

pub record Five (a b c d e : Bool) : Type 0 where
  pub chains : a ≡ true
  pub skipped : b ≡ true
  pub above : c ≡ true
  pub unacked : d ≡ true
  pub expired : e ≡ true

pub five : (a b c d e : Bool) → (a && b && c && d && e) ≡ true → Five a b c d e
five a b c d e all =
    let h4 = both (a && b && c && d) e all in
    let h3 = both (a && b && c) d h4.0 in
    let h2 = both (a && b) c h3.0 in
    let h1 = both a b h2.0 in
    record { chains = h1.0; skipped = h1.1; above = h2.1; unacked = h3.1; expired = h4.1 }

-- n items, in so many places
pub in-51 : (n long : ℕ) → leb n (long / 51) ≡ true → 51 * n ≤ long
in-51 n long e = omega (arith, leb-true n (long / 51) e)

pub in-46 : (n long : ℕ) → leb n (long / 46) ≡ true → 46 * n ≤ long
in-46 n long e = omega (arith, leb-true n (long / 46) e)

pub in-2 : (n long : ℕ) → leb n (long / 2) ≡ true → 2 * n ≤ long
in-2 n long e = omega (arith, leb-true n (long / 2) e)

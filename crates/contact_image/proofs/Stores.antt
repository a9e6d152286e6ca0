-- Stores one behind the other: how far they have come, and the room that is left.
-- Assumes nothing.
use Prim.Native.Nat.{ℕ, ◌+◌, ◌≤◌}
use mathlib.Core.List.{List}
use mathlib.Core.Path.{◌≡◌, ◌∙◌}
use native.Mathlib.Omega.{arith}
use lib.ListN.{length}
use Rattle.put.specs.Put.{Wrote}
use Rattle.put.proofs.Put.{wrote-long}

-- n bytes were stored from at on into l, which is now m; p is the position behind them
pub record Stored (l : List ℕ) (at n : ℕ) (m : List ℕ) (p : ℕ) : Type 0 where
  pub next : p ≡ at + n
  pub same : length m ≡ length l

pub stored : {l bs m : List ℕ} {at n p : ℕ} → (p ≡ at + n) × Wrote l at bs m p → Stored l at n m p
stored w = record { next = w.0; same = wrote-long w.1 }

infixl 20 ◌on◌
pub ◌on◌ : {l m o : List ℕ} {at n p k q : ℕ} → Stored l at n m p → Stored m p k o q → Stored l at (n + k) o q
◌on◌ f g = record { next = omega arith; same = g.same ∙ f.same }

pub room : {l m : List ℕ} {at n p : ℕ} (k : ℕ) → Stored l at n m p → at + (n + k) ≤ length l → p + k ≤ length m
room k s h = omega arith

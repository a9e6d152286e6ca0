-- The decimals of a line, a word at a time.
-- Assumes nothing.
use Prim.Native.Nat.{ℕ, suc, ◌+◌, ◌-◌, ◌≤◌, ◌<◌}
use mathlib.Core.List.{List}
use mathlib.Core.Bool.{Bool, true, ◌&&◌}
use mathlib.Core.Path.{◌≡◌}
use native.Mathlib.Omega.{arith}
use Rattle.replay_script.specs.Script as script
use Rattle.replay_script.specs.Script.{highest_at, decimals_from, is_decimal_at}

-- ---- the decimals of a line: those from the i-th on, of n
module _ (narrow i n : ℕ) (words : List (List ℕ)) where
  pub decimal-next : i < n + 1 → (right : Bool) → right ≡ is_decimal_at (highest_at narrow i) i words
      → decimals_from narrow i (n + 1 - i) words ≡ (right && decimals_from narrow (i + 1) (n + 1 - (i + 1)) words)
  unfolding script.decimals_from
  decimal-next h right e = let more : n + 1 - i ≡ suc (n + 1 - (i + 1)) = omega arith in let next : suc i ≡ i + 1 = omega arith in rw (more, ← e, next)

  pub decimals-end : n + 1 ≤ i → decimals_from narrow i (n + 1 - i) words ≡ true
  unfolding script.decimals_from
  decimals-end h = let none : n + 1 - i ≡ 0 = omega arith in rw none

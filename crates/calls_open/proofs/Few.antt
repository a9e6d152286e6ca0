-- Ranges that question 34 lets pass are so few that 64 bits hold how many numbers they have.
-- Assumes nothing.
use Prim.Native.Nat.{ℕ, zero, suc, ◌*◌, ◌^◌, ◌≤◌}
use mathlib.Core.List.{List, [], ◌∷◌}
use mathlib.Core.Path.{◌≡◌}
use native.Mathlib.Omega.{arith}
use Rattle.numbers.specs.Sets.{size_from}
use Rattle.received.specs.Lent.{pairs}
use Rattle.contact_image.specs.Row.{Words}
use Rattle.calls_open.specs.Calls.{numbers_in}

size-bound : (lowest n : ℕ) (l : List ℕ) → Words l → size_from lowest (pairs n l) ≤ n * 2 ^ 32
unfolding pairs
size-bound lowest zero l w = omega arith
size-bound lowest (suc n) [] w = omega arith
size-bound lowest (suc n) (a ∷ []) w = omega arith
size-bound lowest (suc n) (a ∷ b ∷ l) w = omega (arith, w 1, size-bound lowest n l (λ i. w (suc (suc i))))

pub few-numbers : (lowest n : ℕ) (l : List ℕ) → Words l → n ≤ 65535 → numbers_in lowest n l ≡ size_from lowest (pairs n l)
few-numbers lowest n l w few = omega (arith, size-bound lowest n l w)

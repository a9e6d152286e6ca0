-- A sealed text at a row's end, and as many zeros.
-- Assumes nothing.
use Prim.Native.Nat.{ℕ, zero, suc, ◌-◌, ◌≤◌}
use mathlib.Core.List.{List}
use mathlib.Core.Path.{◌≡◌, refl, sym, ap, ◌∙◌}
use native.Mathlib.Omega.{arith}
use lib.ListN.{length, take, drop, length-drop, length-replicate}
use Rattle.layout.specs.Veil.{zeros}
use Rattle.veil.specs.Veil.{Tail}

module _ (row text : List ℕ) (last : drop (length row - length text) row ≡ text) where
  pub long : length row - (length row - length text) ≡ length text
  long = sym (length-drop (length row - length text) row) ∙ ap (λ (l : List ℕ). length l) last

  pub tail : length text ≤ 4064 → Tail row (length row - length text)
  tail few = record { inside = omega arith; few = rw long few }

-- the first of the longest text's zeros
pub take-zeros : (n size : ℕ) → n ≤ size → take n (zeros size) ≡ zeros n
take-zeros zero size h = refl
take-zeros (suc n) zero h = absurd (omega arith)
take-zeros (suc n) (suc size) h = rw (take-zeros n size (omega arith))

pub prefix-long : {row : List ℕ} {at : ℕ} → Tail row at → length row - at ≡ length (take (length row - at) (zeros 4064))
prefix-long {row} {at} t = rw (take-zeros (length row - at) 4064 t.few, length-replicate)

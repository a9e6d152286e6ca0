-- What holds of the shape of each letter's lines, and of none, holds of every letter's.
-- Assumes nothing.
use Prim.Native.Nat.{ℕ}
use mathlib.Core.List.{[], ◌∷◌}
use mathlib.Core.Bool.{Bool, true, false, cond}
use mathlib.Core.Option.{Option, none, some}
use lib.Dec.{eqb}
use Rattle.sheet.specs.Sheet.{LETTER_D, LETTER_C, LETTER_Q, LETTER_K, Shape, device_line, contact_line, queued_line, courier_line, shape_of}

module _ (P : Option Shape → Type 0) (other : P none) (device : P (some device_line)) (contact : P (some contact_line)) (queued : P (some queued_line)) (courier : P (some courier_line)) where
  pub of-letter : (b : ℕ) → P (shape_of (b ∷ []))
  of-letter b = go (eqb b LETTER_D) (eqb b LETTER_C) (eqb b LETTER_Q) (eqb b LETTER_K)
    where
      go : (d c q k : Bool) → P (cond d (some device_line) (cond c (some contact_line) (cond q (some queued_line) (cond k (some courier_line) none))))
      go true c q k = device
      go false true q k = contact
      go false false true k = queued
      go false false false true = courier
      go false false false false = other

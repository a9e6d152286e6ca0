-- What the proofs of the rows that end in a sealed text share: the text's step of the layout, and one writer's bytes under another name.
-- Assumes nothing.
use Prim.Native.Nat.{ℕ, ◌+◌, ◌-◌, ◌≤◌}
use mathlib.Core.List.{List}
use mathlib.Core.Bool.{Bool, true, false}
use mathlib.Core.Path.{◌≡◌}
use native.Mathlib.Omega.{arith}
use lib.ListN.{length, drop, length-drop, drop_of_length-le}
use Rattle.layout.specs.Read.{refused}
use Rattle.layout.specs.Veil.{Sensitivity}
use Rattle.layout.specs.Form.{to_end}
use Rattle.layout.proofs.At.{Took}
use Rattle.put.specs.Put.{Wrote}

-- ---- the sealed text of a row: its length is allowed, or is not
module _ (s : Sensitivity) (q : ℕ) (allowed : ℕ → Bool) (row : List ℕ) (here : ℕ) where
  pub text-took : here ≤ length row → allowed (length row - here) ≡ true → Took (to_end s q allowed) row here (drop here row) (length row)
  text-took inside fit = record {
    reads = rw (length-drop here row, fit, drop_of_length-le row {i = length row} (omega arith));
    inside = omega arith;
    onward = λ l. l;
  }

  pub text-refused : allowed (length row - here) ≡ false → (to_end s q allowed).read (drop here row) ≡ refused q
  text-refused unfit = rw (length-drop here row, unfit)

-- ---- writing
pub wrote_as : {l m bs cs : List ℕ} {at p : ℕ} → cs ≡ bs → Wrote l at bs m p → (p ≡ at + length cs) × Wrote l at cs m p
wrote_as e w = rw e (w.next-is, w)

-- `contact_lent::fill_numbers` meets its contract. The invariant (`Filling`): i numbers are copied, and the next one stands in the row at p.
use Prim.Native.Nat.{ℕ}
use mathlib.Core.List.{List, [], ◌∷◌}
use Rattle.layout.specs.Form.{u32}
use Rattle.contact_lent.proofs.Fill.{Filling}
use Rattle.contact_lent.proofs.fill_numbers.Given as goal

abbrev pub one : ℕ → List ℕ
one n = n ∷ []

abbrev pub invariant-loop-i : goal.invariant-loop-i
invariant-loop-i l = Filling u32 l.row one l.first l.count l.initial.lent l.lent l.p l.i l.i

-- `data::leb128_len` meets its contract. The invariant: the bytes counted and those of what is left (`Printing`) are one more than those of the whole. The measure is what is left.
-- Assumes nothing.
use Prim.Native.Nat.{◌+◌}
use mathlib.Core.Path.{◌≡◌}
use lib.ListN.{length}
use Rattle.layout.specs.Form.{leb_print}
use Rattle.data.proofs.Leb.{Printing}
use Rattle.data.proofs.leb128_len.Given as goal

abbrev pub invariant-loop-rest : goal.invariant-loop-rest
invariant-loop-rest l = Printing (λ bs. l.n + length bs ≡ length (leb_print 4 l.value) + 1) l.rest

abbrev pub decreases-loop-rest : goal.decreases-loop-rest
decreases-loop-rest l = l.rest

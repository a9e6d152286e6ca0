-- `put_array`: what is still to be stored, stored into the buffer as it is, gives the whole.
use Prim.Native.Nat.{◌+◌}
use lib.ListN.{drop}
use Rattle.put.proofs.Put.{Writing}
use Rattle.put.proofs.put_array.Given as goal

abbrev pub invariant-loop-i : goal.invariant-loop-i
invariant-loop-i g l = Writing l.initial.out l.at l.src l.out (l.at + l.i) (drop l.i l.src)

-- `data::leb128_at` meets its contract. The invariant: what is left of the bytes answers as the whole does (`Reading`), and each way out of a turn is one of its laws.
use Prim.Native.Nat.{◌-◌}
use Rattle.data.proofs.Leb.{Reading}
use Rattle.data.proofs.leb128_at.Given as goal

abbrev pub invariant-loop-i : goal.invariant-loop-i
invariant-loop-i l = Reading l.bytes l.value l.scale (4 - l.i) l.i

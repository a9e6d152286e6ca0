-- `ascii::put_bytes` meets its contract: a turn of its loop stores the byte of a pair.
use Rattle.std.proofs.Common.{◌+◌, drop}
use Rattle.put.proofs.Put.{Writing}
use Rattle.ascii.specs.Hex.{unpaired}
use Rattle.ascii.proofs.put_bytes.Given as goal

abbrev pub invariant-loop-i : goal.invariant-loop-i
invariant-loop-i l = Writing l.initial.out l.at (unpaired l.text) l.out (l.at + l.i) (drop l.i (unpaired l.text))

-- `ascii::put_pairs` meets its contract: a turn of its loop stores the two digits of a byte.
use Rattle.std.proofs.Common.{◌+◌, ◌*◌, drop}
use Rattle.put.proofs.Put.{Writing}
use Rattle.ascii.specs.Hex.{pairs_of}
use Rattle.ascii.proofs.put_pairs.Given as goal

abbrev pub invariant-loop-i : goal.invariant-loop-i
invariant-loop-i l = Writing l.initial.out l.at (pairs_of l.bytes) l.out (l.at + 2 * l.i) (drop (2 * l.i) (pairs_of l.bytes))

-- `ascii::put_decimal` meets its contract. The invariant: the digits still to be stored, stored into the buffer as it is, give the whole.
use Rattle.std.proofs.Common.{◌≡◌, length}
use Rattle.put.specs.Put.{put}
use Rattle.numbers.specs.Decimal.{decimal}
use Rattle.ascii.proofs.LastDigits.{last_digits}
use Rattle.ascii.proofs.put_decimal.Given as goal

abbrev pub invariant-loop-i : goal.invariant-loop-i
invariant-loop-i l = (length l.out ≡ length l.initial.out) × (put l.out l.at (last_digits l.i l.rest) ≡ put l.initial.out l.at (decimal l.n))

-- `ascii::digits` meets its contract. The invariant: the digits left, behind the number so far, answer as all do.
use Rattle.std.proofs.Common.{◌≡◌, drop}
use Rattle.ascii.specs.Decimal.{says_from}
use Rattle.ascii.proofs.digits.Given as goal

abbrev pub invariant-loop-b : goal.invariant-loop-b
invariant-loop-b l = says_from l.highest l.n (drop l.b-index l.rest) ≡ says_from l.highest l.first l.rest

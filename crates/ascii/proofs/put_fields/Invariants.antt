-- `ascii::put_fields` meets its contract. The invariant: the text of the numbers left, written from here on, gives the whole.
use Rattle.std.proofs.Common.{drop}
use Rattle.put.proofs.Put.{Writing}
use Rattle.numbers.specs.Decimal.{fields_text}
use Rattle.ascii.proofs.put_fields.Given as goal

abbrev pub invariant-loop-n : goal.invariant-loop-n
invariant-loop-n l = Writing l.initial.out l.at (fields_text l.n-items) l.out l.here (fields_text (drop l.n-index l.n-items))

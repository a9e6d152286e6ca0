-- `ascii::fields_len` meets its contract. The invariant: what is counted, and the text of the numbers left, are one more than the text of all: LF.
use Rattle.std.proofs.Common.{◌≡◌, ◌+◌, ◌*◌, ◌≤◌, length, drop}
use Rattle.numbers.specs.Decimal.{fields_text}
use Rattle.ascii.proofs.fields_len.Given as goal

abbrev pub invariant-loop-n : goal.invariant-loop-n
invariant-loop-n l = (l.len ≤ 1 + 21 * l.n-index) × (l.len + length (fields_text (drop l.n-index l.n-items)) ≡ length (fields_text l.n-items) + 1)

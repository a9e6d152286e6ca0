-- `fields::big_endian` meets its contract. The invariant: n is the number in the bytes passed.
use mathlib.Core.Path.{◌≡◌}
use Rattle.layout.specs.Form.{big_endian}
use Rattle.fields.proofs.big_endian.Given as goal

abbrev pub invariant-loop-byte : goal.invariant-loop-byte
invariant-loop-byte l = l.n ≡ big_endian l.byte-index l.bytes

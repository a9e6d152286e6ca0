-- How many pairs are counted: they stand in what is counted, and are digits.
use Rattle.ascii.proofs.Blobs.{pairs-long, pairs-hex}
use Rattle.sheet.proofs.pairs_in.Goals as goal

pub returns-then-s-eq-HIGH-clause-within : goal.returns-then-s-eq-HIGH-clause-within
returns-then-s-eq-HIGH-clause-within c = rw c.hex_pairs.ensures (pairs-long c.args.rest.now)

pub returns-then-s-eq-HIGH-clause-digits : goal.returns-then-s-eq-HIGH-clause-digits
returns-then-s-eq-HIGH-clause-digits c = rw c.hex_pairs.ensures (pairs-hex c.args.rest.now)

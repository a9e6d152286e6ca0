-- `ascii::decimal_len` meets its contract: one digit more than the power of ten below; 0 has one too.
use Rattle.std.proofs.Common.{arith}
use Rattle.ascii.proofs.LastDigits.{digits-of}
use Rattle.ascii.proofs.decimal_len.Goals as goal

pub returns : goal.returns
returns c =
    let log = c.ilog10.ensures in
    let same = c.max.ensures in
    (digits-of c.ilog10.result c.args.n (omega arith) (omega arith), omega arith)

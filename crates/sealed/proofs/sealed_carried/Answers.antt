-- `sealed::sealed_carried` meets its contract: the tag taken off and not too long, the table is searched.
-- Assumes nothing.
use mathlib.Core.Path.{sym, ◌∙◌}
use borrow.Author.Rules.{rules}
use Rattle.sealed.proofs.Buckets.{carried-short, carried-long, carried-is}
use Rattle.sealed.proofs.sealed_carried.Goals as goal

pub returns-then-len-lt-TAG_LEN : goal.returns-then-len-lt-TAG_LEN
returns-then-len-lt-TAG_LEN c = sym (carried-short c.args.len c.if-len-lt-TAG_LEN.true)

pub returns-then-inner-gt-COURIER_INNER_MAX : goal.returns-then-inner-gt-COURIER_INNER_MAX
returns-then-inner-gt-COURIER_INNER_MAX c = sym (carried-long c.args.len (search rules))

pub returns : goal.returns
returns c =
    c.is_bucket.ensures ∙ sym (carried-is c.args.len c.if-len-lt-TAG_LEN.false c.if-inner-gt-COURIER_INNER_MAX.false)

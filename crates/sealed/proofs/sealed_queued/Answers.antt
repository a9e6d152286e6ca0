-- `sealed::sealed_queued` meets its contract: the tag taken off, the table is searched.
-- Assumes nothing.
use mathlib.Core.Path.{sym, ◌∙◌}
use Rattle.sealed.proofs.Buckets.{queued-short, queued-is}
use Rattle.sealed.proofs.sealed_queued.Goals as goal

pub returns-then-len-lt-TAG_LEN : goal.returns-then-len-lt-TAG_LEN
returns-then-len-lt-TAG_LEN c = sym (queued-short c.args.len c.if-len-lt-TAG_LEN.true)

pub returns : goal.returns
returns c = c.is_bucket.ensures ∙ sym (queued-is c.args.len c.if-len-lt-TAG_LEN.false)

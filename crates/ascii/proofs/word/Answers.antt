-- `ascii::word` meets its contract: what stands before the next mark, from where the word starts.
use Rattle.std.proofs.Common.{sym, ◌∙◌}
use Rattle.ascii.proofs.Words.{first_field, whole-rest}
use Rattle.ascii.proofs.word.Goals as goal

pub returns : goal.returns
returns c = first_field c.args.mark _ c.until.ensures.0 ∙ rw (whole-rest _ _) (sym c.start_of-at.ensures.1)

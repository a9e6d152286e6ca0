-- `c_card::sicklestar_utf8` meets its contract: each arm answers what the definition has for what `is_utf8` answered.
-- Assumes nothing.
use mathlib.Core.Path.{sym, ◌∙◌}
use Rattle.c_card.proofs.sicklestar_utf8.Goals as goal

pub returns-then-is_utf8 : goal.returns-then-is_utf8
returns-then-is_utf8 c = rw (sym c.is_utf8.ensures ∙ c.if-is_utf8.true)

pub returns-else-is_utf8 : goal.returns-else-is_utf8
returns-else-is_utf8 c = rw (sym c.is_utf8.ensures ∙ c.if-is_utf8.false)

-- `calls_list::put_answer` meets its contract: the six numbers fill a part of the answers (`wrote_part`).
-- Assumes nothing.
use mathlib.Core.Path.{refl}
use borrow.Author.Rules.{rules}
use Rattle.put.proofs.Put.{wrote_part}
use Rattle.calls_code.specs.Coded.{six}
use Rattle.calls_list.proofs.put_answer.Goals as goal

pub returns : goal.returns
returns c = let a = c.args in (wrote_part _ _ (six a.answer) a.at 6 c.requires refl (search rules)).now-is

-- `sheet::put_six` meets its contract: the six numbers fill a part of the records (`wrote_part`).
use mathlib.Core.Path.{refl}
use borrow.Author.Rules.{rules}
use Rattle.put.proofs.Put.{wrote_part}
use Rattle.sheet.specs.Machine.{six}
use Rattle.sheet.proofs.put_six.Goals as goal

pub returns : goal.returns
returns c = let a = c.args in (wrote_part _ _ (six a.s) a.at 6 c.requires refl (search rules)).now-is

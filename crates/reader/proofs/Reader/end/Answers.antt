-- `Reader::end` meets its contract: either a byte stands at the position, or none is left.
use mathlib.Core.Path.{sym}
use Rattle.layout.proofs.Along.{ends, goes_past}
use Rattle.reader.proofs.Reader.end.Goals as goal

pub returns-then-self : goal.returns-then-self
returns-then-self c = sym (goes_past _ _ _ c.if-self.true)

pub returns : goal.returns
returns c = sym (ends _ _ _ c.if-self.false)

-- `ascii::next_word` meets its contract: the place behind the next mark, or the end.
use Rattle.std.proofs.Common.{rules}
use Rattle.ascii.proofs.Words.{behind-space, no-space}
use Rattle.ascii.proofs.next_word.Goals as goal

pub returns-then-n-rest : goal.returns-then-n-rest
returns-then-n-rest c =
    let a = c.args in
    (search rules, behind-space a.mark a.text.now a.at c.until-n.result c.until-n.ensures.0)

pub returns : goal.returns
returns c =
    let a = c.args in
    (search rules, no-space a.mark a.text.now a.at c.until-n.result c.until-n.ensures.0 c.if-n-rest.false)

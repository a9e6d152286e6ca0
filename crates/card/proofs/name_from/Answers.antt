-- `card::name_from` meets its contract: a run stored into zeros.
use Rattle.put.proofs.Put.{filled}
use Rattle.card.proofs.name_from.Goals as goal

pub returns : goal.returns
returns c =
    let a = c.args in
    filled 48 a.n a.from a.input.now c.requires.0 c.requires.1 c.put_run.ensures.1

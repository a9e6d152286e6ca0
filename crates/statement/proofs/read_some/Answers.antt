use Rattle.statement.proofs.read_some.Goals as goal

pub returns : goal.returns
returns g c = record { got = c.read_once-got.result; moved = c.read_once-got.ensures; taken = c.take_piece.ensures }

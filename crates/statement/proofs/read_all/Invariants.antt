-- What was read is pieces (`Reads`), and each turn is one of them.
use Rattle.statement.proofs.Pieces.{Reads}
use Rattle.statement.proofs.read_all.Given as goal

abbrev pub invariant-loop : goal.invariant-loop
invariant-loop g l = Reads l.fn.run l.fn.records l.reading l.run l.records l.counter

-- What is proved of the S lines and the calls.
-- Assumes nothing.
use Rattle.statement_laws.specs.Proved.{LineLaws}
use Rattle.statement_laws.proofs.Lines.{lines-said}

pub proved : LineLaws
proved = record { lines-said = lines-said }

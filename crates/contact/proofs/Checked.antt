-- What a checked row's fact tells: its runs lie in it.
-- Assumes nothing.
use Rattle.contact.specs.Check.{Filling}
use Rattle.contact.specs.declared.CheckedRow.{CheckedRow}
use Rattle.contact.proofs.Filling.{filling}
use Rattle.contact.proofs.Placed.{placed}

pub runs-inside : (c : CheckedRow) → Filling c.row.now c.at
runs-inside c =
    let its = placed c.row.now c.bytes 3 c.read in
    filling 3 c.row.now c.at c.bytes its.1 its.0

-- The fields of a range and of a skipped key are lawful, so that both can be read along their layouts (layout's `along`).
-- Assumes nothing.
use Rattle.layout.specs.Veil.{veiled}
use Rattle.layout.proofs.Along.{Fields}
use Rattle.layout.proofs.Front.{bytes-lawful, number-lawful}
use Rattle.rows.specs.Rows.{range, skipped}
use Rattle.rows.proofs.Lawful.{dir-lawful}

pub range-fields : Fields range
range-fields = (number-lawful 4, λ from. (number-lawful 4, λ to. tt))

pub skipped-fields : Fields skipped
skipped-fields = (number-lawful 1, λ gen. (dir-lawful, λ d. (number-lawful 4, λ idx. (bytes-lawful veiled 32, λ key. (number-lawful 8, λ created. tt)))))

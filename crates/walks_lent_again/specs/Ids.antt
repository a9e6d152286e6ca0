-- What is stored of an entry.
-- Assumes nothing.
use Rattle.std.specs.Prelude.{ℕ}
use Rattle.store.specs.declared.Entry.{Entry}

abbrev pub id_of : Entry → ℕ
id_of e = e.id

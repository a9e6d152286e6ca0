-- What a row's kind has use for in its entry.
-- Assumes nothing.
use Rattle.std.specs.Prelude.{cond, eqb}
use Rattle.store.specs.declared.Entry.{Entry}
use Rattle.store.specs.Kinds.{DEVICE, QUEUED}

-- the entry with 0 for what its kind has no use for: a device's id, and the msgno of every row that is not queued
abbrev pub used : Entry → Entry
used e = record {
  id = cond (eqb e.kind DEVICE) 0 e.id;
  start = e.start;
  len = e.len;
  msgno = cond (eqb e.kind QUEUED) e.msgno 0;
  version = e.version;
  kind = e.kind;
}

-- `sheet_entries::entry_from` meets its contract.
-- Assumes nothing.
use Prim.Native.Nat.{◌*◌}
use native.Mathlib.Omega.{arith}
use Rattle.sheet_entries.proofs.Filled.{entry-is}
use Rattle.sheet_entries.proofs.entry_from.Goals as goal

pub overflow_mul-at : goal.overflow_mul-at
overflow_mul-at c = record { fits = omega (arith, c.requires) }

pub returns : goal.returns
returns c =
    let args = c.args in
    entry-is args.records.now (6 * args.i) c.field_at-kind.ensures c.number_at-id.ensures c.number_at-start.ensures c.number_at-len.ensures c.field_at-msgno.ensures c.field_at-version.ensures

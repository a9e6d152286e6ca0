-- `utf8::lead_in` meets its contract: the table's entry, taken apart, is what the first byte calls for.
use mathlib.Core.Path.{◌≡◌, ap}
use native.Mathlib.Omega.{arith}
use lib.ListN.{get_or}
use Rattle.rows.specs.Utf8.{following}
use Rattle.utf8.specs.declared.Lead.{Lead}
use Rattle.utf8.specs.Lead.{unpacked, lead_of}
use Rattle.utf8.proofs.Table.{table-laws, longest}
use Rattle.utf8.proofs.lead_in.Goals as goal
use Rattle.utf8.proofs.lead_in.Goals.{After-from}

entry : (c : After-from) → unpacked (get_or c.args.table.now c.from.result 0) ≡ lead_of (following c.args.b)
entry c = rw (c.requires, c.from.ensures) (table-laws.every-entry c.args.b (omega arith))

pub overflow_cast-result : goal.overflow_cast-result
overflow_cast-result c = omega (arith, ap (λ (l : Lead). l.len) (entry (goal.at.overflow_cast-result c).After-from), longest c.args.b)

pub returns : goal.returns
returns c = entry (goal.at.returns c).After-from

-- `reader::range_at` meets its contract: along the layout, two numbers, one behind the other.
use Rattle.std.proofs.Common.{rules, ◌≡◌, Err}
use mathlib.Core.Path.{refl, sym}
use Rattle.layout.specs.Field.{read_at}
use Rattle.layout.specs.Layout.{group}
use Rattle.layout.proofs.At.{typed}
use Rattle.layout.proofs.Along.{along, part-along}
use Rattle.rows.specs.Rows.{range}
use Rattle.reader.proofs.Fields.{range-fields}
use Rattle.reader.proofs.range_at.Goals as goal
use Rattle.reader.proofs.range_at.Goals.{After-new-reader}

reads : (c : After-new-reader) → along range c.new-reader.result.row.now c.new-reader.result.at ≡ read_at (group range) c.args.row.now c.args.at
reads c = rw (c.new-reader.ensures.0, c.new-reader.ensures.1) (sym (part-along c.args.row.now (typed _ c.type_inv.row) range range-fields c.args.at tt))

pub returns-in_err-from : goal.returns-in_err-from
returns-in_err-from c = let no : c.from_residual.result ≡ Err c.in_err-from.field-0.0 = search rules in rw (no, ← reads (goal.at.returns-in_err-from c).After-new-reader, ← c.in_err-from.ensures.0) refl

pub returns-in_err-to : goal.returns-in_err-to
returns-in_err-to c = let no : c.from_residual-in_err-to.result ≡ Err c.in_err-to.field-0.0 = search rules in rw (no, ← reads (goal.at.returns-in_err-to c).After-new-reader, ← c.in_ok-from.ensures.0, ← c.in_ok-from.ensures.1, ← c.in_err-to.ensures.0) refl

pub returns : goal.returns
returns c = rw (← reads (goal.at.returns c).After-new-reader, ← c.in_ok-from.ensures.0, ← c.in_ok-from.ensures.1, ← c.in_ok-to.ensures.0) refl

-- `reader::skipped_end` meets its contract: along the layout, five fields, one behind the other.
use Rattle.std.proofs.Common.{rules, ◌≡◌, Err}
use mathlib.Core.Path.{refl, sym}
use Rattle.layout.specs.Field.{read_at}
use Rattle.layout.specs.Layout.{group}
use Rattle.layout.proofs.At.{typed}
use Rattle.layout.proofs.Along.{along, part-along, any-run}
use Rattle.rows.specs.Rows.{skipped}
use Rattle.reader.proofs.Fields.{skipped-fields}
use Rattle.reader.proofs.skipped_end.Goals as goal
use Rattle.reader.proofs.skipped_end.Goals.{After-new-reader}

reads : (c : After-new-reader) → along skipped c.new-reader.result.row.now c.new-reader.result.at ≡ read_at (group skipped) c.args.row.now c.args.at
reads c = rw (c.new-reader.ensures.0, c.new-reader.ensures.1) (sym (part-along c.args.row.now (typed _ c.type_inv.row) skipped skipped-fields c.args.at tt))

pub returns-in_err-byte : goal.returns-in_err-byte
returns-in_err-byte c = let no : c.from_residual.result ≡ Err c.in_err-byte.field-0.0 = search rules in rw (no, ← reads (goal.at.returns-in_err-byte c).After-new-reader, ← c.in_err-byte.ensures.0) refl

pub returns-in_err-dir : goal.returns-in_err-dir
returns-in_err-dir c = let no : c.from_residual-in_err-dir.result ≡ Err c.in_err-dir.field-0.0 = search rules in rw (no, ← reads (goal.at.returns-in_err-dir c).After-new-reader, ← c.in_ok-byte.ensures.0, ← c.in_ok-byte.ensures.1, ← c.in_err-dir.ensures.0) refl

pub returns-in_err-u32 : goal.returns-in_err-u32
returns-in_err-u32 c = let no : c.from_residual-in_err-u32.result ≡ Err c.in_err-u32.field-0.0 = search rules in rw (no, ← reads (goal.at.returns-in_err-u32 c).After-new-reader, ← c.in_ok-byte.ensures.0, ← c.in_ok-byte.ensures.1, ← c.in_ok-dir.ensures.0, ← c.in_ok-dir.ensures.1, ← c.in_err-u32.ensures.0) refl

pub returns-in_err-take : goal.returns-in_err-take
returns-in_err-take c = let no : c.from_residual-in_err-take.result ≡ Err c.in_err-take.field-0.0 = search rules in rw (no, ← reads (goal.at.returns-in_err-take c).After-new-reader, ← c.in_ok-byte.ensures.0, ← c.in_ok-byte.ensures.1, ← c.in_ok-dir.ensures.0, ← c.in_ok-dir.ensures.1, ← c.in_ok-u32.ensures.0, ← c.in_ok-u32.ensures.1, any-run, ← c.in_err-take.ensures.0) refl

pub returns-in_err-u64 : goal.returns-in_err-u64
returns-in_err-u64 c = let no : c.from_residual-in_err-u64.result ≡ Err c.in_err-u64.field-0.0 = search rules in rw (no, ← reads (goal.at.returns-in_err-u64 c).After-new-reader, ← c.in_ok-byte.ensures.0, ← c.in_ok-byte.ensures.1, ← c.in_ok-dir.ensures.0, ← c.in_ok-dir.ensures.1, ← c.in_ok-u32.ensures.0, ← c.in_ok-u32.ensures.1, any-run, ← c.in_ok-take.ensures.0, ← c.in_ok-take.ensures.1, ← c.in_err-u64.ensures.0) refl

pub returns : goal.returns
returns c = rw (← reads (goal.at.returns c).After-new-reader, ← c.in_ok-byte.ensures.0, ← c.in_ok-byte.ensures.1, ← c.in_ok-dir.ensures.0, ← c.in_ok-dir.ensures.1, ← c.in_ok-u32.ensures.0, ← c.in_ok-u32.ensures.1, any-run, ← c.in_ok-take.ensures.0, ← c.in_ok-take.ensures.1, ← c.in_ok-u64.ensures.0) refl

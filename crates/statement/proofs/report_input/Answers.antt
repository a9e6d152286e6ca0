use Rattle.statement.proofs.Printed.{reports-none, reports-text}
use Rattle.statement.proofs.report_input.Goals as goal

pub returns-then-reading : goal.returns-then-reading
returns-then-reading g c = reports-none c.read_all-reading.ensures c.args.text.now c.if-reading.true

pub returns : goal.returns
returns g c = reports-text c.read_all-reading.ensures c.args.text.now c.if-reading.false c.requires.0 c.requires.1 c.report.ensures.out_after

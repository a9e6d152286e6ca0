-- `statement_report::report` meets its contract.
use Rattle.statement_report.proofs.Texts.{read-report, refused-report, as-text}
use Rattle.statement_report.proofs.report.Goals as goal

pub returns-in-Ok : goal.returns-in-Ok
returns-in-Ok c =
    let a = c.args in
    let e = c.report_read.ensures in
    let t = as-text a.out.now (read-report a.run.now a.records.now c.finish.ensures c.in-Ok.is) (e.out_after, e.records_len_bound) in
    record { out_after = t.0; records_len_bound = t.1 }

pub returns-in-Err : goal.returns-in-Err
returns-in-Err c =
    let a = c.args in
    let e = c.write_refused.ensures in
    let t = as-text a.out.now (refused-report a.run.now a.records.now c.finish.ensures c.in-Err.is c.from-number.ensures) (e.out_after, e.place_len_bound) in
    record { out_after = t.0; records_len_bound = t.1 }

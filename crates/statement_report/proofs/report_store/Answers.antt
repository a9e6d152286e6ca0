-- `statement_report::report_store` meets its contract: the text of a store is that of what restore answers.
use Rattle.statement_report.proofs.Texts.{table-granted, table-refused, as-text}
use Rattle.statement_report.proofs.report_store.Goals as goal

pub returns-in-Ok : goal.returns-in-Ok
returns-in-Ok c =
    let a = c.args in
    let e = c.write_granted.ensures in
    let t = as-text a.out.now (table-granted a.run.now a.records.now a.n c.requires.1 c.restore.result c.restore.ensures c.in-Ok.is) (e.out_after, e.next_slot_len_bound) in
    record { out_after = t.0; records_len_bound = t.1 }

pub returns-in-Err : goal.returns-in-Err
returns-in-Err c =
    let a = c.args in
    let e = c.write_refused.ensures in
    let t = as-text a.out.now (table-refused a.run.now a.records.now a.n c.requires.1 c.restore.result c.restore.ensures c.in-Err.is c.number.ensures c.from-number.ensures) (e.out_after, e.place_len_bound) in
    record { out_after = t.0; records_len_bound = t.1 }

-- `statement_report::report_read` meets its contract: no more lines and blob bytes count than there is room for.
use mathlib.Core.Path.{◌≡◌}
use native.Mathlib.Omega.{arith}
use lib.ListN.{length, take}
use lib.Seq.{length-take-le}
use Rattle.statement_report.proofs.Texts.{read-text, as-text}
use Rattle.statement_report.proofs.report_read.Goals as goal

pub report_store-requires : goal.report_store-requires
report_store-requires c =
    let inside : length (take c.min-bytes.result c.args.run.now) ≡ c.min-bytes.result = length-take-le c.min-bytes.result c.args.run.now (omega (arith, c.min-bytes.ensures, c.room_for.ensures.2)) in (
      omega (arith, inside, c.min-bytes.ensures, c.room_for.ensures.1),
      omega (arith, c.min-n.ensures, c.room_for-2.ensures.1),
    )

pub returns : goal.returns
returns c =
    let a = c.args in
    let e = c.report_store.ensures in
    let t = as-text a.out.now (read-text a.run.now a.records.now a.read c.min-bytes.ensures c.room_for.ensures.0 c.min-n.ensures c.room_for-2.ensures.0)
    (e.out_after, e.records_len_bound) in
    record { out_after = t.0; records_len_bound = t.1 }

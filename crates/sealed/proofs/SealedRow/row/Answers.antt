-- `sealed::SealedRow::row` meets its contract: what is asked first, then the room, then the row.
use Rattle.std.proofs.Common.{rules, ◌≡◌, Ok, Err, arith}
use mathlib.Core.Path.{refl, sym}
use Rattle.layout.specs.Says.{written_says}
use Rattle.layout.proofs.Write.{writes-refused, writes_short, writes-row, asked-length}
use Rattle.put.proofs.Put.{put_front}
use Rattle.sealed.proofs.SealedRow.row.Goals as goal

pub returns-in_err-n : goal.returns-in_err-n
returns-in_err-n g c =
    let no : c.from_residual.result ≡ Err c.in_err-n.field-0.0 = search rules in
    let row = g.Self.SealedRow.image c.args.self c.args.sealed.now in
    rw (no, writes-refused (g.Self.SealedRow.layout 3) row c.args.out.now (sym {a = written_says (Err c.in_err-n.field-0.0)} c.in_err-n.ensures)) refl

pub returns-then-out-n : goal.returns-then-out-n
returns-then-out-n g c =
    let row = g.Self.SealedRow.image c.args.self c.args.sealed.now in
    sym (writes_short (g.Self.SealedRow.layout 3) row c.args.out.now (sym {a = written_says (Ok c.in_ok-n.n)} c.in_ok-n.ensures) c.if-out-n.true)

pub put-requires : goal.put-requires
put-requires g c = omega (arith, asked-length _ _ (sym c.in_ok-n.ensures))

pub returns : goal.returns
returns g c =
    let row = g.Self.SealedRow.image c.args.self c.args.sealed.now in
    let fits = sym {a = written_says (Ok c.in_ok-n.n)} c.in_ok-n.ensures in
    let n = asked-length (g.Self.SealedRow.layout 3) row fits in
    rw (c.put.ensures.1.now-is, put_front c.args.out.now row (omega arith), writes-row (g.Self.SealedRow.layout 3) row c.args.out.now fits c.if-out-n.false) refl

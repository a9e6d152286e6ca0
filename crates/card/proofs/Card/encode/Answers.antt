-- `card::Card::encode` meets its contract: what is asked first, then the room, then the row.
use Rattle.std.proofs.Common.{rules, ◌≡◌, ℕ, List, Ok, Err, arith}
use mathlib.Core.Path.{sym, ap, ◌∙◌}
use Rattle.layout.specs.Says.{leaves}
use Rattle.layout.proofs.Write.{writes-refused, writes_short, writes-row, asked-length}
use Rattle.rows.specs.Rows.{card_row}
use Rattle.put.proofs.Put.{put_front}
use Rattle.card.specs.Card.{image}
use Rattle.card.proofs.Image.{asked-few}
use Rattle.card.proofs.Card.encode.Goals as goal

pub returns-in_err-n : goal.returns-in_err-n
returns-in_err-n c =
    let told : c.from_residual.result ≡ Err c.in_err-n.field-0.0 = search rules in
    rw told (sym (writes-refused card_row (image c.args.self) c.args.out.now (sym c.in_err-n.ensures)))

pub returns-then-out-n : goal.returns-then-out-n
returns-then-out-n c = sym (writes_short card_row (image c.args.self) _ (sym c.in_ok-n.ensures) c.if-out-n.true)

pub put_row-requires : goal.put_row-requires
put_row-requires c =
    (asked-few c.args.self c.typed.ensures (sym c.in_ok-n.ensures), omega (arith, asked-length card_row (image c.args.self) (sym c.in_ok-n.ensures), c.if-out-n.false))

pub returns : goal.returns
returns c =
    let out = c.args.out.now in
    let n = asked-length card_row (image c.args.self) (sym c.in_ok-n.ensures) in
    let now-is = c.put_row.ensures.1.now-is ∙ put_front out (image c.args.self) (omega (arith, n, c.if-out-n.false)) in
    ap (λ (l : List ℕ). leaves (Ok c.in_ok-n.n) l) now-is ∙ sym (writes-row card_row (image c.args.self) out (sym c.in_ok-n.ensures) c.if-out-n.false)

-- `contact_row::write_contact` meets its contract: sized, then asked for room, then stored.
use Rattle.std.proofs.Common.{rules, ◌≡◌, ℕ, List, Ok, Err, arith}
use mathlib.Core.Path.{sym, ap, ◌∙◌}
use Rattle.layout.specs.Says.{leaves}
use Rattle.put.proofs.Put.{put_front}
use Rattle.contact.specs.Contact.{read_in}
use Rattle.contact_image.specs.Row.{image}
use Rattle.contact_row.proofs.Written.{writable, length-is, left-refused, left-short, left-row}
use Rattle.contact_row.proofs.write_contact.Goals as goal

pub returns-in_err-n : goal.returns-in_err-n
returns-in_err-n c =
    let no : c.from_residual.result ≡ Err c.in_err-n.field-0.0 = search rules in
    rw no (sym (left-refused c.args.contact _ c.args.out.now (sym c.in_err-n.ensures)))

pub returns-then-out-n : goal.returns-then-out-n
returns-then-out-n c = sym (left-short c.args.contact _ c.args.out.now (sym c.in_ok-n.ensures) c.if-out-n.true)

pub put_row-requires : goal.put_row-requires
put_row-requires c =
    let n = length-is c.args.contact (read_in c.args.lists) c.args.out.now (sym c.in_ok-n.ensures) in
    writable c.args.contact c.typed.ensures.1 (read_in c.args.lists) c.lists_typed.ensures.1 c.args.out.now (sym c.in_ok-n.ensures) (omega arith)

pub returns : goal.returns
returns c =
    let lent = read_in c.args.lists in
    let n = length-is c.args.contact lent c.args.out.now (sym c.in_ok-n.ensures) in
    ap (λ (l : List ℕ). leaves (Ok c.in_ok-n.n) l) (c.put_row.ensures.1.now-is ∙ put_front c.args.out.now (image c.args.contact lent) (omega arith))
    ∙ sym (left-row c.args.contact lent c.args.out.now (sym c.in_ok-n.ensures) c.if-out-n.false)

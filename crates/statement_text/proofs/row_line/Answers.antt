-- `statement_text::row_line` meets its contract: the row is asked its questions, and the numbers of its ranges are counted.
use mathlib.Core.Path.{◌≡◌}
use Rattle.layout.specs.Says.{made}
use Rattle.layout.specs.Layout.{accepted, read_row}
use Rattle.layout.proofs.At.{typed}
use Rattle.rows.specs.Rows.{contact}
use Rattle.contact.specs.Check.{contact_at, Offsets}
use Rattle.contact.proofs.Placed.{placed}
use Rattle.statement_text.proofs.Rows.{refused-line, read-line}
use Rattle.statement_text.proofs.row_line.Goals as goal
use Rattle.statement_text.proofs.row_line.Goals.{In-Ok}

found : (c : In-Ok) → accepted c.in-Ok.at ≡ made (contact_at c.args.version) (read_row (contact c.args.version) c.args.row.now)
found c = rw c.in-Ok.is at c.check_contact.ensures

lists : (c : In-Ok) → Offsets c.args.row.now c.in-Ok.at
lists c = (placed c.args.row.now (typed c.args.row.now c.type_inv.row) c.args.version (found c)).1

pub returns-in_default : goal.returns-in_default
returns-in_default c =
    refused-line c.args.row.now (typed c.args.row.now c.type_inv.row) c.args.version c.args.id.0 c.args.queued _ c.check_contact.ensures c.in_default.not-Ok

pub numbers_in_row-beyond-requires : goal.numbers_in_row-beyond-requires
numbers_in_row-beyond-requires c = (record { next = _; so = (lists (goal.at.numbers_in_row-beyond-requires c).In-Ok).numbers.above }, c.requires)

pub numbers_in_row-expired-requires : goal.numbers_in_row-expired-requires
numbers_in_row-expired-requires c = (record { next = _; so = (lists (goal.at.numbers_in_row-expired-requires c).In-Ok).numbers.expired }, c.requires)

pub returns : goal.returns
returns c =
    read-line c.args.row.now (typed c.args.row.now c.type_inv.row) c.args.version c.args.id.0 c.args.queued (found (goal.at.returns c).In-Ok)
    c.from-sent.ensures c.from-acked.ensures c.from-contiguous.ensures c.numbers_in_row-beyond.ensures c.numbers_in_row-expired.ensures

-- What `Proved` says, all of it. Each row ends where its layout ends: the fit of its last field says so.
-- Assumes nothing.
use Rattle.layout.specs.Layout.{Layout}
use Rattle.layout.specs.Layout as layout
use Rattle.layout.specs.RowLaws.{RowLaws}
use Rattle.layout.proofs.Numbers.{one-question}
use Rattle.layout.proofs.Front.{width-laws}
use Rattle.layout.proofs.Dwarf.{leb-laws}
use Rattle.layout.proofs.Theorems.{row_laws, veil-laws}
use Rattle.rows.specs.Rows.{device, card_row, contact, queued, courier}
use Rattle.rows.specs.Proved.{Row, Proved}
use Rattle.rows.proofs.Lawful.{device-lawful, card_row-lawful, contact-lawful, queued-lawful, courier-lawful}
use Rattle.rows.proofs.Scalars.{utf8-laws}
use Rattle.rows.proofs.Meets.{meets-laws}

row : {A : Type 0} (l : Layout A) → RowLaws l → Row l
row l laws = record { laws = laws; veil = veil-laws l laws }

pub proved : Proved
unfolding layout.print
proved = record {
  device = λ version. row (device version) (row_laws (device version) (device-lawful version) (λ v rest h. h.1.1.1.1.1.1.1.0));
  card = row card_row (row_laws card_row card_row-lawful (λ v rest h. h.1.0));
  contact = λ version. row (contact version) (row_laws (contact version) (contact-lawful version)
      (λ v rest h. h.1.1.1.1.1.1.1.1.1.1.1.1.1.1.1.1.1.1.1.1.1.1.1.1.0));
  queued = λ version. row (queued version) (row_laws (queued version) (queued-lawful version) (λ v rest h. h.1.1.1.1.1.0));
  courier = λ version. row (courier version) (row_laws (courier version) (courier-lawful version) (λ v rest h. h.1.0));
  meets = meets-laws;
  one-question = one-question;
  widths = width-laws;
  leb128 = leb-laws;
  utf8 = utf8-laws;
}

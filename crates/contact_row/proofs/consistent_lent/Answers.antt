-- `contact_row::consistent_lent` meets its contract: 54 and 17 to 20, and then 21 to 24.
use Rattle.std.proofs.Common.{rules, ◌≡◌, Err}
use mathlib.Core.Path.{sym}
use Rattle.contact.proofs.Consistent.{stands, goes_on}
use Rattle.contact_row.proofs.consistent_lent.Goals as goal

pub chains_consistent-requires : goal.chains_consistent-requires
chains_consistent-requires c =
    let lent = c.requires.0 in
    record { chains_granted = lent.chains_granted; skipped_granted = lent.skipped_granted; chains = lent.chains; skipped = lent.skipped }

pub returns-in_err-chains_consistent : goal.returns-in_err-chains_consistent
returns-in_err-chains_consistent c =
    let no : c.from_residual.result ≡ Err c.in_err-chains_consistent.field-0.0 = search rules in
    rw no (stands _ c.in_err-chains_consistent.ensures (sym c.in_err-chains_consistent.ensures))

pub returns : goal.returns
returns c = goes_on c.numbers_consistent.ensures (sym c.in_ok-chains_consistent.ensures)

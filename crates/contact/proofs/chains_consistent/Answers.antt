-- `contact::chains_consistent` meets its contract: question by question.
use Prim.Native.Nat.{ℕ}
use mathlib.Core.List.{List}
use Rattle.layout.specs.RowLaws.{Bytes}
use Rattle.layout.proofs.At.{typed}
use Rattle.rows.proofs.Lawful.{chain-lawful, skipped-lawful}
use Rattle.contact_lists.proofs.Ends.{listed-fits}
use Rattle.contact_parts.specs.Offsets.{chained_from, ChainedLists}
use Rattle.contact_parts.specs.declared.ChainedAt.{ChainedAt}
use Rattle.contact.proofs.Consistent.{Listing, many-chains, two-current, gen-again, key-again, many-skipped, all-yes}
use Rattle.contact.proofs.chains_consistent.Goals as goal

-- the row has as many chains and skipped keys as were counted
counted : {row : List ℕ} {at : ChainedAt} → ChainedLists row at → Bytes row → Listing (chained_from row at).chains (chained_from row at).skipped at.chains.count at.skipped.count
counted lists by = record { chains-many = (listed-fits _ chain-lawful by lists.chains).0; skips-many = (listed-fits _ skipped-lawful by lists.skipped).0 }

pub returns-then-chains-gt-MAX_CHAINS : goal.returns-then-chains-gt-MAX_CHAINS
returns-then-chains-gt-MAX_CHAINS c = many-chains (counted c.requires (typed _ c.type_inv.row)) c.if-chains-gt-MAX_CHAINS.true

pub chains_in_row-asked-requires : goal.chains_in_row-asked-requires
chains_in_row-asked-requires c = record { next = _; so = c.requires.chains }

pub returns-then-not-asked : goal.returns-then-not-asked
returns-then-not-asked c =
    two-current (counted c.requires (typed _ c.type_inv.row)) c.if-chains-gt-MAX_CHAINS.false c.chains_in_row-asked.ensures c.if-not-asked.true

pub returns-then-not-asked-2 : goal.returns-then-not-asked-2
returns-then-not-asked-2 c =
    gen-again (counted c.requires (typed _ c.type_inv.row)) c.if-chains-gt-MAX_CHAINS.false c.chains_in_row-asked.ensures c.if-not-asked.false c.if-not-asked-2.true

pub skipped_distinct-requires : goal.skipped_distinct-requires
skipped_distinct-requires c = record { next = _; so = c.requires.skipped }

pub returns-then-not-skipped_distinct : goal.returns-then-not-skipped_distinct
returns-then-not-skipped_distinct c =
    key-again (counted c.requires (typed _ c.type_inv.row)) c.if-chains-gt-MAX_CHAINS.false c.chains_in_row-asked.ensures c.if-not-asked.false c.if-not-asked-2.false
    c.skipped_distinct.ensures c.if-not-skipped_distinct.true

pub returns-then-skipped-gt-MAX_SKIPPED : goal.returns-then-skipped-gt-MAX_SKIPPED
returns-then-skipped-gt-MAX_SKIPPED c =
    many-skipped (counted c.requires (typed _ c.type_inv.row)) c.if-chains-gt-MAX_CHAINS.false c.chains_in_row-asked.ensures c.if-not-asked.false c.if-not-asked-2.false
    c.skipped_distinct.ensures c.if-not-skipped_distinct.false c.if-skipped-gt-MAX_SKIPPED.true

pub returns : goal.returns
returns c =
    all-yes (counted c.requires (typed _ c.type_inv.row)) c.if-chains-gt-MAX_CHAINS.false c.chains_in_row-asked.ensures c.if-not-asked.false c.if-not-asked-2.false
    c.skipped_distinct.ensures c.if-not-skipped_distinct.false c.if-skipped-gt-MAX_SKIPPED.false

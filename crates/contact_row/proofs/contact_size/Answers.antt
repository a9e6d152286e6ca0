-- `contact_row::contact_size` meets its contract: 36, the card, the places, 54 and 17 to 24, and then the length.
use Rattle.std.proofs.Common.{rules, ◌≡◌, true, Err, length}
use mathlib.Core.Path.{sym, ap, ◌∙◌}
use Rattle.layout.specs.Form.{print_many}
use Rattle.layout.specs.Layout.{group}
use Rattle.layout.specs.Write.{wrote}
use Rattle.layout.proofs.Write.{asked-length}
use Rattle.rows.specs.Rows.{card_row, chain, skipped}
use Rattle.card.specs.Card as cards
use Rattle.contact_lent.specs.Lent.{Granted, chains_of, skipped_of}
use Rattle.contact_lent.proofs.Offsets.{size-granted}
use Rattle.contact.specs.Contact.{read_in}
use Rattle.contact_image.specs.Row.{counted}
use Rattle.contact_image.proofs.Counts.{all-counted}
use Rattle.contact_row.proofs.Asked.{counted_is, not-counted, bad-card, bad-chains, bad-skipped, inconsistent, whole, chains_lent, numbers_lent, size_is, sizes-few}
use Rattle.contact_row.proofs.contact_size.Goals as goal
use Rattle.contact_row.proofs.contact_size.Goals.{Else-not-counts_fit, In_ok-card, In_ok-chain_bytes, In_ok-skipped_bytes}

-- ---- what is known so far: 36, and the lengths of the card, the chains and the skipped keys
counts : (c : Else-not-counts_fit) → counted c.args.contact (read_in c.args.lists) ≡ true
counts c = counted_is c.args.contact (read_in c.args.lists) c.counts_fit.ensures ∙ c.if-not-counts_fit.false

card_is : (c : In_ok-card) → c.in_ok-card.card ≡ length (cards.image c.args.contact.peer)
card_is c = asked-length card_row (cards.image c.args.contact.peer) (sym c.in_ok-card.ensures)

chains : (c : In_ok-chain_bytes) → Granted 51 (group chain) c.args.contact.chains c.args.lists.chains.now
    × (c.in_ok-chain_bytes.chain_bytes ≡ length (print_many (group chain) (chains_of c.args.contact.chains c.args.lists.chains.now)))
chains c = size-granted 51 (group chain) c.args.contact.chains c.args.lists.chains.now (sym c.in_ok-chain_bytes.ensures)

skips : (c : In_ok-skipped_bytes) → Granted 46 (group skipped) c.args.contact.skipped c.args.lists.skipped.now
    × (c.in_ok-skipped_bytes.skipped_bytes ≡ length (print_many (group skipped) (skipped_of c.args.contact.skipped c.args.lists.skipped.now)))
skips c = size-granted 46 (group skipped) c.args.contact.skipped c.args.lists.skipped.now (sym c.in_ok-skipped_bytes.ensures)

-- ---- the answers
pub returns-then-not-counts_fit : goal.returns-then-not-counts_fit
returns-then-not-counts_fit c = sym (not-counted _ _ (counted_is c.args.contact (read_in c.args.lists) c.counts_fit.ensures ∙ c.if-not-counts_fit.true))

pub returns-in_err-card : goal.returns-in_err-card
returns-in_err-card c =
    let counts = counts (goal.at.returns-in_err-card c).Else-not-counts_fit in
    let no : c.from_residual.result ≡ Err c.in_err-card.field-0.0 = search rules in
    rw no (sym (bad-card c.typed.ensures.1 c.lists_typed.ensures.1 counts (sym c.in_err-card.ensures)))

pub returns-in_err-chain_bytes : goal.returns-in_err-chain_bytes
returns-in_err-chain_bytes c =
    let counts = counts (goal.at.returns-in_err-chain_bytes c).Else-not-counts_fit in
    let no : c.from_residual-in_err-chain_bytes.result ≡ Err c.in_err-chain_bytes.field-0.0 = search rules in
    rw no (sym (bad-chains c.typed.ensures.1 c.lists_typed.ensures.1 counts (sym c.in_ok-card.ensures) (sym c.in_err-chain_bytes.ensures)))

pub returns-in_err-skipped_bytes : goal.returns-in_err-skipped_bytes
returns-in_err-skipped_bytes c =
    let g = goal.at.returns-in_err-skipped_bytes c in
    let no : c.from_residual-in_err-skipped_bytes.result ≡ Err c.in_err-skipped_bytes.field-0.0 = search rules in
    rw no (sym (bad-skipped c.typed.ensures.1 c.lists_typed.ensures.1 (counts g.Else-not-counts_fit) (sym c.in_ok-card.ensures) (chains g.In_ok-chain_bytes).0 (sym c.in_err-skipped_bytes.ensures)))

pub consistent_lent-requires : goal.consistent_lent-requires
consistent_lent-requires c =
    let g = goal.at.consistent_lent-requires c in
    let counts = counts g.Else-not-counts_fit in
    let asked = sym c.in_ok-card.ensures in
    let chains = (chains g.In_ok-chain_bytes).0 in
    let skips = (skips g.In_ok-skipped_bytes).0 in
    (chains_lent c.typed.ensures.1 c.lists_typed.ensures.1 counts asked chains skips, numbers_lent c.typed.ensures.1 c.lists_typed.ensures.1 counts asked chains skips)

pub returns-in_err-consistent_lent : goal.returns-in_err-consistent_lent
returns-in_err-consistent_lent c =
    let g = goal.at.returns-in_err-consistent_lent c in
    let no : c.from_residual-in_err-consistent_lent.result ≡ Err c.in_err-consistent_lent.field-0.0 = search rules in
    rw no
    (sym (inconsistent c.typed.ensures.1 c.lists_typed.ensures.1 (counts g.Else-not-counts_fit) (sym c.in_ok-card.ensures) (chains g.In_ok-chain_bytes).0 (skips g.In_ok-skipped_bytes).0 (sym c.in_err-consistent_lent.ensures)))

pub row_size-requires : goal.row_size-requires
row_size-requires c =
    let g = goal.at.row_size-requires c in
    let counts = counts g.Else-not-counts_fit in
    let chains = chains g.In_ok-chain_bytes in
    let skips = skips g.In_ok-skipped_bytes in
    let all = all-counted c.args.contact (read_in c.args.lists) counts in
    let few = sizes-few c.typed.ensures.1 c.lists_typed.ensures.1 counts (sym c.in_ok-card.ensures) chains.0 skips.0 (card_is g.In_ok-card) chains.1 skips.1 in
    (few.0, few.1, few.2, all.above.few, all.unacked.few, all.expired.few)

pub returns : goal.returns
returns c =
    let g = goal.at.returns c in
    let counts = counts g.Else-not-counts_fit in
    let asked = sym c.in_ok-card.ensures in
    let chains = chains g.In_ok-chain_bytes in
    let skips = skips g.In_ok-skipped_bytes in
    ap wrote (c.row_size.ensures ∙ size_is c.typed.ensures.1 c.lists_typed.ensures.1 counts asked chains.0 skips.0 (card_is g.In_ok-card) chains.1 skips.1)
    ∙ sym (whole c.typed.ensures.1 c.lists_typed.ensures.1 counts asked chains.0 skips.0 (sym c.in_ok-consistent_lent.ensures))

-- `contact_row::chains_consistent` meets its contract: question by question.
use mathlib.Core.Path.{◌≡◌, ap, ◌∙◌}
use Rattle.layout.specs.Layout.{group}
use Rattle.layout.specs.RowLaws.{Bytes}
use Rattle.layout.proofs.At.{typed}
use Rattle.rows.specs.Checks.{keys_distinct}
use Rattle.rows.specs.Rows.{skipped as key}
use Rattle.contact_lent.specs.Lent.{chains_of, skipped_of}
use Rattle.contact_lent.proofs.Laws.{chains-printed, skipped-printed}
use Rattle.contact_checks.specs.Asked.{Placed}
use Rattle.contact_checks.proofs.Callers.{skipped-stand, skipped-items}
use Rattle.contact.specs.Contact.{Lists}
use Rattle.contact.specs.declared.Contact.{Contact}
use Rattle.contact.proofs.Consistent.{Listing, many-chains, two-current, gen-again, key-again, many-skipped, all-yes}
use Rattle.contact_image.specs.Row.{ChainsLent}
use Rattle.contact_row.proofs.chains_consistent.Goals as goal
use Rattle.contact_row.proofs.chains_consistent.Goals.{After-skipped_distinct}

-- the lent lists have as many chains and skipped keys as the contact says, and the keys lie in their places
module _ {contact : Contact} {l : Lists} (lent : ChainsLent contact l) where
  counted : Bytes l.chains → Bytes l.skipped → Listing (chains_of contact.chains l.chains) (skipped_of contact.skipped l.skipped) contact.chains contact.skipped
  counted chains skips = record {
    chains-many = (chains-printed contact.chains l.chains lent.chains_granted.reads chains lent.chains).count;
    skips-many = (skipped-printed contact.skipped l.skipped lent.skipped_granted.reads skips lent.skipped).count;
  }

  lying : Placed 46 (group key) l.skipped contact.skipped
  lying = record { room = lent.skipped; records = _; rest = _; so = lent.skipped_granted.reads }

keys : (c : After-skipped_distinct) → c.skipped_distinct.result ≡ keys_distinct (skipped_of c.args.contact.skipped c.args.skipped.now)
keys c = c.skipped_distinct.ensures ∙ ap keys_distinct (skipped-items c.args.skipped.now c.args.contact.skipped (typed _ c.type_inv.skipped) (lying c.requires))

pub returns-then-contact-gt-MAX_CHAINS : goal.returns-then-contact-gt-MAX_CHAINS
returns-then-contact-gt-MAX_CHAINS c = many-chains (counted c.requires (typed _ c.type_inv.chains) (typed _ c.type_inv.skipped)) c.if-contact-gt-MAX_CHAINS.true

pub returns-then-not-asked : goal.returns-then-not-asked
returns-then-not-asked c =
    two-current (counted c.requires (typed _ c.type_inv.chains) (typed _ c.type_inv.skipped)) c.if-contact-gt-MAX_CHAINS.false c.chains_lent-asked.ensures c.if-not-asked.true

pub returns-then-not-asked-2 : goal.returns-then-not-asked-2
returns-then-not-asked-2 c =
    gen-again (counted c.requires (typed _ c.type_inv.chains) (typed _ c.type_inv.skipped)) c.if-contact-gt-MAX_CHAINS.false c.chains_lent-asked.ensures c.if-not-asked.false c.if-not-asked-2.true

pub skipped_distinct-requires : goal.skipped_distinct-requires
skipped_distinct-requires c = skipped-stand c.args.skipped.now c.args.contact.skipped (typed _ c.type_inv.skipped) (lying c.requires)

pub returns-then-not-skipped_distinct : goal.returns-then-not-skipped_distinct
returns-then-not-skipped_distinct c =
    key-again (counted c.requires (typed _ c.type_inv.chains) (typed _ c.type_inv.skipped)) c.if-contact-gt-MAX_CHAINS.false c.chains_lent-asked.ensures c.if-not-asked.false c.if-not-asked-2.false
    (keys (goal.at.returns-then-not-skipped_distinct c).After-skipped_distinct) c.if-not-skipped_distinct.true

pub returns-then-contact-gt-MAX_SKIPPED : goal.returns-then-contact-gt-MAX_SKIPPED
returns-then-contact-gt-MAX_SKIPPED c =
    many-skipped (counted c.requires (typed _ c.type_inv.chains) (typed _ c.type_inv.skipped)) c.if-contact-gt-MAX_CHAINS.false c.chains_lent-asked.ensures c.if-not-asked.false c.if-not-asked-2.false
    (keys (goal.at.returns-then-contact-gt-MAX_SKIPPED c).After-skipped_distinct) c.if-not-skipped_distinct.false c.if-contact-gt-MAX_SKIPPED.true

pub returns : goal.returns
returns c =
    all-yes (counted c.requires (typed _ c.type_inv.chains) (typed _ c.type_inv.skipped)) c.if-contact-gt-MAX_CHAINS.false c.chains_lent-asked.ensures c.if-not-asked.false c.if-not-asked-2.false
    (keys (goal.at.returns c).After-skipped_distinct) c.if-not-skipped_distinct.false c.if-contact-gt-MAX_SKIPPED.false

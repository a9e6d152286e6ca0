-- `contact::CheckedRow::fill` meets its contract: counted, then copied; a refusal changes nothing.
use Rattle.std.proofs.Common.{◌≡◌}
use mathlib.Core.Path.{refl, sym, ap, ◌∙◌}
use Rattle.layout.specs.Layout.{accepted}
use Rattle.numbers.specs.Lists.{room_for}
use Rattle.contact.specs.Check.{contact_from, counts_at, Offsets}
use Rattle.contact.specs.Contact.{Lists, contact_of, long_enough, lengths_of, held_in}
use Rattle.contact.proofs.Placed.{placed}
use Rattle.contact.proofs.Read.{too_short, is_filled, counts-are, fillable}
use Rattle.contact.proofs.CheckedRow.fill.Goals as goal
use Rattle.contact.proofs.CheckedRow.fill.Goals.{After-long_enough}

inside : (c : After-long_enough) → Offsets c.args.self.row.now c.args.self.at
inside c = (placed c.args.self.row.now c.args.self.bytes 3 c.args.self.read).1

-- 36 is asked of the row's counts, and of the lists as they are lent
room : (c : After-long_enough) → room_for (counts_at c.args.self.at) (lengths_of (held_in c.args.lists.now)) ≡ c.long_enough.result
room c = ap (λ (l : Lists). room_for (counts_at c.args.self.at) (lengths_of l)) (sym c.read.ensures) ∙ sym c.long_enough.ensures

enough : (c : After-long_enough) → long_enough (contact_from c.args.self.row.now c.args.self.at) (held_in c.args.lists.now) ≡ c.long_enough.result
enough c = counts-are c.args.self.row.now c.args.self.bytes c.args.self.at (inside c) _ ∙ room c

pub returns-then-not-long_enough : goal.returns-then-not-long_enough
returns-then-not-long_enough c =
    let k = (goal.at.returns-then-not-long_enough c).After-long_enough in
    (sym (too_short (contact_from c.args.self.row.now c.args.self.at) _ (enough k ∙ c.if-not-long_enough.true)), (refl, refl, refl, refl, refl))

pub fill_lists-requires : goal.fill_lists-requires
fill_lists-requires c =
    let k = (goal.at.fill_lists-requires c).After-long_enough in
    fillable c.args.self.row.now c.args.self.bytes c.args.self.at (inside k) _ (room k ∙ c.if-not-long_enough.false)

pub returns : goal.returns
returns c =
    let k = (goal.at.returns c).After-long_enough in
    let v = contact_from c.args.self.row.now c.args.self.at in
    ((λ i. record { answer = accepted (contact_of v); lists = c.fill_lists.ensures.0 i }) ∙ sym (is_filled v _ (enough k ∙ c.if-not-long_enough.false)), c.fill_lists.ensures.1)

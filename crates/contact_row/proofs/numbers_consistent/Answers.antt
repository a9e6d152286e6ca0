-- `contact_row::numbers_consistent` meets its contract: question by question.
use Prim.Native.Nat.{ℕ, ◌+◌}
use mathlib.Core.Path.{◌≡◌, sym, ap, ◌∙◌}
use native.Mathlib.Omega.{arith}
use Rattle.rows.specs.Checks.{canonical}
use Rattle.received.specs.Lent.{pairs}
use Rattle.contact_checks.proofs.Callers.{canonical-lent}
use Rattle.contact.specs.Contact.{read_in}
use Rattle.contact.proofs.Consistent.{above-touch, expired-wrong, all-lawful}
use Rattle.contact_image.specs.Row.{numbers_of}
use Rattle.contact_row.proofs.numbers_consistent.Goals as goal
use Rattle.contact_row.proofs.numbers_consistent.Goals.{After-canonical_lent}

-- 23: the list is asked for no number above 2^32 - 1, and has none
above_asked : (c : After-canonical_lent) → canonical (c.args.contact.contiguous + 2) (pairs c.args.contact.above c.args.lists.above.now) ≡ c.canonical_lent.result
above_asked c =
    ap (λ (n : ℕ). canonical (n + 2) (pairs c.args.contact.above c.args.lists.above.now)) (sym c.from-from.ensures)
    ∙ sym (canonical-lent c.args.contact.above _ c.args.lists.above.now (λ i. omega (arith, c.lists_typed.ensures.1.above i))) ∙ sym c.canonical_lent.ensures

pub returns-then-not-canonical_lent : goal.returns-then-not-canonical_lent
returns-then-not-canonical_lent c =
    above-touch (numbers_of c.args.contact (read_in c.args.lists)) c.if-sent-contact.false c.rising_lent.ensures c.if-not-rising_lent.false
    (above_asked (goal.at.returns-then-not-canonical_lent c).After-canonical_lent)
    c.if-not-canonical_lent.true

pub returns-then-not-canonical_lent-2 : goal.returns-then-not-canonical_lent-2
returns-then-not-canonical_lent-2 c =
    expired-wrong (numbers_of c.args.contact (read_in c.args.lists)) c.if-sent-contact.false c.rising_lent.ensures c.if-not-rising_lent.false
    (above_asked (goal.at.returns-then-not-canonical_lent-2 c).After-canonical_lent)
    c.if-not-canonical_lent.false c.canonical_lent-2.ensures c.if-not-canonical_lent-2.true

pub returns : goal.returns
returns c =
    all-lawful (numbers_of c.args.contact (read_in c.args.lists)) c.if-sent-contact.false c.rising_lent.ensures c.if-not-rising_lent.false
    (above_asked (goal.at.returns c).After-canonical_lent)
    c.if-not-canonical_lent.false c.canonical_lent-2.ensures c.if-not-canonical_lent-2.false

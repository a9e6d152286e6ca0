-- `contact::numbers_consistent` meets its contract: question by question.
use Prim.Native.Nat.{ℕ, ◌+◌}
use mathlib.Core.Path.{◌≡◌, sym, ap, ◌∙◌}
use native.Mathlib.Omega.{arith}
use borrow.Author.Tests.{lt-leb}
use Rattle.layout.proofs.At.{typed}
use Rattle.rows.specs.Checks.{canonical}
use Rattle.contact_checks.proofs.Callers.{canonical-in-row}
use Rattle.contact_parts.specs.Offsets.{numbers_from}
use Rattle.contact.proofs.Consistent.{unacked-falls, above-touch, expired-wrong, all-lawful}
use Rattle.contact.proofs.numbers_consistent.Goals as goal
use Rattle.contact.proofs.numbers_consistent.Goals.{After-canonical_in_row}

-- 23: the row is asked for no number above 2^32 - 1, and has none
above_asked : (c : After-canonical_in_row) → canonical (c.args.at.contiguous + 2) (numbers_from c.args.row.now c.args.at).above ≡ c.canonical_in_row.result
above_asked c =
    ap (λ (n : ℕ). canonical (n + 2) (numbers_from c.args.row.now c.args.at).above) (sym c.from-from.ensures)
    ∙ sym (canonical-in-row c.args.row.now _ _ _ (typed _ c.type_inv.row) (record { next = _; so = c.requires.above })) ∙ sym c.canonical_in_row.ensures

pub returns-then-sent-at : goal.returns-then-sent-at
returns-then-sent-at c = rw (lt-leb _ _ c.if-sent-at.true)

pub rising_in_row-requires : goal.rising_in_row-requires
rising_in_row-requires c = record { next = _; so = c.requires.unacked }

pub returns-then-not-rising_in_row : goal.returns-then-not-rising_in_row
returns-then-not-rising_in_row c = unacked-falls (numbers_from c.args.row.now c.args.at) c.if-sent-at.false c.rising_in_row.ensures c.if-not-rising_in_row.true

pub canonical_in_row-requires : goal.canonical_in_row-requires
canonical_in_row-requires c = (record { next = _; so = c.requires.above }, omega arith)

pub returns-then-not-canonical_in_row : goal.returns-then-not-canonical_in_row
returns-then-not-canonical_in_row c =
    above-touch (numbers_from c.args.row.now c.args.at) c.if-sent-at.false c.rising_in_row.ensures c.if-not-rising_in_row.false
    (above_asked (goal.at.returns-then-not-canonical_in_row c).After-canonical_in_row)
    c.if-not-canonical_in_row.true

pub canonical_in_row-requires-2 : goal.canonical_in_row-requires-2
canonical_in_row-requires-2 c = (record { next = _; so = c.requires.expired }, omega arith)

pub returns-then-not-canonical_in_row-2 : goal.returns-then-not-canonical_in_row-2
returns-then-not-canonical_in_row-2 c =
    expired-wrong (numbers_from c.args.row.now c.args.at) c.if-sent-at.false c.rising_in_row.ensures c.if-not-rising_in_row.false
    (above_asked (goal.at.returns-then-not-canonical_in_row-2 c).After-canonical_in_row)
    c.if-not-canonical_in_row.false c.canonical_in_row-2.ensures c.if-not-canonical_in_row-2.true

pub returns : goal.returns
returns c =
    all-lawful (numbers_from c.args.row.now c.args.at) c.if-sent-at.false c.rising_in_row.ensures c.if-not-rising_in_row.false
    (above_asked (goal.at.returns c).After-canonical_in_row)
    c.if-not-canonical_in_row.false c.canonical_in_row-2.ensures c.if-not-canonical_in_row-2.false

-- `restore_rounds::row_verdict` meets its contract: the kind's code tells which layout the row is read by.
use Rattle.std.proofs.Common.{◌≡◌, ℕ, List, ne_eqb, rules}
use Rattle.std.proofs.Math.Option.{Option, some}
use Rattle.layout.specs.Layout as layout
use Rattle.layout.specs.Layout.{read_row}
use Rattle.store.specs.Kinds.{DEVICE, CONTACT, QUEUED, COURIER, kind_of, layout_of, refusal_in}
use Rattle.restore_rounds.proofs.row_verdict.Goals as goal

-- of no kind
no_kind : (k version : ℕ) (row : List ℕ) → (k ≡ DEVICE → ⊥) → (k ≡ CONTACT → ⊥) → (k ≡ QUEUED → ⊥) → (k ≡ COURIER → ⊥)
    → ◌≡◌ {A = Option ℕ} (some 6) (refusal_in (read_row (layout_of (kind_of k) version) row))
unfolding layout.parse
no_kind k version row d c q h = rw (ne_eqb k DEVICE d, ne_eqb k CONTACT c, ne_eqb k QUEUED q, ne_eqb k COURIER h)

pub returns-in-0 : goal.returns-in-0
returns-in-0 c = rw c.in-0.is c.device_verdict.ensures

pub returns-in-1 : goal.returns-in-1
returns-in-1 c = rw c.in-1.is c.contact_verdict.ensures

pub returns-in-2 : goal.returns-in-2
returns-in-2 c = rw c.in-2.is c.queued_verdict.ensures

pub returns-in-3 : goal.returns-in-3
returns-in-3 c = rw c.in-3.is c.courier_verdict.ensures

pub returns-in_default : goal.returns-in_default
returns-in_default c = search (rules, no_kind)

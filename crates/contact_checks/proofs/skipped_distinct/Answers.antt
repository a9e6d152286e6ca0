-- `contact_checks::skipped_distinct` meets its contract: keys that rise are distinct.
use Rattle.std.proofs.Common.{map, drop, eqb, ◌≡◌, sym, ap, ◌∙◌}
use Rattle.layout.specs.Layout.{group}
use Rattle.layout.proofs.At.{typed}
use Rattle.rows.specs.Checks.{distinct, keys_distinct}
use Rattle.rows.specs.Rows.{skipped}
use Rattle.contact_lists.specs.Lists.{items}
use Rattle.contact_checks.specs.Cells.{key_number}
use Rattle.contact_checks.proofs.Keys.{keys-asked}
use Rattle.contact_checks.proofs.Distinct.{ascending-distinct}
use Rattle.contact_checks.proofs.skipped_distinct.Goals as goal
use Rattle.contact_checks.proofs.skipped_distinct.Goals.{After-keys_at-keys}

asked : (c : After-keys_at-keys) → distinct eqb (map key_number c.keys_at-keys.result.now) ≡ keys_distinct (items (group skipped) c.args.count (drop c.args.first c.args.bytes.now))
asked c = let a = c.args in
    ap (distinct eqb) c.keys_at-keys.ensures ∙ keys-asked a.bytes.now a.first a.count c.requires (typed a.bytes.now c.type_inv.bytes)

pub returns-then-keys_rise : goal.returns-then-keys_rise
returns-then-keys_rise c =
    sym (ascending-distinct 0 (map key_number c.keys_at-keys.result.now) (sym c.keys_rise.ensures ∙ c.if-keys_rise.true)) ∙ asked (goal.at.returns-then-keys_rise c).After-keys_at-keys

pub returns-then-count-lt-FEW : goal.returns-then-count-lt-FEW
returns-then-count-lt-FEW c = c.differ_with.ensures ∙ asked (goal.at.returns-then-count-lt-FEW c).After-keys_at-keys

pub returns : goal.returns
returns c = c.differ_with-2.ensures ∙ asked (goal.at.returns c).After-keys_at-keys

-- `contact_parts::chained_at` meets its contract: along the layout, and each field at its place.
-- Assumes nothing.
use Rattle.std.proofs.Common.{rules, ◌≡◌, ◌+◌, ℕ, List, Err, arith}
use mathlib.Core.Path.{sym, ap, ◌∙◌}
use Rattle.layout.specs.RowLaws.{Bytes}
use Rattle.layout.proofs.At.{typed, took, took-next}
use Rattle.layout.proofs.Along.{Fields}
use Rattle.layout.proofs.Walk.{start, goes, stops, all}
use Rattle.offsets.specs.Offset.{offset}
use Rattle.offsets.proofs.Offset.{optional-not-past, located-at}
use Rattle.contact_parts.proofs.Walked.{refuses_here, stands_here, goes_by, stops_by}
use Rattle.std.specs.Prelude.{Option}
use Rattle.layout.specs.Layout.{group, optional}
use Rattle.layout.proofs.Derived.{optional-lawful, list_lawful}
use Rattle.rows.specs.Rows.{pending, send, chain, skipped}
use Rattle.rows.proofs.Lawful.{pending-lawful, send-lawful, chain-lawful, skipped-lawful}
use Rattle.contact_lists.specs.declared.ListAt.{ListAt}
use Rattle.contact_parts.specs.Parts.{Chained, chained}
use Rattle.contact_parts.specs.Offsets.{list_at, list_in, pending_at, send_at, chained_at}
use Rattle.contact_parts.specs.declared.PendingAt.{PendingAt}
use Rattle.contact_parts.specs.declared.SendChainAt.{SendChainAt}
use Rattle.contact_parts.proofs.Lists.{list-took, list-next, list-starts}
use Rattle.contact_parts.proofs.chained_at.Goals as goal

chained-fields : Fields chained
chained-fields = (optional-lawful (group pending) pending-lawful, λ p. (optional-lawful (group send) send-lawful, λ s. (list_lawful (group chain) chain-lawful, λ c. (list_lawful (group skipped) skipped-lawful, λ k. tt))))

its-places : (from : ℕ) (v : Chained)
    → {chains-at : ListAt} {chains-here : ℕ} → chains-at ≡ list_at (group chain) chains-here v.chains → chains-here ≡ from + offset chained 2 v
    → {skipped-at : ListAt} {skipped-here : ℕ} → skipped-at ≡ list_at (group skipped) skipped-here v.skipped → skipped-here ≡ from + offset chained 3 v
    → {pending-at : Option PendingAt} {pending-here : ℕ} → pending-at ≡ pending_at pending-here v.pending → pending-here ≡ from + offset chained 0 v
    → {send-at : Option SendChainAt} {send-here : ℕ} → send-at ≡ send_at send-here v.send → send-here ≡ from + offset chained 1 v
    → record { chains = chains-at; skipped = skipped-at; pending = pending-at; send = send-at } ≡ chained_at from v
its-places from v chains-at chains-here skipped-at skipped-here pending-at pending-here send-at send-here = λ i. record { chains = (chains-at ∙ ap (λ (n : ℕ). list_at (group chain) n v.chains) chains-here) i; skipped = (skipped-at ∙ ap (λ (n : ℕ). list_at (group skipped) n v.skipped) skipped-here) i; pending = (pending-at ∙ ap (λ (n : ℕ). pending_at n v.pending) pending-here) i; send = (send-at ∙ ap (λ (n : ℕ). send_at n v.send) send-here) i }

pub returns-in_err-pending : goal.returns-in_err-pending
returns-in_err-pending c =
    let told : c.from_residual.result ≡ Err c.in_err-pending.field-0.0 = search rules in
    rw told (refuses_here chained chained-fields _ (typed _ c.type_inv.row) _ tt (chained_at _) (stops_by (pending_at _) (start chained _ _) c.in_err-pending.ensures))

pub returns-in_err-send : goal.returns-in_err-send
returns-in_err-send c =
    let told : c.from_residual-in_err-send.result ≡ Err c.in_err-send.field-0.0 = search rules in
    rw told (refuses_here chained chained-fields _ (typed _ c.type_inv.row) _ tt (chained_at _) (stops_by (send_at _) (goes_by (pending_at _) (start chained _ _) c.in_ok-pending.ensures) c.in_err-send.ensures))

pub returns-in_err-chains : goal.returns-in_err-chains
returns-in_err-chains c =
    let told : c.from_residual-in_err-chains.result ≡ Err c.in_err-chains.field-0.0 = search rules in
    rw told (refuses_here chained chained-fields _ (typed _ c.type_inv.row) _ tt (chained_at _) (stops (goes_by (send_at _) (goes_by (pending_at _) (start chained _ _) c.in_ok-pending.ensures) c.in_ok-send.ensures) c.in_err-chains.ensures.0))

pub returns-in_err-skipped : goal.returns-in_err-skipped
returns-in_err-skipped c =
    let told : c.from_residual-in_err-skipped.result ≡ Err c.in_err-skipped.field-0.0 = search rules in
    rw told (refuses_here chained chained-fields _ (typed _ c.type_inv.row) _ tt (chained_at _) (stops (goes (goes_by (send_at _) (goes_by (pending_at _) (start chained _ _) c.in_ok-pending.ensures) c.in_ok-send.ensures) c.in_ok-chains.ensures.0) c.in_err-skipped.ensures.0))

pub returns : goal.returns
returns c =
    let row : List ℕ = c.args.row.now in
    let by : Bytes row = typed row c.type_inv.row in
    let pending-its = located-at (pending_at _) _ (sym c.in_ok-pending.ensures) in
    let send-its = located-at (send_at _) _ (sym c.in_ok-send.ensures) in
    let pending-took = took _ _ (optional (group pending)) (optional-lawful (group pending) pending-lawful) by pending-its.read in
    let send-took = took _ _ (optional (group send)) (optional-lawful (group send) send-lawful) by send-its.read in
    let pending-next = took-next _ _ (optional (group pending)) (optional-lawful (group pending) pending-lawful) by pending-its.read (optional-not-past _ _ (group pending) pending-its.read) in
    let send-next = took-next _ _ (optional (group send)) (optional-lawful (group send) send-lawful) by send-its.read pending-took.inside in
    let chains-took = list-took (group chain) chain-lawful row by _ c.in_ok-chains.chains c.in_ok-chains.ensures.0 in
    let chains-next = list-next (group chain) chain-lawful row by _ c.in_ok-chains.chains c.in_ok-chains.ensures.0 send-took.inside in
    let its : Chained = record {
      pending = pending-its.value;
      send = send-its.value;
      chains = list_in (group chain) row c.in_ok-chains.chains;
      skipped = list_in (group skipped) row c.in_ok-skipped.skipped;
    } in
    stands_here chained chained-fields _ (typed _ c.type_inv.row) _ tt (chained_at _) {v = its} (all (goes (goes (goes_by (send_at _) (goes_by (pending_at _) (start chained _ _) c.in_ok-pending.ensures) c.in_ok-send.ensures) c.in_ok-chains.ensures.0) c.in_ok-skipped.ensures.0))
    (its-places c.args.at its
    (list-starts (group chain) chain-lawful row by _ c.in_ok-chains.chains c.in_ok-chains.ensures.0 send-took.inside c.in_ok-chains.ensures.1)
    (omega (arith, pending-next, send-next))
    (list-starts (group skipped) skipped-lawful row by _ c.in_ok-skipped.skipped c.in_ok-skipped.ensures.0 chains-took.inside c.in_ok-skipped.ensures.1)
    (omega (arith, pending-next, send-next, chains-next))
    pending-its.place
    (omega arith)
    send-its.place
    (omega (arith, pending-next)))

-- `contact_parts::numbers_at` meets its contract: along the layout, and each field at its place.
-- Assumes nothing.
use Rattle.std.proofs.Common.{rules, ◌≡◌, ◌+◌, ℕ, List, Err, arith}
use mathlib.Core.Path.{refl, sym, ap, ◌∙◌}
use Rattle.layout.specs.RowLaws.{Bytes}
use Rattle.layout.proofs.At.{typed, took}
use Rattle.layout.proofs.Along.{Fields}
use Rattle.layout.proofs.Walk.{start, goes, stops, all}
use Rattle.offsets.specs.Offset.{offset}
use Rattle.offsets.proofs.Runs.{field-ends}
use Rattle.contact_parts.proofs.Walked.{refuses_here, stands_here}
use Rattle.layout.specs.Form.{u32}
use Rattle.layout.specs.Layout.{group}
use Rattle.layout.proofs.Front.{number-lawful}
use Rattle.layout.proofs.Derived.{list_lawful}
use Rattle.rows.specs.Rows.{range}
use Rattle.rows.proofs.Lawful.{range-lawful}
use Rattle.contact_lists.specs.declared.ListAt.{ListAt}
use Rattle.contact_parts.specs.Parts.{Numbers, numbers}
use Rattle.contact_parts.specs.Offsets.{list_at, list_in, numbers_at}
use Rattle.contact_parts.proofs.Lists.{list-took, list-next, list-starts}
use Rattle.contact_parts.proofs.numbers_at.Goals as goal

numbers-fields : Fields numbers
numbers-fields = (number-lawful 4, λ a. (number-lawful 4, λ r. (number-lawful 4, λ m. (number-lawful 4, λ c. (list_lawful (group range) range-lawful, λ above. (list_lawful u32 (number-lawful 4), λ unacked. (list_lawful (group range) range-lawful, λ expired. tt)))))))

its-places : (from : ℕ) (v : Numbers)
    → {above-at : ListAt} {above-here : ℕ} → above-at ≡ list_at (group range) above-here v.above → above-here ≡ from + offset numbers 4 v
    → {unacked-at : ListAt} {unacked-here : ℕ} → unacked-at ≡ list_at u32 unacked-here v.unacked → unacked-here ≡ from + offset numbers 5 v
    → {expired-at : ListAt} {expired-here : ℕ} → expired-at ≡ list_at (group range) expired-here v.expired → expired-here ≡ from + offset numbers 6 v
    → record { above = above-at; unacked = unacked-at; expired = expired-at; peer_acked = v.peer_acked; peer_read = v.peer_read; read_marked = v.read_marked; contiguous = v.contiguous } ≡ numbers_at from v
its-places from v above-at above-here unacked-at unacked-here expired-at expired-here = λ i. record { above = (above-at ∙ ap (λ (n : ℕ). list_at (group range) n v.above) above-here) i; unacked = (unacked-at ∙ ap (λ (n : ℕ). list_at u32 n v.unacked) unacked-here) i; expired = (expired-at ∙ ap (λ (n : ℕ). list_at (group range) n v.expired) expired-here) i; peer_acked = v.peer_acked; peer_read = v.peer_read; read_marked = v.read_marked; contiguous = v.contiguous }

pub returns-in_err-peer_acked : goal.returns-in_err-peer_acked
returns-in_err-peer_acked c =
    let told : c.from_residual.result ≡ Err c.in_err-peer_acked.field-0.0 = search rules in
    rw told (refuses_here numbers numbers-fields _ (typed _ c.type_inv.row) _ tt (numbers_at _) (stops (start numbers _ _) c.in_err-peer_acked.ensures))

pub returns-in_err-peer_read : goal.returns-in_err-peer_read
returns-in_err-peer_read c =
    let told : c.from_residual-in_err-peer_read.result ≡ Err c.in_err-peer_read.field-0.0 = search rules in
    rw told (refuses_here numbers numbers-fields _ (typed _ c.type_inv.row) _ tt (numbers_at _) (stops (goes (start numbers _ _) c.in_ok-peer_acked.ensures) c.in_err-peer_read.ensures))

pub returns-in_err-read_marked : goal.returns-in_err-read_marked
returns-in_err-read_marked c =
    let told : c.from_residual-in_err-read_marked.result ≡ Err c.in_err-read_marked.field-0.0 = search rules in
    rw told (refuses_here numbers numbers-fields _ (typed _ c.type_inv.row) _ tt (numbers_at _) (stops (goes (goes (start numbers _ _) c.in_ok-peer_acked.ensures) c.in_ok-peer_read.ensures) c.in_err-read_marked.ensures))

pub returns-in_err-contiguous : goal.returns-in_err-contiguous
returns-in_err-contiguous c =
    let told : c.from_residual-in_err-contiguous.result ≡ Err c.in_err-contiguous.field-0.0 = search rules in
    rw told (refuses_here numbers numbers-fields _ (typed _ c.type_inv.row) _ tt (numbers_at _) (stops (goes (goes (goes (start numbers _ _) c.in_ok-peer_acked.ensures) c.in_ok-peer_read.ensures) c.in_ok-read_marked.ensures) c.in_err-contiguous.ensures))

pub returns-in_err-above : goal.returns-in_err-above
returns-in_err-above c =
    let told : c.from_residual-in_err-above.result ≡ Err c.in_err-above.field-0.0 = search rules in
    rw told (refuses_here numbers numbers-fields _ (typed _ c.type_inv.row) _ tt (numbers_at _) (stops (goes (goes (goes (goes (start numbers _ _) c.in_ok-peer_acked.ensures) c.in_ok-peer_read.ensures) c.in_ok-read_marked.ensures) c.in_ok-contiguous.ensures) c.in_err-above.ensures.0))

pub returns-in_err-unacked : goal.returns-in_err-unacked
returns-in_err-unacked c =
    let told : c.from_residual-in_err-unacked.result ≡ Err c.in_err-unacked.field-0.0 = search rules in
    rw told (refuses_here numbers numbers-fields _ (typed _ c.type_inv.row) _ tt (numbers_at _) (stops (goes (goes (goes (goes (goes (start numbers _ _) c.in_ok-peer_acked.ensures) c.in_ok-peer_read.ensures) c.in_ok-read_marked.ensures) c.in_ok-contiguous.ensures) c.in_ok-above.ensures.0) c.in_err-unacked.ensures.0))

pub returns-in_err-expired : goal.returns-in_err-expired
returns-in_err-expired c =
    let told : c.from_residual-in_err-expired.result ≡ Err c.in_err-expired.field-0.0 = search rules in
    rw told (refuses_here numbers numbers-fields _ (typed _ c.type_inv.row) _ tt (numbers_at _) (stops (goes (goes (goes (goes (goes (goes (start numbers _ _) c.in_ok-peer_acked.ensures) c.in_ok-peer_read.ensures) c.in_ok-read_marked.ensures) c.in_ok-contiguous.ensures) c.in_ok-above.ensures.0) c.in_ok-unacked.ensures.0) c.in_err-expired.ensures.0))

pub returns : goal.returns
returns c =
    let row : List ℕ = c.args.row.now in
    let by : Bytes row = typed row c.type_inv.row in
    let peer_acked-next = field-ends _ _ u32 (number-lawful 4) by refl c.in_ok-peer_acked.ensures in
    let peer_read-next = field-ends _ _ u32 (number-lawful 4) by refl c.in_ok-peer_read.ensures in
    let read_marked-next = field-ends _ _ u32 (number-lawful 4) by refl c.in_ok-read_marked.ensures in
    let contiguous-next = field-ends _ _ u32 (number-lawful 4) by refl c.in_ok-contiguous.ensures in
    let contiguous-took = took _ _ u32 (number-lawful 4) by (sym c.in_ok-contiguous.ensures) in
    let above-took = list-took (group range) range-lawful row by _ c.in_ok-above.above c.in_ok-above.ensures.0 in
    let above-next = list-next (group range) range-lawful row by _ c.in_ok-above.above c.in_ok-above.ensures.0 contiguous-took.inside in
    let unacked-took = list-took u32 (number-lawful 4) row by _ c.in_ok-unacked.unacked c.in_ok-unacked.ensures.0 in
    let unacked-next = list-next u32 (number-lawful 4) row by _ c.in_ok-unacked.unacked c.in_ok-unacked.ensures.0 above-took.inside in
    let its : Numbers = record {
      peer_acked = c.in_ok-peer_acked.peer_acked;
      peer_read = c.in_ok-peer_read.peer_read;
      read_marked = c.in_ok-read_marked.read_marked;
      contiguous = c.in_ok-contiguous.contiguous;
      above = list_in (group range) row c.in_ok-above.above;
      unacked = list_in u32 row c.in_ok-unacked.unacked;
      expired = list_in (group range) row c.in_ok-expired.expired;
    } in
    stands_here numbers numbers-fields _ (typed _ c.type_inv.row) _ tt (numbers_at _) {v = its} (all (goes (goes (goes (goes (goes (goes (goes (start numbers _ _) c.in_ok-peer_acked.ensures) c.in_ok-peer_read.ensures) c.in_ok-read_marked.ensures) c.in_ok-contiguous.ensures) c.in_ok-above.ensures.0) c.in_ok-unacked.ensures.0) c.in_ok-expired.ensures.0))
    (its-places c.args.at its
    (list-starts (group range) range-lawful row by _ c.in_ok-above.above c.in_ok-above.ensures.0 contiguous-took.inside c.in_ok-above.ensures.1)
    (omega (arith, peer_acked-next, peer_read-next, read_marked-next, contiguous-next))
    (list-starts u32 (number-lawful 4) row by _ c.in_ok-unacked.unacked c.in_ok-unacked.ensures.0 above-took.inside c.in_ok-unacked.ensures.1)
    (omega (arith, peer_acked-next, peer_read-next, read_marked-next, contiguous-next, above-next))
    (list-starts (group range) range-lawful row by _ c.in_ok-expired.expired c.in_ok-expired.ensures.0 unacked-took.inside c.in_ok-expired.ensures.1)
    (omega (arith, peer_acked-next, peer_read-next, read_marked-next, contiguous-next, above-next, unacked-next)))

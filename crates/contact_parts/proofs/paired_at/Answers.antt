-- `contact_parts::paired_at` meets its contract: along the layout, and each field at its place.
-- Assumes nothing.
use Rattle.std.proofs.Common.{rules, ◌≡◌, ◌+◌, ℕ, List, take, drop, Err, arith}
use mathlib.Core.Path.{refl, sym, ap, ◌∙◌}
use Rattle.layout.specs.Veil.{plain}
use Rattle.layout.specs.RowLaws.{Bytes}
use Rattle.layout.proofs.At.{typed}
use Rattle.layout.proofs.Along.{Fields}
use Rattle.layout.proofs.Walk.{start, goes, stops, runs, cut, all}
use Rattle.offsets.specs.Offset.{offset}
use Rattle.offsets.proofs.Offset.{located-at}
use Rattle.offsets.proofs.Runs.{run-starts, field-ends}
use Rattle.contact_parts.proofs.Walked.{refuses_here, stands_here, goes_by, stops_by}
use Rattle.layout.specs.Questions.{CARD_END}
use Rattle.layout.specs.Layout.{group}
use Rattle.layout.proofs.Front.{bytes-lawful}
use Rattle.layout.proofs.Derived.{sized-lawful}
use Rattle.rows.specs.Rows.{role, mode, verification, card}
use Rattle.rows.proofs.Lawful.{role-lawful, mode-lawful, verification-lawful, card-lawful}
use Rattle.contact_parts.specs.Parts.{Paired, paired}
use Rattle.contact_parts.specs.Offsets.{card_at, paired_at}
use Rattle.contact_parts.specs.declared.CardOffset.{CardOffset}
use Rattle.contact_parts.proofs.paired_at.Goals as goal

paired-fields : Fields paired
paired-fields = (role-lawful, λ r. (mode-lawful, λ u. (verification-lawful, λ v. (bytes-lawful plain 16, λ p. (bytes-lawful plain 48, λ t. (bytes-lawful plain 16, λ n. (sized-lawful (group card) card-lawful CARD_END, λ c. tt)))))))

its-places : (from : ℕ) (v : Paired)
    → {pair-id-at : ℕ} → pair-id-at ≡ from + offset paired 3 v
    → {th-at : ℕ} → th-at ≡ from + offset paired 4 v
    → {nonce-b-at : ℕ} → nonce-b-at ≡ from + offset paired 5 v
    → {card-at : CardOffset} {card-here : ℕ} → card-at ≡ card_at card-here v.card → card-here ≡ from + offset paired 6 v
    → record { pair_id = pair-id-at; th = th-at; nonce_b = nonce-b-at; card = card-at; role = v.role; verification = v.verification } ≡ paired_at from v
its-places from v pair-id-at th-at nonce-b-at card-at card-here = λ i. record { pair_id = pair-id-at i; th = th-at i; nonce_b = nonce-b-at i; card = (card-at ∙ ap (λ (n : ℕ). card_at n v.card) card-here) i; role = v.role; verification = v.verification }

pub returns-in_err-role : goal.returns-in_err-role
returns-in_err-role c =
    let told : c.from_residual.result ≡ Err c.in_err-role.field-0.0 = search rules in
    rw told (refuses_here paired paired-fields _ (typed _ c.type_inv.row) _ tt (paired_at _) (stops (start paired _ _) c.in_err-role.ensures))

pub returns-in_err-at2 : goal.returns-in_err-at2
returns-in_err-at2 c =
    let told : c.from_residual-in_err-at2.result ≡ Err c.in_err-at2.field-0.0 = search rules in
    rw told (refuses_here paired paired-fields _ (typed _ c.type_inv.row) _ tt (paired_at _) (stops (goes (start paired _ _) c.in_ok-role.ensures) c.in_err-at2.ensures))

pub returns-in_err-verification : goal.returns-in_err-verification
returns-in_err-verification c =
    let told : c.from_residual-in_err-verification.result ≡ Err c.in_err-verification.field-0.0 = search rules in
    rw told (refuses_here paired paired-fields _ (typed _ c.type_inv.row) _ tt (paired_at _) (stops (goes (goes (start paired _ _) c.in_ok-role.ensures) c.in_ok-at2.ensures) c.in_err-verification.ensures))

pub returns-in_err-pair_id : goal.returns-in_err-pair_id
returns-in_err-pair_id c =
    let told : c.from_residual-in_err-pair_id.result ≡ Err c.in_err-pair_id.field-0.0 = search rules in
    rw told (refuses_here paired paired-fields _ (typed _ c.type_inv.row) _ tt (paired_at _) (cut plain 16 (goes (goes (goes (start paired _ _) c.in_ok-role.ensures) c.in_ok-at2.ensures) c.in_ok-verification.ensures) c.in_err-pair_id.ensures.0))

pub returns-in_err-th : goal.returns-in_err-th
returns-in_err-th c =
    let told : c.from_residual-in_err-th.result ≡ Err c.in_err-th.field-0.0 = search rules in
    rw told (refuses_here paired paired-fields _ (typed _ c.type_inv.row) _ tt (paired_at _) (cut plain 48 (runs plain 16 (goes (goes (goes (start paired _ _) c.in_ok-role.ensures) c.in_ok-at2.ensures) c.in_ok-verification.ensures) c.in_ok-pair_id.ensures.0) c.in_err-th.ensures.0))

pub returns-in_err-nonce_b : goal.returns-in_err-nonce_b
returns-in_err-nonce_b c =
    let told : c.from_residual-in_err-nonce_b.result ≡ Err c.in_err-nonce_b.field-0.0 = search rules in
    rw told (refuses_here paired paired-fields _ (typed _ c.type_inv.row) _ tt (paired_at _) (cut plain 16 (runs plain 48 (runs plain 16 (goes (goes (goes (start paired _ _) c.in_ok-role.ensures) c.in_ok-at2.ensures) c.in_ok-verification.ensures) c.in_ok-pair_id.ensures.0) c.in_ok-th.ensures.0) c.in_err-nonce_b.ensures.0))

pub returns-in_err-card : goal.returns-in_err-card
returns-in_err-card c =
    let told : c.from_residual-in_err-card.result ≡ Err c.in_err-card.field-0.0 = search rules in
    rw told (refuses_here paired paired-fields _ (typed _ c.type_inv.row) _ tt (paired_at _) (stops_by (card_at _) (runs plain 16 (runs plain 48 (runs plain 16 (goes (goes (goes (start paired _ _) c.in_ok-role.ensures) c.in_ok-at2.ensures) c.in_ok-verification.ensures) c.in_ok-pair_id.ensures.0) c.in_ok-th.ensures.0) c.in_ok-nonce_b.ensures.0) c.in_err-card.ensures))

pub returns : goal.returns
returns c =
    let row : List ℕ = c.args.row.now in
    let by : Bytes row = typed row c.type_inv.row in
    let card-its = located-at (card_at _) _ (sym c.in_ok-card.ensures) in
    let role-next = field-ends _ _ role role-lawful by refl c.in_ok-role.ensures in
    let mode-next = field-ends _ _ mode mode-lawful by refl c.in_ok-at2.ensures in
    let verification-next = field-ends _ _ verification verification-lawful by refl c.in_ok-verification.ensures in
    let pair_id-run = run-starts row _ 16 by (omega arith) c.in_ok-pair_id.ensures.0 c.in_ok-pair_id.ensures.1 in
    let th-run = run-starts row _ 48 by (omega arith) c.in_ok-th.ensures.0 c.in_ok-th.ensures.1 in
    let nonce_b-run = run-starts row _ 16 by (omega arith) c.in_ok-nonce_b.ensures.0 c.in_ok-nonce_b.ensures.1 in
    let its : Paired = record {
      role = c.in_ok-role.role;
      verification = c.in_ok-verification.verification;
      pair_id = take 16 (drop c.in_ok-pair_id.pair_id row);
      th = take 48 (drop c.in_ok-th.th row);
      nonce_b = take 16 (drop c.in_ok-nonce_b.nonce_b row);
      card = card-its.value;
    } in
    stands_here paired paired-fields _ (typed _ c.type_inv.row) _ tt (paired_at _) {v = its} (all (goes_by (card_at _) (runs plain 16 (runs plain 48 (runs plain 16 (goes (goes (goes (start paired _ _) c.in_ok-role.ensures) c.in_ok-at2.ensures) c.in_ok-verification.ensures) c.in_ok-pair_id.ensures.0) c.in_ok-th.ensures.0) c.in_ok-nonce_b.ensures.0) c.in_ok-card.ensures))
    (its-places c.args.at its
    (omega (arith, role-next, mode-next, verification-next, pair_id-run.starts))
    (omega (arith, role-next, mode-next, verification-next, pair_id-run.ends, th-run.starts))
    (omega (arith, role-next, mode-next, verification-next, pair_id-run.ends, th-run.ends, nonce_b-run.starts))
    card-its.place
    (omega (arith, role-next, mode-next, verification-next, pair_id-run.ends, th-run.ends, nonce_b-run.ends)))

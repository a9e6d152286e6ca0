-- Contacts alike outside veiled fields: their numbers are the same, and so are how many items their lists have.
-- Assumes nothing.
use Prim.Native.Nat.{ℕ}
use mathlib.Core.List.{List}
use mathlib.Core.Path.{◌≡◌, refl, sym, ap, ap₂, ◌∙◌}
use lib.ListN.{length}
use Rattle.layout.specs.Veil.{veil}
use Rattle.layout.specs.Form.{u32}
use Rattle.layout.specs.Layout.{group, list}
use Rattle.layout.specs.Layout as layout
use Rattle.layout.proofs.Derived.{list-plain, list-as-long}
use Rattle.rows.specs.Values.{Range, Contact}
use Rattle.rows.specs.Rows.{chain, skipped, range}
use Rattle.numbers.specs.Ranges.{Received, received}
use Rattle.store.specs.Veiled.{ContactAlike}
use Rattle.ledger.specs.Call.{Lent}
use Rattle.ledger.specs.Ledger.{with_numbers, covered_by, enough, fitting}

ranges-plain : (rs : List Range) → (list (group range)).blank veil rs ≡ rs
unfolding layout.blank_of
ranges-plain rs = list-plain (group range) veil (λ r. refl) rs

-- with the same other numbers they are alike
pub alike-with : (v v' : Contact) (n : ℕ) (r : Received) → ContactAlike v v' → ContactAlike (with_numbers n r v) (with_numbers n r v')
unfolding layout.blank_of
alike-with v v' n r e = ap (λ (c : Contact). with_numbers n (received r.contiguous ((list (group range)).blank veil r.above)) c) e

module _ (v v' : Contact) (e : ContactAlike v v') where
  pub sent-alike : v.sent_msgno ≡ v'.sent_msgno
  unfolding layout.blank_of
  sent-alike = ap (λ (c : Contact). c.sent_msgno) e

  pub acked-alike : v.peer_acked ≡ v'.peer_acked
  unfolding layout.blank_of
  acked-alike = ap (λ (c : Contact). c.peer_acked) e

  contiguous-alike : v.contiguous ≡ v'.contiguous
  unfolding layout.blank_of
  contiguous-alike = ap (λ (c : Contact). c.contiguous) e

  above-alike : v.above ≡ v'.above
  unfolding layout.blank_of
  above-alike = sym (ranges-plain v.above) ∙ ap (λ (c : Contact). c.above) e ∙ ranges-plain v'.above

  pub expired-alike : v.expired ≡ v'.expired
  unfolding layout.blank_of
  expired-alike = sym (ranges-plain v.expired) ∙ ap (λ (c : Contact). c.expired) e ∙ ranges-plain v'.expired

  unacked-alike : v.unacked ≡ v'.unacked
  unfolding layout.blank_of
  unacked-alike = sym (list-plain u32 veil (λ n. refl) v.unacked) ∙ ap (λ (c : Contact). c.unacked) e ∙ list-plain u32 veil (λ n. refl) v'.unacked

  chains-alike : length v.chains ≡ length v'.chains
  unfolding layout.blank_of
  chains-alike = list-as-long (group chain) veil v.chains v'.chains (ap (λ (c : Contact). c.chains) e)

  skipped-alike : length v.skipped ≡ length v'.skipped
  unfolding layout.blank_of
  skipped-alike = list-as-long (group skipped) veil v.skipped v'.skipped (ap (λ (c : Contact). c.skipped) e)

  -- the same numbers are covered, and the same lists are long enough
  pub covered-alike : covered_by v ≡ covered_by v'
  covered-alike = ap₂ (λ (c : ℕ) (rs : List Range). covered_by (with_numbers 0 (received c rs) v)) contiguous-alike above-alike

  pub enough-alike : (l : Lent) → enough v l ≡ enough v' l
  enough-alike l = rw (chains-alike, skipped-alike, above-alike, unacked-alike, expired-alike)

  pub fitting-alike : (l : Lent) → fitting v l ≡ fitting v' l
  fitting-alike l = rw (chains-alike, skipped-alike, above-alike, unacked-alike, expired-alike)

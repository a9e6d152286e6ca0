-- What is handed in of what was left stands for the ledger's state; and what is known of a contact that was just opened.
-- Assumes nothing.
use Prim.Native.Nat.{ℕ, ◌+◌, ◌^◌, ◌≤◌}
use mathlib.Core.Path.{◌≡◌, sym, ap, ◌∙◌, subst}
use Rattle.layout.specs.RowLaws.{Valid}
use Rattle.rows.specs.Values.{Contact}
use Rattle.rows.specs.Rows.{contact}
use Rattle.numbers.specs.Ranges.{Received, received}
use Rattle.numbers.specs.Sets.{record_of, Records}
use Rattle.received.proofs.Proved.{proved}
use Rattle.contact.specs.Contact.{contact_of}
use Rattle.contact.specs.declared.Contact.{Contact as Struct}
use Rattle.calls_step.specs.declared.Mark.{Mark}
use Rattle.calls_step.specs.Input.{Input}
use Rattle.ledger.specs.Ledger.{Ledger, nothing, restored, opened, open_of, covered_by, with_numbers, covered, current}
use Rattle.calls_step.specs.Legal.{SameStore, SameLists, Continues, StoreAgain, FieldsAgain}
use Rattle.calls_step.specs.Stands.{StandsFor, LastLeft}
use Rattle.calls_step.proofs.Numbers.{known}
use Rattle.calls_step.proofs.Laid.{laid-again}

module _ (N : ℕ) where
  -- what is handed in of it stands for the state
  pub continued-stands : (l : Ledger) (g h : Input) → LastLeft N l g → Continues g h → StandsFor N l h
  continued-stands nothing g h k e = record { stands = λ i. record { mark = sym (e.mark ∙ k) i; run = h.run; entries = h.entries; contact = h.contact; lists = h.lists; out = h.out } }
  continued-stands (restored run es) g h k e =
      let s : SameStore g h = subst (λ (m : Mark). StoreAgain m g h) k.0 e.store in
      record {
        stands = λ i. record {
          mark = sym (e.mark ∙ k.0) i;
          run = sym (s.run ∙ k.1.run) i;
          entries = sym (s.entries ∙ k.1.entries) i;
          contact = h.contact;
          lists = h.lists;
          out = h.out;
        };
      }
  continued-stands (opened run es o) g h k e =
      let s : SameStore g h = subst (λ (m : Mark). StoreAgain m g h) k.0 e.store in
      let f : (h.contact ≡ g.contact) × SameLists g.contact g.lists h.lists = subst (λ (m : Mark). FieldsAgain m g h) k.0 e.fields in
      let c : SameLists (contact_of (current N o)) g.lists h.lists = subst (λ (c : Struct). SameLists c g.lists h.lists) k.2.contact f.1 in
      record {
        stands = λ i. record {
          mark = sym (e.mark ∙ k.0) i;
          run = sym (s.run ∙ k.1.run) i;
          entries = sym (s.entries ∙ k.1.entries) i;
          contact = sym (f.0 ∙ k.2.contact) i;
          lists = laid-again (current N o) g.lists h.lists k.2.lists c i;
          out = h.out;
        };
      }

  -- ---- just opened: the fields are those of the row
  module _ (k : ℕ) (v : Contact) (wide : 256 ^ 4 ≤ N + 1) (valid : Valid (contact 3) v) where
    open-records : Records N (covered_by v) (received v.contiguous v.above)
    open-records = let d = known N v wide valid in proved.of-canonical N (received v.contiguous v.above) d.canon d.contiguous d.above

    pub open-covered : record_of N (covered_by v) ≡ received v.contiguous v.above
    open-covered = (proved.records open-records).scanned

    pub current-open : current N (open_of k v) ≡ v
    current-open = ap (λ (r : Received). with_numbers v.sent_msgno r v) open-covered

    pub records-open : Records N (covered_by v) (covered N (open_of k v))
    records-open = subst (Records N (covered_by v)) (sym open-covered) open-records

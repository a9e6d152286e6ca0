-- What a writer of contact rows leaves, from what was asked before the output.
-- Assumes nothing.
use Prim.Native.Nat.{ℕ, ◌≤◌, ◌<◌}
use mathlib.Core.List.{List, ◌++◌}
use mathlib.Core.Bool.{Bool, true, false, cond}
use mathlib.Core.Path.{◌≡◌, refl, sym, ap, ◌∙◌}
use lib.ListN.{length, drop}
use Rattle.layout.specs.Questions.{LISTS, OUTPUT}
use Rattle.layout.specs.Read.{Read, value, refused}
use Rattle.layout.specs.Form.{times}
use Rattle.layout.specs.Layout.{group}
use Rattle.layout.specs.Write.{Written, wrote, refuses, asked, writes}
use Rattle.layout.proofs.Write.{wrote≢refuses, writes-refused, writes_short, writes-row, asked-length}
use Rattle.rows.specs.Values as value
use Rattle.rows.specs.Rows.{card_row, chain, skipped, contact}
use Rattle.card.specs.Card as cards
use Rattle.card.proofs.Image.{asked-few}
use Rattle.contact_lists.specs.Places.{read_places}
use Rattle.contact_lent.specs.Lent.{size_of, Granted}
use Rattle.contact_lent.proofs.Offsets.{granted}
use Rattle.contact.specs.Contact.{Lists}
use Rattle.contact.specs.declared.Contact.{Contact}
use Rattle.contact_image.specs.Row as spec
use Rattle.contact_image.specs.Row.{counted, image, asked_contact, writes_contact, ContactTyped, ListsTyped, Writable}
use Rattle.contact_row.proofs.Asked.{not-counted, bad-card, bad-chains, bad-skipped}

module _ (c : Contact) (ty : ContactTyped c) (l : Lists) (lt : ListsTyped l) where
  -- ---- where a length was answered, the row can be stored
  pub writable : {n : ℕ} (out : List ℕ) → asked_contact c l ≡ wrote n → length (image c l) ≤ length out → Writable c l out
  writable {n} out e room = counts (counted c l) refl
    where
      skips : (t : counted c l ≡ true) {k : ℕ} → (a : asked card_row (cards.image c.peer) ≡ wrote k) → Granted 51 (group chain) c.chains l.chains
          → (x : Read (List value.Skipped)) → read_places 46 (group skipped) c.skipped l.skipped ≡ x → Writable c l out
      skips t a g (value ks rest) r = record { counts = t; name = asked-few c.peer ty.peer a; chains = g; skipped = granted 46 (group skipped) c.skipped l.skipped r; room = room }
      skips t a g (refused q) r =
          absurd (wrote≢refuses (sym e ∙ bad-skipped ty lt t a g {q = q} (ap (λ (x : Read (List value.Skipped)). size_of (times (group skipped) c.skipped) x) r)))

      chains : (t : counted c l ≡ true) {k : ℕ} → asked card_row (cards.image c.peer) ≡ wrote k → (x : Read (List value.Chain)) → read_places 51 (group chain) c.chains l.chains ≡ x → Writable c l out
      chains t a (value cs rest) r = skips t a (granted 51 (group chain) c.chains l.chains r) (read_places 46 (group skipped) c.skipped l.skipped) refl
      chains t a (refused q) r = absurd (wrote≢refuses (sym e ∙ bad-chains ty lt t a {q = q} (ap (λ (x : Read (List value.Chain)). size_of (times (group chain) c.chains) x) r)))

      card : counted c l ≡ true → (x : Written) → asked card_row (cards.image c.peer) ≡ x → Writable c l out
      card t (wrote k) a = chains t a (read_places 51 (group chain) c.chains l.chains) refl
      card t (refuses q) a = absurd (wrote≢refuses (sym e ∙ bad-card ty lt t {q = q} a))

      counts : (t : Bool) → counted c l ≡ t → Writable c l out
      counts true t = card t (asked card_row (cards.image c.peer)) refl
      counts false t = absurd (wrote≢refuses (sym e ∙ not-counted c l t))

-- ---- what is left
module _ (c : Contact) (l : Lists) (out : List ℕ) where
  asks-row : {n : ℕ} → asked_contact c l ≡ wrote n → (counted c l ≡ true) × (asked (contact 3) (image c l) ≡ wrote n)
  unfolding spec.asked_contact
  asks-row {n} e = go (counted c l) refl e
    where
      go : (t : Bool) → counted c l ≡ t → cond t (asked (contact 3) (image c l)) (refuses LISTS) ≡ wrote n → (counted c l ≡ true) × (asked (contact 3) (image c l) ≡ wrote n)
      go true t h = (t, h)
      go false t h = absurd (wrote≢refuses (sym h))

  pub length-is : {n : ℕ} → asked_contact c l ≡ wrote n → n ≡ length (image c l)
  length-is e = asked-length (contact 3) (image c l) (asks-row e).1

  pub left-refused : {q : ℕ} → asked_contact c l ≡ refuses q → writes_contact c l out ≡ record { answer = refuses q; out = out }
  unfolding spec.asked_contact spec.writes_contact
  left-refused {q} e = go (counted c l) e
    where
      go : (t : Bool) → cond t (asked (contact 3) (image c l)) (refuses LISTS) ≡ refuses q
          → cond t (writes (contact 3) (image c l) out) (record { answer = refuses LISTS; out = out }) ≡ record { answer = refuses q; out = out }
      go true h = writes-refused (contact 3) (image c l) out h
      go false h = let same : LISTS ≡ q = cc in rw same

  pub left-short : {n : ℕ} → asked_contact c l ≡ wrote n → length out < n → writes_contact c l out ≡ record { answer = refuses OUTPUT; out = out }
  unfolding spec.writes_contact
  left-short e h = rw (asks-row e).0 (writes_short (contact 3) (image c l) out (asks-row e).1 h)

  pub left-row : {n : ℕ} → asked_contact c l ≡ wrote n → n ≤ length out → writes_contact c l out ≡ record { answer = wrote n; out = image c l ++ drop (length (image c l)) out }
  unfolding spec.writes_contact
  left-row e h = rw (asks-row e).0 (writes-row (contact 3) (image c l) out (asks-row e).1 h)

-- What is read in rows.
-- Assumes nothing.
use Prim.Native.Nat.{ℕ, ◌≤◌}
use mathlib.Core.List.{List, []}
use mathlib.Core.Bool.{Bool, true, false, cond}
use mathlib.Core.Option.{Option, none, some}
use mathlib.Core.Path.{◌≡◌, refl, sym, ap, ◌∙◌, subst}
use native.Mathlib.Omega.{arith}
use lib.Dec.{T, eqb}
use borrow.Author.Tests.{le-ltb}
use Rattle.layout.specs.Questions.{UNACKED}
use Rattle.layout.specs.Read.{first}
use Rattle.layout.specs.Form.{u32}
use Rattle.layout.specs.Form as form
use Rattle.layout.specs.Layout.{Layout, done, field, ask, refusal_of, Answer, accepted, refused_by, read_row}
use Rattle.layout.specs.Layout as layout
use Rattle.layout.specs.RowLaws.{Bytes}
use Rattle.rows.specs.Values.{Contact}
use Rattle.rows.specs.Rows as rows
use Rattle.rows.proofs.Proved.{proved}
use Rattle.contact_lists.specs.Lists as lists
use Rattle.contact_lists.proofs.Ends.{none_left}
use Rattle.store.specs.Kinds.{contact, contact_sight, seen_of, refusal_in}
use Rattle.store.proofs.Rounds.{some≢none}
use Rattle.layout.specs.Says.{made}
use Rattle.contact.specs.Check.{contact_at, contact_from, Offsets}
use Rattle.contact.specs.declared.ContactAt.{ContactAt}
use Rattle.contact.proofs.Placed.{placed}
use Rattle.contact_known.specs.Known.{Sent}
use Rattle.contact_known.specs.declared.SentAt.{SentAt}
use Rattle.std.specs.Prelude.{None, Some}
use Rattle.store.specs.Omitted.{Omitted, omitted_seen}
use Rattle.store.specs.Store.{part_of}
use Rattle.store.specs.declared.Entry.{Entry}
use Rattle.restore_across.specs.Across.{Across, OwnerFor}
use Rattle.restore_across.specs.Owner.{contact_seen, owner_at, owner_read, owner_in, owner_omitted, no_owner, OwnerStands, OwnerIn}
use Rattle.restore_across.specs.declared.Owner.{Owner}

-- ---- question q of a layout is a yes for a value that no question refuses
second : (a b : Option ℕ) → first a b ≡ none → b ≡ none
second none b e = e
second (some p) b e = absurd (let z : ◌≡◌ {A = ℕ} 0 1 = cc in omega arith)

either : (b c : Bool) → T c → T (cond b true c)
either true c t = tt
either false c t = t

module _ {A : Type 0} (q : ℕ) where
  abbrev yes_to : Layout A → A → Bool
  yes_to (done a) v = true
  yes_to (field f get k) v = yes_to (k (get v)) v
  yes_to (ask p t k) v = cond (eqb p q) t (yes_to k v)

  said-yes : (l : Layout A) (v : A) → refusal_of l v ≡ none → T (yes_to l v)
  unfolding layout.refusal_of
  said-yes (done a) v e = tt
  said-yes (field f get k) v e = said-yes (k (get v)) v (second (f.refusal (get v)) (refusal_of (k (get v)) v) e)
  said-yes (ask p true k) v e = either (eqb p q) (yes_to k v) (said-yes k v e)
  said-yes (ask p false k) v e = absurd (let z : ◌≡◌ {A = ℕ} 0 1 = cc in omega arith)

-- ---- a contact that was accepted, and its unacked numbers
abbrev pub sent_owner : SentAt → Owner
sent_owner at = record { unacked = at.unacked.first; count = at.unacked.count; sent_msgno = at.sent_msgno }

found : (version : ℕ) (row : List ℕ) (at : ContactAt) → Bytes row
    → read_row (rows.contact version) row ≡ accepted (contact_from row at) → Offsets row at → OwnerStands (contact_seen version row) row (owner_at at)
found version row at by e p = (
  sym (ap (seen_of contact) e),
  record {
    stands = record { next = at.numbers.unacked.next; so = p.numbers.unacked };
    highest = at.keys.sent_msgno;
    rises = said-yes UNACKED (rows.contact version) (contact_from row at) ((proved.contact version).laws.read-valid row by (contact_from row at) e).granted;
  },
)

-- ---- no unacked numbers
pub bare : (row : List ℕ) (sent : ℕ) → OwnerStands (contact_sight sent []) row (record { unacked = 0; count = 0; sent_msgno = sent })
unfolding lists.items form.read_many
bare row sent = (
  refl,
  record {
    stands = record { next = 0; so = record { starts = omega arith; ends = none_left u32 row 0 0 0 refl (omega arith) } };
    highest = 0;
    rises = tt;
  },
)

-- what is found in a row that is known to be accepted is what is seen of it
pub owner-read : (row : List ℕ) → Bytes row → {r : SentAt} → Sent row r → OwnerIn row (sent_owner r)
owner-read row by {r} sent version known = go (read_row (rows.contact version) row) refl
  where
    go : (a : Answer Contact) → read_row (rows.contact version) row ≡ a → (sent_owner r ≡ owner_in version row) × OwnerStands (contact_seen version row) row (sent_owner r)
    go (accepted v) e =
        let at = contact_at version v in
        let stands = placed row by version {at = at} (ap (made (contact_at version)) (sym e)) in
        subst (λ (o : Owner). (o ≡ owner_in version row) × OwnerStands (contact_seen version row) row o) (sym (ap sent_owner (sent version v e)))
        (ap (owner_read version) (sym e), found version row at by stands.0 stands.1)
    go (refused_by q) e = absurd (some≢none (sym (ap (λ (a : Answer Contact). refusal_in a) e) ∙ known))

-- ... and of the one left out
pub omitted-for : (omitted : Omitted) (row : List ℕ) → OwnerStands (omitted_seen omitted) row (owner_omitted omitted)
omitted-for None row = bare row 0
omitted-for (Some o) row = bare row o.sent_msgno

-- no contact was found
pub none-found : (run : List ℕ) (omitted : Omitted) (c : Entry) (p upto : ℕ) (s : Across) → upto ≤ p → OwnerFor run omitted c p upto s no_owner
none-found run omitted c p upto s past = rw (le-ltb p upto past) (λ known. (refl, λ kept. bare (part_of run c) 0))

-- The contacts of a store that restore grants: each is the row of one entry, which is the contact's only one.
-- Assumes nothing.
use Prim.Native.Nat.{ℕ, zero, suc, ◌<◌}
use mathlib.Core.List.{List, [], ◌∷◌}
use mathlib.Core.Bool.{Bool, true, false, cond}
use mathlib.Core.Option.{some}
use mathlib.Core.Path.{◌≡◌, refl, sym, ◌∙◌}
use native.Mathlib.Omega.{arith}
use lib.ListN.{length}
use lib.Dec.{eqb, T}
use borrow.Author.Tests.{eqb-true, eqb-false}
use Rattle.layout.specs.Layout.{Answer, accepted, refused_by, read_row}
use Rattle.layout.specs.RowLaws.{Bytes}
use Rattle.rows.specs.Values.{Contact}
use Rattle.rows.specs.Rows as rows
use Rattle.store.specs.declared.Entry.{Entry}
use Rattle.store.specs.Rounds.{Going}
use Rattle.store.specs.Kinds.{CONTACT, contact, kind_of}
use Rattle.store.specs.Store.{store_of, entry_at, is_of, part_of, ContactRow, contacts_as, contacts_in, answer_of, asked, contact_in}
use Rattle.store.proofs.Parts.{bytes-part}
use Rattle.store.proofs.Tests.{truth, holds, is-of, of_is}
use Rattle.store.proofs.Accepted.{granted-accepted}
use Rattle.statement_text.proofs.Text.{as-contact, not_found, other-kind}

-- ---- the entry of a contact that was found
pub record FromEntry (run : List ℕ) (es : List Entry) (c : ContactRow) : Type 0 where
  pub place : ℕ
  pub below : place < length es
  pub kind-is : (entry_at es place).kind ≡ CONTACT
  pub id-is : (entry_at es place).id ≡ c.id
  pub read : read_row (rows.contact (entry_at es place).version) (part_of run (entry_at es place)) ≡ accepted c.fields

abbrev pub AllFrom : List ℕ → List Entry → List ContactRow → Type 0
AllFrom run es [] = Unit {0}
AllFrom run es (c ∷ cs) = FromEntry run es c × AllFrom run es cs

module _ (run : List ℕ) (e : Entry) where
  later : (es : List Entry) (cs : List ContactRow) → AllFrom run es cs → AllFrom run (e ∷ es) cs
  later es [] f = tt
  later es (c ∷ cs) f =
      let x = f.0 in
      (record { place = suc x.place; below = omega (arith, x.below); kind-is = x.kind-is; id-is = x.id-is; read = x.read }, later es cs f.1)

  -- one entry more
  with_row : (es : List Entry) (a : Answer Contact) (cs : List ContactRow) → e.kind ≡ CONTACT → read_row (rows.contact e.version) (part_of run e) ≡ a → AllFrom run es cs
      → AllFrom run (e ∷ es) (contacts_as contact e.id a cs)
  with_row es (accepted v) cs k r f = (record { place = 0; below = omega arith; kind-is = k; id-is = refl; read = r }, later es cs f)
  with_row es (refused_by q) cs k r f = later es cs f

  with-entry : (all es : List Entry) (cs : List ContactRow) → AllFrom run es cs → AllFrom run (e ∷ es) (contacts_as (kind_of e.kind) e.id (answer_of (store_of run all) e) cs)
  with-entry all es cs f = go (eqb e.kind CONTACT) refl
    where
      go : (t : Bool) → eqb e.kind CONTACT ≡ t → AllFrom run (e ∷ es) (contacts_as (kind_of e.kind) e.id (answer_of (store_of run all) e) cs)
      go true h =
          rw (as-contact e.kind e.version e.id (part_of run e) cs (eqb-true _ _ h))
          (with_row es (read_row (rows.contact e.version) (part_of run e)) cs (eqb-true _ _ h) refl f)
      go false h = rw (not_found (kind_of e.kind) e.id (answer_of (store_of run all) e) cs (other-kind e.kind (eqb-false _ _ h))) (later es cs f)

pub all_from : (run : List ℕ) (all es : List Entry) → AllFrom run es (contacts_in (store_of run all) es)
all_from run all [] = tt
all_from run all (e ∷ es) = with-entry run e all es (contacts_in (store_of run all) es) (all_from run all es)

-- ---- it is the one that open finds
first-in : (es : List Entry) (k j : ℕ) → j < length es → T (is_of CONTACT k (entry_at es j)) → ((i : ℕ) → i < j → T (is_of CONTACT k (entry_at es i)) → ⊥)
    → contact_in es k ≡ some (entry_at es j)
first-in [] k j b t alone = absurd (omega (arith, b))
first-in (e ∷ es) k zero b t alone = rw (holds (is_of CONTACT k e) t)
first-in (e ∷ es) k (suc j) b t alone = go (is_of CONTACT k e) refl (first-in es k j (omega (arith, b)) t (λ i h. alone (suc i) (omega (arith, h))))
  where
    go : (x : Bool) → is_of CONTACT k e ≡ x → contact_in es k ≡ some (entry_at es j) → cond x (some e) (contact_in es k) ≡ some (entry_at es j)
    go true p later = absurd (alone 0 (omega arith) (truth (is_of CONTACT k e) p))
    go false p later = later

pub opens-it : (run : List ℕ) (es : List Entry) (c : ContactRow) → Bytes run → asked (store_of run es) ≡ Going → (f : FromEntry run es c) → contact_in es c.id ≡ some (entry_at es f.place)
opens-it run es c by going f =
    first-in es c.id f.place f.below (of_is CONTACT c.id (entry_at es f.place) f.kind-is f.id-is)
    (λ i h t. let p = is-of CONTACT c.id (entry_at es i) t in
    (granted-accepted (store_of run es) (bytes-part run by) going).across.contacts-new f.place i f.below h
    (record { one = f.kind-is; other = p.0; same = p.1 ∙ sym f.id-is }))

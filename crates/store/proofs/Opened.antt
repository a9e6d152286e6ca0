-- The store of question 34, with opened fields in place of the contact's row: just opened, and in two runs.
-- Assumes nothing.
use Prim.Native.Nat.{ℕ, ◌≤◌, ◌<◌}
use mathlib.Core.List.{List}
use mathlib.Core.Bool.{Bool, true, false, cond}
use mathlib.Core.Path.{◌≡◌, refl, sym, ap, ◌∙◌, subst}
use native.Mathlib.Omega.{arith}
use native.Mathlib.Decide.{dec_le}
use lib.ListN.{length}
use lib.Dec.{eqb, T, eqb→eq}
use Rattle.layout.specs.Questions.{VERSION}
use Rattle.layout.specs.Read.{refused}
use Rattle.layout.specs.Veil.{Outside}
use Rattle.layout.specs.Layout.{Layout, ask, parse, print, answer, accepted, refused_by, read_row, veiled_bytes}
use Rattle.layout.specs.Layout as layout
use Rattle.layout.specs.RowLaws.{Bytes, Valid}
use Rattle.rows.specs.Values.{Contact}
use Rattle.rows.specs.Rows as rows
use Rattle.rows.proofs.Proved.{proved}
use Rattle.store.specs.declared.Entry.{Entry}
use Rattle.store.specs.Rounds.{Going}
use Rattle.store.specs.Kinds.{CONTACT, contact, kind_of, layout_of, seen_of, refusal_in}
use Rattle.store.specs.Store.{entry_at, is_of, part_of, store_of, opened_in, asked}
use Rattle.store.specs.Accepted.{Accepted}
use Rattle.store.specs.Veiled.{VeilEqual, FieldsAlike}
use Rattle.store.proofs.Parts.{part-long, bytes-part}
use Rattle.store.proofs.Tests.{truth, is-of}
use Rattle.store.proofs.ByKind.{row-of, SameSight, same-sight, seen_alike}
use Rattle.store.proofs.Same.{SameSightAt, agree-asked}
use Rattle.store.proofs.Accepted.{granted-accepted}

-- ---- the opened fields, read back
pub opened-read : (c : Contact) → Valid (rows.contact 3) c → read_row (rows.contact 3) (print (rows.contact 3) c) ≡ accepted c
opened-read c v = (proved.contact 3).laws.print-read c v

-- another version is refused, whatever the bytes
ask-no : {A : Type 0} (l : Layout A) (q : ℕ) (t : Bool) (row : List ℕ) → t ≡ false → read_row (ask q t l) row ≡ refused_by q
unfolding layout.parse
ask-no l q t row e = ap (λ (t : Bool). answer (cond t (parse l row) (refused q))) e

pub other-version : (version : ℕ) (row : List ℕ) → eqb version 3 ≡ false → read_row (rows.contact version) row ≡ refused_by VERSION
other-version version row e = ask-no _ VERSION (eqb version 3) row e

-- ---- just opened: nothing has changed
module _ (run : List ℕ) (es : List Entry) (k : ℕ) (c : Contact) where
  same_rows : ((i : ℕ) → i < length es → T (is_of CONTACT k (entry_at es i)) → print (rows.contact 3) c ≡ part_of run (entry_at es i)) → asked (store_of run es) ≡ asked (opened_in run es k c)
  same_rows h = agree-asked (store_of run es) (opened_in run es k c).row_of (λ i b. go i b (is_of CONTACT k (entry_at es i)) refl)
    where
      reads : (e : Entry) (r r' : List ℕ) → r ≡ r' → SameSight (kind_of e.kind) (read_row (layout_of (kind_of e.kind) e.version) r) (read_row (layout_of (kind_of e.kind) e.version) r')
      reads e r r' p = record {
        refusals = ap (λ (x : List ℕ). refusal_in (read_row (layout_of (kind_of e.kind) e.version) x)) p;
        sights = ap (λ (x : List ℕ). seen_of (kind_of e.kind) (read_row (layout_of (kind_of e.kind) e.version) x)) p;
      }

      go : (i : ℕ) → i < length es → (t : Bool) → is_of CONTACT k (entry_at es i) ≡ t → SameSightAt (store_of run es) (λ e. cond t (print (rows.contact 3) c) (part_of run e)) (entry_at es i)
      go i b true p = reads (entry_at es i) (part_of run (entry_at es i)) (print (rows.contact 3) c) (sym (h i b (truth (is_of CONTACT k (entry_at es i)) p)))
      go i b false p = reads (entry_at es i) (part_of run (entry_at es i)) (part_of run (entry_at es i)) refl

  module _ (by : Bytes run) (g : asked (store_of run es) ≡ Going) (j : ℕ) (b : j < length es) (t : T (is_of CONTACT k (entry_at es j))) where
    -- no other entry is of this contact
    alone : (i : ℕ) → i < length es → T (is_of CONTACT k (entry_at es i)) → j ≡ i
    alone i d u = go (dec_le i j) (dec_le j i) (is-of CONTACT k (entry_at es i) u) (is-of CONTACT k (entry_at es j) t)
      where
        a : Accepted (store_of run es)
        a = granted-accepted (store_of run es) (bytes-part run by) g

        go : Dec (i ≤ j) → Dec (j ≤ i) → ((entry_at es i).kind ≡ CONTACT) × ((entry_at es i).id ≡ k) → ((entry_at es j).kind ≡ CONTACT) × ((entry_at es j).id ≡ k) → j ≡ i
        go (yes x) (yes y) p q = omega arith
        go (no x) y p q = absurd (a.across.contacts-new i j d (omega arith) (record { one = p.0; other = q.0; same = q.1 ∙ sym p.1 }))
        go (yes x) (no y) p q = absurd (a.across.contacts-new j i b (omega arith) (record { one = q.0; other = p.0; same = p.1 ∙ sym q.1 }))

    pub just-opened : read_row (rows.contact 3) (part_of run (entry_at es j)) ≡ accepted c → asked (opened_in run es k c) ≡ Going
    just-opened r = sym (same_rows (λ i d u. prints ∙ ap (λ (m : ℕ). part_of run (entry_at es m)) (alone i d u))) ∙ g
      where
        prints : print (rows.contact 3) c ≡ part_of run (entry_at es j)
        prints = (proved.contact 3).laws.read-print (part_of run (entry_at es j)) (bytes-part run by (entry_at es j)) c r

-- ---- two runs: stores that differ only in veiled bytes, and fields alike outside veiled ones
module _ (c c' : Contact) (a : FieldsAlike c c') where
  abbrev SightAt : (kind version : ℕ) (t : Bool) (r r' : List ℕ) → Type 0
  SightAt kind version t r r' =
      SameSight (kind_of kind) (read_row (layout_of (kind_of kind) version) (cond t (print (rows.contact 3) c) r)) (read_row (layout_of (kind_of kind) version) (cond t (print (rows.contact 3) c') r'))

  opened-sight : (version : ℕ) (r r' : List ℕ) → SightAt CONTACT version true r r'
  opened-sight version r r' = go (eqb version 3) refl
    where
      go : (t : Bool) → eqb version 3 ≡ t → SightAt CONTACT version true r r'
      go true e =
          let x = opened-read c a.valid in
          let x' = opened-read c' a.valid' in
          subst (λ (n : ℕ). SightAt CONTACT n true r r') (sym (eqb→eq version 3 (truth (eqb version 3) e)))
          (record { refusals = ap refusal_in x ∙ sym (ap refusal_in x'); sights = ap (seen_of contact) x ∙ seen_alike contact 3 c c' a.alike ∙ sym (ap (seen_of contact) x') })
      go false e =
          let x = other-version version (print (rows.contact 3) c) e in
          let x' = other-version version (print (rows.contact 3) c') e in
          record { refusals = ap refusal_in x ∙ sym (ap refusal_in x'); sights = ap (seen_of contact) x ∙ sym (ap (seen_of contact) x') }

  sight-at : (kind version : ℕ) (t : Bool) (r r' : List ℕ) → (T t → kind ≡ CONTACT) → length r ≡ length r' → Outside (veiled_bytes (layout_of (kind_of kind) version) r) r r' → SightAt kind version t r r'
  sight-at kind version true r r' k l o = subst (λ (n : ℕ). SightAt n version true r r') (sym (k tt)) (opened-sight version r r')
  sight-at kind version false r r' k l o =
      let form = layout_of (kind_of kind) version in
      same-sight (kind_of kind) version (read_row form r) (read_row form r') ((row-of (kind_of kind) version).veil.blind r r' l o)

  pub opened-alike : (run run' : List ℕ) (es : List Entry) (k : ℕ) → VeilEqual run run' es → asked (opened_in run es k c) ≡ asked (opened_in run' es k c')
  opened-alike run run' es k v =
      agree-asked (opened_in run es k c) (opened_in run' es k c').row_of
      (λ i b. let e = entry_at es i in
      sight-at e.kind e.version (is_of CONTACT k e) (part_of run e) (part_of run' e) (λ t. (is-of CONTACT k e t).0) (part-long run run' e v.long) (v.each i b))
      ∙ ap (λ (n : ℕ). asked (record { size = n; entries = es; row_of = (opened_in run' es k c').row_of })) v.long

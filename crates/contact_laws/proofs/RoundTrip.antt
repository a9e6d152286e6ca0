-- The round trips of a contact row, from the contracts of its reader and its writer alone.
-- Assumes nothing.
use Prim.Native.Nat.{ℕ, zero, suc, ◌/◌, ◌≤◌}
use Rattle.std.specs.Prelude.{Ok}
use mathlib.Core.List.{List, [], ◌∷◌}
use mathlib.Core.Bool.{Bool, true, false, cond}
use mathlib.Core.Option.{Option, none, some}
use mathlib.Core.Path.{◌≡◌, refl, sym, ap, ap₂, subst, ◌∙◌}
use native.Mathlib.Omega.{arith}
use lib.ListN.{length, take, drop, length-take}
use borrow.Author.Tests.{le-leb}
use Rattle.layout.specs.Questions.{LISTS}
use Rattle.layout.specs.Read.{Read, value, refused, and_then, onto, said}
use Rattle.layout.specs.Form.{Form}
use Rattle.layout.specs.Layout.{Answer, accepted, refused_by, read_row, parse, refusal_of, group}
use Rattle.layout.specs.Layout as layout
use Rattle.layout.specs.RowLaws.{Bytes}
use Rattle.layout.specs.Says as written
use Rattle.layout.specs.Write.{stored, writes}
use Rattle.layout.specs.Write as write
use Rattle.layout.proofs.Theorems.{accepted≢}
use Rattle.layout.proofs.Write.{wrote≢refuses}
use Rattle.rows.specs.Values as values
use Rattle.rows.specs.Rows.{chain, skipped, contact}
use Rattle.rows.proofs.Proved.{proved}
use Rattle.rows.proofs.RoundTrip.{Stands, stands, three, rewritten}
use Rattle.contact_parts.specs.Parts.{paired, joined}
use Rattle.contact_lists.specs.Lists.{items_of}
use Rattle.contact_lists.specs.Places.{read_places, places_of}
use Rattle.contact_lists.specs.Places as places
use Rattle.received.specs.Lent.{pairs}
use Rattle.received.proofs.Pairs.{length_pairs}
use Rattle.contact_lent.specs.Lent.{chains_of, skipped_of}
use Rattle.contact.specs.Consistent.{inconsistency}
use Rattle.contact.specs.Contact as contacts
use Rattle.contact.specs.Contact.{Lists, Left, contact_of, long_enough, filled, leaves, opened, reads}
use Rattle.contact.specs.declared.Contact.{Contact}
use Rattle.contact_image.specs.Row as spec
use Rattle.contact_image.specs.Row.{counted, paired_of, keys_of, pending_of, send_of, numbers_of, image, writes_contact, contact_in, ContactTyped, ListsTyped}
use Rattle.contact_image.proofs.Counts.{AllCounted, all-counted}
use Rattle.contact_image.proofs.Image as images
use Rattle.contact_laws.specs.Laws.{ContactLaws}
use Rattle.contact_laws.proofs.Back.{value-back, image-back, counted_back}

-- ---- reading: where the answer is a struct, the row holds a value, and the struct and the lists are its
record WasRead (version : ℕ) (row : List ℕ) (l left : Lists) (read : Contact) : Type 0 where
  holds : values.Contact
  held : read_row (contact version) row ≡ accepted holds
  enough : long_enough holds l ≡ true
  struct_is : read ≡ contact_of holds
  lists-are : left ≡ filled holds l

module _ (version : ℕ) (row : List ℕ) (by : Bytes row) (l left : Lists) (read : Contact) (contract : leaves (Ok read) left ≡ reads version row l) where
  was_read : WasRead version row l left read
  unfolding contacts.reads
  was_read = go (read_row (contact version) row) refl contract
    where
      refuses-not : {q : ℕ} → leaves (Ok read) left ≡ record { answer = refused_by q; lists = l } → ⊥
      refuses-not h = accepted≢ (ap (λ (x : Left). x.answer) h)

      long : (v : values.Contact) → read_row (contact version) row ≡ accepted v → (t : Bool) → long_enough v l ≡ t
          → leaves (Ok read) left ≡ cond t (record { answer = accepted (contact_of v); lists = filled v l }) (record { answer = refused_by LISTS; lists = l }) → WasRead version row l left read
      long v e true t h =
          let same : accepted read ≡ accepted (contact_of v) = ap (λ (x : Left). x.answer) h in
          record { holds = v; held = e; enough = t; struct_is = cc; lists-are = ap (λ (x : Left). x.lists) h }
      long v e false t h = absurd (refuses-not h)

      go : (a : Answer values.Contact) → read_row (contact version) row ≡ a → leaves (Ok read) left ≡ opened a l → WasRead version row l left read
      go (accepted v) e h = long v e (long_enough v l) refl h
      go (refused_by q) e h = absurd (refuses-not h)

  read-value : read_row (contact version) row ≡ accepted (contact_in read left)
  read-value =
      let v = was_read.holds in
      let fits = ((proved.contact version).laws.read-valid row by v was_read.held).fits in
      was_read.held ∙ ap (λ (x : values.Contact). accepted x) (sym (ap₂ contact_in was_read.struct_is was_read.lists-are ∙ value-back version v fits l was_read.enough))

  read-write : (out : List ℕ) → writes_contact read left out ≡ stored row out
  unfolding spec.writes_contact
  read-write out =
      let v = was_read.holds in
      let known : read_row (contact 3) row ≡ accepted v = subst (λ (n : ℕ). read_row (contact n) row ≡ accepted v) (three _ version row was_read.held) was_read.held in
      let fits = ((proved.contact 3).laws.read-valid row by v known).fits in
      ap₂ (λ (c : Contact) (l : Lists). writes_contact c l out) was_read.struct_is was_read.lists-are
      ∙ rw (counted_back 3 v fits l was_read.enough, image-back 3 v fits l was_read.enough) (rewritten (contact 3) (proved.contact 3).laws row by v known out)

-- ---- writing: where the answer is a length, question 36 is a yes, and the row stands at the front of the output
record WasWritten (c : Contact) (l : Lists) (left : List ℕ) (n : ℕ) : Type 0 where
  counts : counted c l ≡ true
  row : Stands (contact 3) (image c l) left n

was-written : (c : Contact) (l : Lists) (out left : List ℕ) (n : ℕ) → written.leaves (Ok n) left ≡ writes_contact c l out → WasWritten c l left n
unfolding spec.writes_contact
was-written c l out left n contract = go (counted c l) refl contract
  where
    go : (t : Bool) → counted c l ≡ t → written.leaves (Ok n) left ≡ cond t (writes (contact 3) (image c l) out) (record { answer = write.refuses LISTS; out = out }) → WasWritten c l left n
    go true e h = record { counts = e; row = stands (contact 3) (image c l) out left h }
    go false e h = absurd (wrote≢refuses (ap (λ (x : write.Left). x.answer) h))

-- ---- the row that stands there, if reading accepts it at all, is read as the value that the struct and the lists stand for
places-are : {B : Type 0} (w : ℕ) (f : Form B) (n : ℕ) (l : List ℕ) {bs : List B} {rest : List ℕ} → read_places w f n l ≡ value bs rest → bs ≡ places_of w f n l
unfolding places.places_of
places-are w f n l e = rw e

module _ (c : Contact) (l : Lists) (ty : ContactTyped c) (lt : ListsTyped l) where
  module _ (all : AllCounted c l) (u : values.Contact) (e : read_row (contact 3) (image c l) ≡ accepted u) where
    refused-not : {q : ℕ} → parse (contact 3) (image c l) ≡ refused q → ⊥
    refused-not r = accepted≢ (sym e ∙ ap layout.answer r)

    -- ... and none of 54 and 17 to 24 is a no
    abbrev Granted : Type 0
    Granted = (read_row (contact 3) (image c l) ≡ accepted (contact_in c l)) × (inconsistency (contact_in c l) ≡ none)

    image-granted : Granted
    image-granted = card (refusal_of paired (paired_of c)) refl
      where
        asked : (o : Option ℕ) → inconsistency (contact_in c l) ≡ o → parse (contact 3) (image c l) ≡ said o (contact_in c l) [] → Granted
        asked none is r = (ap layout.answer r, is)
        asked (some q) is r = absurd (refused-not r)

        keys : refusal_of paired (paired_of c) ≡ none → (cs : List values.Chain) (rest : List ℕ) → read_places 51 (group chain) c.chains l.chains ≡ value cs rest
            → (y : Read (List values.Skipped)) → read_places 46 (group skipped) c.skipped l.skipped ≡ y → Granted
        keys granted cs rest p (value ks rest') q =
            asked (inconsistency (contact_in c l)) refl (images.all_read c ty l all lt granted cs rest p ks rest' q (contact_in c l)
            (λ i. joined (paired_of c) (keys_of c)
            (record { pending = pending_of c; send = send_of c.send c.send_key; chains = places-are 51 (group chain) c.chains l.chains p i; skipped = places-are 46 (group skipped) c.skipped l.skipped q i })
            (numbers_of c l)))
        keys granted cs rest p (refused n) q = absurd (refused-not (images.skipped-refused c ty l all lt granted cs rest p n q))

        chains : refusal_of paired (paired_of c) ≡ none → (x : Read (List values.Chain)) → read_places 51 (group chain) c.chains l.chains ≡ x → Granted
        chains granted (value cs rest) p = keys granted cs rest p (read_places 46 (group skipped) c.skipped l.skipped) refl
        chains granted (refused n) p = absurd (refused-not (images.chains-refused c ty l all lt granted n p))

        card : (o : Option ℕ) → refusal_of paired (paired_of c) ≡ o → Granted
        card none granted = chains granted (read_places 51 (group chain) c.chains l.chains) refl
        card (some q) r = absurd (refused-not (images.paired-refused c ty l all lt q r))

    pub image-value : read_row (contact 3) (image c l) ≡ accepted (contact_in c l)
    image-value = image-granted.0

    pub image-consistent : inconsistency (contact_in c l) ≡ none
    image-consistent = image-granted.1

  module _ (out left : List ℕ) (n : ℕ) (contract : written.leaves (Ok n) left ≡ writes_contact c l out) where
    write-value : read_row (contact 3) (take n left) ≡ accepted (contact_in c l)
    write-value =
        let w = was-written c l out left n contract in
        ap (λ (row : List ℕ). read_row (contact 3) row) w.row.front ∙ image-value (all-counted c l w.counts) w.row.value w.row.read

    write_read : (lent : Lists) → long_enough (contact_in c l) lent ≡ true
        → reads 3 (take n left) lent ≡ leaves (Ok (contact_of (contact_in c l))) (filled (contact_in c l) lent)
    unfolding contacts.reads
    write_read lent enough = ap (λ (a : Answer values.Contact). opened a lent) write-value ∙ rw enough

-- ---- the lists that were written from are long enough: they hold no more items than are counted
places-few : {B : Type 0} (w : ℕ) (f : Form B) (n : ℕ) (l : List ℕ) → length (places_of w f n l) ≤ n
unfolding places.places_of places.read_places
places-few w f zero l = omega arith
places-few {B} w f (suc n) l = one (f.read (take w l)) (places-few w f n (drop w l))
  where
    more : (b : B) (y : Read (List B)) → length (items_of f y) ≤ n → length (items_of f (onto (λ bs. b ∷ bs) y)) ≤ suc n
    more b (value bs rest) h = omega arith
    more b (refused q) h = omega arith

    one : (x : Read B) → length (items_of f (read_places w f n (drop w l))) ≤ n
        → length (items_of f (and_then x (λ b rest. onto (λ bs. b ∷ bs) (read_places w f n (drop w l))))) ≤ suc n
    one (value b rest) h = more b (read_places w f n (drop w l)) h
    one (refused q) h = omega arith

counted-enough : (c : Contact) (l : Lists) → AllCounted c l → long_enough (contact_in c l) l ≡ true
counted-enough c l all =
    rw (
      le-leb (length (chains_of c.chains l.chains)) (length l.chains / 51) (omega (arith, all.chains.held, places-few 51 (group chain) c.chains l.chains)),
      le-leb (length (skipped_of c.skipped l.skipped)) (length l.skipped / 46) (omega (arith, all.skipped.held, places-few 46 (group skipped) c.skipped l.skipped)),
      le-leb (length (pairs c.above l.above)) (length l.above / 2) (omega (arith, all.above.held, length_pairs c.above l.above all.above.held)),
      le-leb (length (take c.unacked l.unacked)) (length l.unacked) (rw length-take (omega arith)),
      le-leb (length (pairs c.expired l.expired)) (length l.expired / 2) (omega (arith, all.expired.held, length_pairs c.expired l.expired all.expired.held)),
    )

pub contact-laws : ContactLaws
contact-laws = record {
  read-value = read-value;
  write-value = write-value;
  read-write = read-write;
  write_read = write_read;
  write-enough = λ c l out left n contract. counted-enough c l (all-counted c l (was-written c l out left n contract).counts);
  value-back = λ version v valid l enough. value-back version v valid.fits l enough;
}

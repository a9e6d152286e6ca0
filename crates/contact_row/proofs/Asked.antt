-- What a writer of contact rows is asked before the output, from the answers about the row's parts.
-- Assumes nothing.
use Prim.Native.Nat.{ℕ, zero, suc, ◌*◌, ◌^◌, ◌≤◌, ◌<◌}
use Rattle.std.specs.Prelude as code
use mathlib.Core.List.{List, [], append-nil}
use mathlib.Core.Bool.{Bool, true, false, cond}
use mathlib.Core.Option.{Option, none, some}
use mathlib.Core.Path.{◌≡◌, refl, sym, ap, ◌∙◌}
use native.Mathlib.Omega.{arith}
use lib.ListN.{length, get_or, take, drop, length-append, length-take}
use lib.Seq.{length-take-le}
use lib.Dec.{eqb}
use Rattle.layout.specs.Questions.{LISTS}
use Rattle.layout.specs.Read.{Read, value, refused, said}
use Rattle.layout.specs.Form.{Form, times, print_many}
use Rattle.layout.specs.Layout.{Layout, Answer, read_row, parse, print, fits_of, refusal_of, group, optional}
use Rattle.layout.specs.Layout as layout
use Rattle.layout.specs.RowLaws.{RowLaws}
use Rattle.layout.specs.Write.{wrote, refuses, asked}
use Rattle.layout.specs.Write as write
use Rattle.layout.proofs.Write.{wrote≢refuses}
use Rattle.rows.specs.Rows.{card_row, pending, send, chain, skipped, contact}
use Rattle.rows.specs.Rows as row
use Rattle.rows.proofs.Proved.{proved}
use Rattle.card.specs.Card as cards
use Rattle.card.proofs.Image as card
use Rattle.contact_lists.specs.Places.{read_places}
use Rattle.contact_lent.specs.Lent as lent
use Rattle.contact_lent.specs.Lent.{size_of, Granted, chains_of, skipped_of, chain_size, chains_bytes}
use Rattle.contact_lent.proofs.Laws.{chains-printed, skipped-printed}
use Rattle.contact_parts.specs.Parts.{paired}
use Rattle.contact.specs.Consistent.{inconsistency}
use Rattle.contact.specs.Contact.{Lists, lengths_of, counts_of}
use Rattle.contact.specs.declared.Contact.{Contact}
use Rattle.contact.specs.declared.SendChain.{SendChain}
use Rattle.contact_image.specs.Row as spec
use Rattle.numbers.specs.Lists as lists
use Rattle.contact_image.specs.Row.{counted, paired_of, pending_of, send_of, contact_in, image, asked_contact, ContactTyped, ListsTyped, ChainsLent, NumbersLent}
use Rattle.contact_image.proofs.Counts.{AllCounted, all-counted}
use Rattle.contact_image.proofs.Fits.{paired-refusal}
use Rattle.contact_image.proofs.Image.{paired-refused, chains-refused, skipped-refused, all_read}
use Rattle.contact_image.proofs.Lengths.{paired_long, keys_long, pending_absent, pending_long, send_absent, send_long, chained_long, numbers_long, image_long}
use Rattle.contact_row.specs.Sizes.{send_size, row_size}

same_number : {p q : ℕ} → refuses p ≡ refuses q → p ≡ q
same_number e = cc

-- ---- what is asked of a printed value is its refusal
is-asked : {A : Type 0} (l : Layout A) (row : List ℕ) {a : Answer A} → read_row l row ≡ a → asked l row ≡ write.sized a (length row)
unfolding write.asked
is-asked l row e = rw e

module _ {A : Type 0} (l : Layout A) (laws : RowLaws l) (v : A) (fits : fits_of l v []) where
  asked-refusal : {q : ℕ} → asked l (print l v) ≡ refuses q → refusal_of l v ≡ some q
  asked-refusal {q} e = go (refusal_of l v) refl
    where
      go : (o : Option ℕ) → refusal_of l v ≡ o → o ≡ some q
      go none r = absurd (wrote≢refuses (sym (is-asked l (print l v) (laws.print-read v (record { fits = fits; granted = r }))) ∙ e))
      go (some p) r = ap some (same_number (sym (is-asked l (print l v) (laws.print-refused v p fits r)) ∙ e))

  asked-granted : {n : ℕ} → asked l (print l v) ≡ wrote n → refusal_of l v ≡ none
  asked-granted {n} e = go (refusal_of l v) refl
    where
      go : (o : Option ℕ) → refusal_of l v ≡ o → o ≡ none
      go none r = refl
      go (some p) r = absurd (wrote≢refuses (sym e ∙ is-asked l (print l v) (laws.print-refused v p fits r)))

-- ---- and of a row, what reading it says
module _ {A : Type 0} (l : Layout A) (row : List ℕ) where
  asked-no : {q : ℕ} → parse l row ≡ refused q → asked l row ≡ refuses q
  asked-no e = is-asked l row (ap layout.answer e)

  asked-yes : {v : A} {rest : List ℕ} → parse l row ≡ value v rest → asked l row ≡ wrote (length row)
  asked-yes e = is-asked l row (ap layout.answer e)

-- the places of which a size was refused
size-refused : {A : Type 0} (f : Form A) (x : Read A) {q : ℕ} → size_of f x ≡ refuses q → x ≡ refused q
size-refused f (value a rest) e = absurd (wrote≢refuses e)
size-refused f (refused p) {q} e = let same : p ≡ q = same_number e in ap (λ (n : ℕ). refused n) same

-- ---- bounds, so that no sum wraps
chain-few : (l : List ℕ) → length (take (chain_size l) l) ≤ 51
chain-few l = go (eqb (get_or l 42 0) 1)
  where
    go : (t : Bool) → length (take (cond t 51 43) l) ≤ 51
    go true = omega (arith, length-take 51 l)
    go false = omega (arith, length-take 43 l)

chains-few : (n : ℕ) (l : List ℕ) → length (chains_bytes n l) ≤ 51 * n
unfolding lent.places_bytes
chains-few zero l = omega arith
chains-few (suc n) l = omega (arith, length-append (take (chain_size l) l) (chains_bytes n (drop 51 l)), chain-few l, chains-few n (drop 51 l))

card-few : (c : Contact) → ContactTyped c → length (cards.image c.peer) < 256 ^ 2
unfolding cards.image layout.print
card-few c ty = rw (append-nil (print row.card (cards.value_of c.peer))) (card.print-short c.peer ty.peer)

-- ---- question 36, as the code asks it
module _ (c : Contact) (l : Lists) where
  pub counted_is : {t : Bool} → t ≡ lists.counted (counts_of c) (lengths_of l) → counted c l ≡ t
  unfolding spec.counted
  counted_is e = sym e

  pub not-counted : counted c l ≡ false → asked_contact c l ≡ refuses LISTS
  unfolding spec.asked_contact
  not-counted e = rw e

module _ {c : Contact} (ty : ContactTyped c) {l : Lists} (lt : ListsTyped l) where
  module _ (counts : counted c l ≡ true) where
    abbrev all : AllCounted c l
    all = all-counted c l counts

    asks-row : asked_contact c l ≡ asked (contact 3) (image c l)
    unfolding spec.asked_contact
    asks-row = rw counts

    -- ---- the card
    pub bad-card : {q : ℕ} → asked card_row (cards.image c.peer) ≡ refuses q → asked_contact c l ≡ refuses q
    unfolding cards.image
    bad-card {q} e =
        asks-row ∙ asked-no (contact 3) (image c l)
        (paired-refused c ty l all lt q
        (paired-refusal c ty ∙ asked-refusal card_row proved.card.laws (cards.value_of c.peer) (card.fits c.peer ty.peer) e))

    module _ {k : ℕ} (card-asked : asked card_row (cards.image c.peer) ≡ wrote k) where
      granted : refusal_of paired (paired_of c) ≡ none
      unfolding cards.image
      granted = paired-refusal c ty ∙ asked-granted card_row proved.card.laws (cards.value_of c.peer) (card.fits c.peer ty.peer) card-asked

      -- ---- the places
      pub bad-chains : {q : ℕ} → size_of (times (group chain) c.chains) (read_places 51 (group chain) c.chains l.chains) ≡ refuses q → asked_contact c l ≡ refuses q
      bad-chains {q} e = asks-row ∙ asked-no (contact 3) (image c l) (chains-refused c ty l all lt granted q (size-refused (times (group chain) c.chains) _ e))

      module _ (chains : Granted 51 (group chain) c.chains l.chains) where
        pub bad-skipped : {q : ℕ} → size_of (times (group skipped) c.skipped) (read_places 46 (group skipped) c.skipped l.skipped) ≡ refuses q → asked_contact c l ≡ refuses q
        bad-skipped {q} e = asks-row ∙ asked-no (contact 3) (image c l) (skipped-refused c ty l all lt granted _ _ chains.reads q (size-refused (times (group skipped) c.skipped) _ e))

        -- ---- 54 and 17 to 24
        module _ (skips : Granted 46 (group skipped) c.skipped l.skipped) where
          row_read : parse (contact 3) (image c l) ≡ said (inconsistency (contact_in c l)) (contact_in c l) []
          row_read = all_read c ty l all lt granted _ _ chains.reads _ _ skips.reads (contact_in c l) refl

          pub inconsistent : {q : ℕ} → inconsistency (contact_in c l) ≡ some q → asked_contact c l ≡ refuses q
          inconsistent e = asks-row ∙ asked-no (contact 3) (image c l) (row_read ∙ ap (λ (o : Option ℕ). said o (contact_in c l) []) e)

          pub whole : inconsistency (contact_in c l) ≡ none → asked_contact c l ≡ wrote (length (image c l))
          whole e = asks-row ∙ asked-yes (contact 3) (image c l) (row_read ∙ ap (λ (o : Option ℕ). said o (contact_in c l) []) e)

          -- the items are all there
          pub chains_lent : ChainsLent c l
          chains_lent = record { chains_granted = chains; skipped_granted = skips; chains = all.chains.held; skipped = all.skipped.held }

          pub numbers_lent : NumbersLent c l
          numbers_lent = record { above = all.above.held; unacked = omega (arith, all.unacked.held); expired = all.expired.held }

          -- ---- the length
          pending-size : length ((optional (group pending)).print (pending_of c)) ≡ cond c.pending 65 1
          pending-size = go c.pending refl
            where
              go : (t : Bool) → c.pending ≡ t → length ((optional (group pending)).print (pending_of c)) ≡ cond t 65 1
              go true e = pending_long c ty e
              go false e = pending_absent c ty e

          send-size : length ((optional (group send)).print (send_of c.send c.send_key)) ≡ send_size c.send
          send-size = go c.send refl
            where
              go : (s : code.Option SendChain) → c.send ≡ s → length ((optional (group send)).print (send_of c.send c.send_key)) ≡ send_size s
              go code.None e = send_absent c ty e
              go (code.Some s) e = send_long c ty e

          chain-bytes-are : {n : ℕ} → n ≡ length (print_many (group chain) (chains_of c.chains l.chains)) → length (chains_bytes c.chains l.chains) ≡ n
          chain-bytes-are e = ap (λ (x : List ℕ). length x) (chains-printed c.chains l.chains chains.reads lt.chains all.chains.held).bytes ∙ sym e

          skipped-bytes-are : {n : ℕ} → n ≡ length (print_many (group skipped) (skipped_of c.skipped l.skipped)) → 46 * c.skipped ≡ n
          skipped-bytes-are e =
              sym (length-take-le (46 * c.skipped) l.skipped all.skipped.held)
              ∙ ap (λ (x : List ℕ). length x) (skipped-printed c.skipped l.skipped skips.reads lt.skipped all.skipped.held).bytes ∙ sym e

          pub sizes-few : {card chains-len skipped-len : ℕ} → card ≡ length (cards.image c.peer) → chains-len ≡ length (print_many (group chain) (chains_of c.chains l.chains))
              → skipped-len ≡ length (print_many (group skipped) (skipped_of c.skipped l.skipped)) → (card < 256 ^ 2) × (chains-len < 2 ^ 32) × (skipped-len < 2 ^ 32)
          sizes-few {card} {chains-len} {skipped-len} e f g =
              let chain-bytes = chain-bytes-are f in
              let skipped-bytes = skipped-bytes-are g in
              (omega (arith, card-few c ty), omega (arith, chains-few c.chains l.chains, all.chains.few), omega (arith, all.skipped.few))

          pub size_is : {card chains-len skipped-len : ℕ} → card ≡ length (cards.image c.peer) → chains-len ≡ length (print_many (group chain) (chains_of c.chains l.chains))
              → skipped-len ≡ length (print_many (group skipped) (skipped_of c.skipped l.skipped)) → row_size c card chains-len skipped-len ≡ length (image c l)
          size_is e f g =
              omega (arith, image_long c l, paired_long c ty, keys_long c ty, chained_long c l lt chains_lent, numbers_long c l all, pending-size, send-size)

-- The bytes of each part of the row, as its fields are stored one behind the other.
-- Assumes nothing.
use Prim.Native.Nat.{ℕ, ◌<◌}
use Rattle.std.specs.Prelude.{None, Some}
use mathlib.Core.List.{List, [], ◌∷◌, ◌++◌, append-nil, append_assoc}
use mathlib.Core.Bool.{true, false}
use mathlib.Core.Option.{none, some}
use mathlib.Core.Path.{◌≡◌, refl, sym, ap, subst, ◌∙◌}
use lib.ListN.{length, take}
use lib.Seq.{length-take-le}
use Rattle.layout.specs.Questions.{CARD_END}
use Rattle.layout.specs.Form.{Form, bytes_of, u32, print_many}
use Rattle.layout.specs.Layout.{print, group, optional, list, sized}
use Rattle.layout.specs.Layout as layout
use Rattle.layout.proofs.Front.{byte-print}
use Rattle.rows.specs.Values as value
use Rattle.rows.specs.Rows.{role_byte, verification_byte, dir_byte, pending, send, card, chain, skipped, range}
use Rattle.card.specs.Card as cards
use Rattle.card.specs.Card.{value_of}
use Rattle.contact_parts.specs.Parts.{paired, keys, numbers}
use Rattle.received.specs.Lent.{pairs}
use Rattle.received.proofs.Pairs.{length_pairs}
use Rattle.contact_lent.specs.Lent.{chains_of, skipped_of}
use Rattle.contact_lent.proofs.Records.{chains-row, skipped-row}
use Rattle.contact.specs.Contact.{Lists}
use Rattle.contact.specs.declared.SendChain.{SendChain}
use Rattle.contact.specs.declared.Contact.{Contact}
use Rattle.contact_image.specs.Row as spec
use Rattle.contact_image.specs.Row.{paired_of, keys_of, pending_of, send_of, numbers_of, counters, lists_image, chained_image, SendTyped, ContactTyped, ListsTyped, ChainsLent, NumbersLent}

-- ---- forms that the parts share
-- a part behind its flag
optional-some : {B : Type 0} (f : Form B) (b : B) {bs : List ℕ} → f.print b ≡ bs → (optional f).print (some b) ≡ (1 ∷ []) ++ bs
unfolding layout.print
optional-some f b e = ap (λ (l : List ℕ). 1 ∷ l) (append-nil (f.print b) ∙ e)

optional-none : {B : Type 0} (f : Form B) → (optional f).print none ≡ 0 ∷ []
unfolding layout.print
optional-none f = refl

-- items behind their count
pub list-is : {B : Type 0} (f : Form B) (bs : List B) {n : ℕ} → length bs ≡ n → (list f).print bs ≡ bytes_of 2 n ++ print_many f bs
unfolding layout.print
list-is f bs {n} e = rw e (ap (λ (l : List ℕ). bytes_of 2 n ++ l) (append-nil (print_many f bs)))

-- a part behind its length
sized-is : {B : Type 0} (f : Form B) (q : ℕ) (b : B) {bs : List ℕ} → f.print b ≡ bs → (sized f q).print b ≡ bytes_of 2 (length bs) ++ bs
unfolding layout.print
sized-is f q b {bs} e = rw e (ap (λ (l : List ℕ). bytes_of 2 (length bs) ++ l) (append-nil bs))

-- ---- the groups behind a flag
pending-print : (p : value.Pending) → print pending p ≡ p.chain_key ++ p.msg_seed
unfolding layout.print
pending-print p = rw append-nil

send-print : (s : value.Send) → s.gen < 256 → print send s ≡ (s.gen ∷ []) ++ ((dir_byte s.dir ∷ []) ++ (bytes_of 4 s.idx ++ s.key))
unfolding layout.print
send-print s few = rw (append-nil, byte-print s.gen few)

module _ (c : Contact) where
  -- ---- paired
  abbrev codes : List ℕ
  codes = role_byte c.role ∷ 3 ∷ verification_byte c.verification ∷ []

  abbrev card_bytes : List ℕ
  card_bytes = cards.image c.peer

  card-is : print card (value_of c.peer) ≡ card_bytes
  unfolding layout.print cards.image
  card-is = sym (append-nil (print card (value_of c.peer)))

  pub paired_is : print paired (paired_of c) ≡ codes ++ (c.pair_id ++ (c.th ++ (c.nonce_b ++ (bytes_of 2 (length card_bytes) ++ card_bytes))))
  unfolding layout.print
  paired_is =
      ap (λ (l : List ℕ). codes ++ (c.pair_id ++ (c.th ++ (c.nonce_b ++ l))))
      (append-nil ((sized (group card) CARD_END).print (value_of c.peer)) ∙ sized-is (group card) CARD_END (value_of c.peer) card-is)

  -- ---- keys
  pub keys-is : print keys (keys_of c) ≡ c.door_a_to_b ++ (c.door_b_to_a ++ (c.route_key ++ (bytes_of 8 c.resume_index ++ (c.chain_key ++ bytes_of 4 c.sent_msgno))))
  unfolding layout.print
  keys-is = rw append-nil

  -- ---- what it awaits
  pub pending-none : c.pending ≡ false → (optional (group pending)).print (pending_of c) ≡ 0 ∷ []
  pending-none e = rw e (optional-none (group pending))

  pub pending-some : c.pending ≡ true → (optional (group pending)).print (pending_of c) ≡ (1 ∷ []) ++ (c.pending_chain_key ++ c.pending_msg_seed)
  pending-some e = rw e (optional-some (group pending) _ (pending-print _))

  -- ---- what it sends
  pub send-none : c.send ≡ None → (optional (group send)).print (send_of c.send c.send_key) ≡ 0 ∷ []
  send-none e = rw e (optional-none (group send))

  pub send-some : {s : SendChain} → ContactTyped c → c.send ≡ Some s
      → (optional (group send)).print (send_of c.send c.send_key) ≡ (1 ∷ []) ++ ((s.gen_ ∷ []) ++ ((dir_byte s.dir ∷ []) ++ (bytes_of 4 s.idx ++ c.send_key)))
  send-some ty e = rw e (optional-some (group send) _ (send-print _ (subst SendTyped e ty.send).0))

-- ---- numbers
pub numbers-are : (c : Contact) (l : Lists) → print numbers (numbers_of c l) ≡ counters c ++ lists_image c l
unfolding layout.print
numbers-are c l = simp (append_assoc, append-nil)

pub lists_are : (c : Contact) (l : Lists) → NumbersLent c l → lists_image c l
    ≡ bytes_of 2 c.above
    ++ (print_many (group range) (pairs c.above l.above)
    ++ (bytes_of 2 c.unacked ++ (print_many u32 (take c.unacked l.unacked) ++ (bytes_of 2 c.expired ++ print_many (group range) (pairs c.expired l.expired)))))
lists_are c l lent =
    rw (
      list-is (group range) (pairs c.above l.above) (length_pairs c.above l.above lent.above),
      list-is u32 (take c.unacked l.unacked) (length-take-le c.unacked l.unacked lent.unacked),
      list-is (group range) (pairs c.expired l.expired) (length_pairs c.expired l.expired lent.expired),
      append_assoc,
      append_assoc,
    )

-- ---- what it awaits and sends, and its chains: no question refuses a place
module _ (c : Contact) (l : Lists) (ty : ListsTyped l) (lent : ChainsLent c l) where
  pub chained_is : chained_image c l
      ≡ (optional (group pending)).print (pending_of c)
      ++ ((optional (group send)).print (send_of c.send c.send_key)
      ++ (bytes_of 2 c.chains ++ (print_many (group chain) (chains_of c.chains l.chains) ++ (bytes_of 2 c.skipped ++ print_many (group skipped) (skipped_of c.skipped l.skipped)))))
  unfolding spec.chained_image
  chained_is = rw (chains-row c.chains l.chains ty.chains lent.chains lent.chains_granted, ← skipped-row c.skipped l.skipped ty.skipped lent.skipped lent.skipped_granted, append_assoc)

-- How many bytes each part of the row has.
-- Assumes nothing.
use Prim.Native.Nat.{ℕ, ◌+◌, ◌*◌, ◌≤◌}
use Rattle.std.specs.Prelude.{None, Some}
use mathlib.Core.List.{List, [], ◌∷◌}
use mathlib.Core.Bool.{true, false}
use mathlib.Core.Path.{◌≡◌, sym, ap, ◌∙◌}
use native.Mathlib.Nat.{mul-zero, mul-suc}
use native.Mathlib.Omega.{arith}
use lib.ListN.{length, take, length-append}
use lib.Seq.{length-take-le}
use Rattle.layout.specs.Form.{Form, bytes_of, u32, print_many}
use Rattle.layout.specs.Form as form
use Rattle.layout.specs.Layout.{print, group, optional, list}
use Rattle.layout.specs.Layout as layout
use Rattle.layout.proofs.Front.{length-bytes_of}
use Rattle.rows.specs.Values.{Range}
use Rattle.rows.specs.Rows.{pending, send, chain, skipped, range}
use Rattle.card.specs.Card as cards
use Rattle.contact_parts.specs.Parts.{paired, keys, numbers}
use Rattle.received.specs.Lent.{pairs}
use Rattle.received.proofs.Pairs.{length_pairs}
use Rattle.contact_lent.specs.Lent.{chains_of, skipped_of}
use Rattle.contact.specs.Contact.{Lists}
use Rattle.contact.specs.declared.SendChain.{SendChain}
use Rattle.contact.specs.declared.Contact.{Contact}
use Rattle.contact_image.specs.Row as spec
use Rattle.contact_image.specs.Row.{paired_of, keys_of, pending_of, send_of, numbers_of, chained_image, image, ContactTyped, ListsTyped, ChainsLent, NumbersLent, Writable}
use Rattle.contact_image.proofs.Bytes.{list-is, paired_is, keys-is, pending-none, pending-some, send-none, send-some, numbers-are, chained_is}
use Rattle.contact_image.proofs.Counts.{AllCounted, all-counted}

-- ---- counted lists of items of w bytes each
length-many : {B : Type 0} (f : Form B) (w : ℕ) → ((b : B) → length (f.print b) ≡ w) → (bs : List B) → length (print_many f bs) ≡ w * length bs
unfolding form.print_many
length-many f w e [] = sym (mul-zero w)
length-many f w e (b ∷ bs) = length-append (f.print b) (print_many f bs) ∙ rw (e b, length-many f w e bs, mul-suc w (length bs)) (omega arith)

length-list : {B : Type 0} (f : Form B) (w : ℕ) → ((b : B) → length (f.print b) ≡ w) → (bs : List B) {n : ℕ} → length bs ≡ n → length ((list f).print bs) ≡ 2 + w * n
length-list f w e bs {n} many =
    ap (λ (l : List ℕ). length l) (list-is f bs many) ∙ length-append (bytes_of 2 n) (print_many f bs) ∙ rw (length-bytes_of 2 n, length-many f w e bs, many)

length-range : (r : Range) → length (print range r) ≡ 8
unfolding layout.print
length-range r = simp (length-append, length-bytes_of)

pub length-ranges : (n : ℕ) (l : List ℕ) → 2 * n ≤ length l → length ((list (group range)).print (pairs n l)) ≡ 2 + 8 * n
length-ranges n l h = length-list (group range) 8 length-range (pairs n l) (length_pairs n l h)

pub length-numbers : (n : ℕ) (l : List ℕ) → n ≤ length l → length ((list u32).print (take n l)) ≡ 2 + 4 * n
length-numbers n l h = length-list u32 4 (length-bytes_of 4) (take n l) (length-take-le n l h)

module _ (c : Contact) (ty : ContactTyped c) where
  pub paired_long : length (print paired (paired_of c)) ≡ 85 + length (cards.image c.peer)
  paired_long = rw (paired_is c) (simp (length-append, length-bytes_of) (omega (arith, ty.pair_id, ty.th, ty.nonce_b)))

  pub keys_long : length (print keys (keys_of c)) ≡ 140
  keys_long = rw (keys-is c) (simp (length-append, length-bytes_of) (omega (arith, ty.door_a_to_b, ty.door_b_to_a, ty.route_key, ty.chain_key)))

  pub pending_absent : c.pending ≡ false → length ((optional (group pending)).print (pending_of c)) ≡ 1
  pending_absent e = ap (λ (l : List ℕ). length l) (pending-none c e)

  pub pending_long : c.pending ≡ true → length ((optional (group pending)).print (pending_of c)) ≡ 65
  pending_long e = ap (λ (l : List ℕ). length l) (pending-some c e) ∙ simp length-append (omega (arith, ty.pending_chain_key, ty.pending_msg_seed))

  pub send_absent : c.send ≡ None → length ((optional (group send)).print (send_of c.send c.send_key)) ≡ 1
  send_absent e = ap (λ (l : List ℕ). length l) (send-none c e)

  pub send_long : {s : SendChain} → c.send ≡ Some s → length ((optional (group send)).print (send_of c.send c.send_key)) ≡ 39
  send_long e = ap (λ (l : List ℕ). length l) (send-some c ty e) ∙ simp (length-append, length-bytes_of) (omega (arith, ty.send_key))

-- ---- the parts with lists
module _ (c : Contact) (l : Lists) (all : AllCounted c l) where
  pub numbers_long : length (print numbers (numbers_of c l)) ≡ 22 + 8 * c.above + 4 * c.unacked + 8 * c.expired
  numbers_long =
      let above = length-ranges c.above l.above all.above.held in
      let unacked = length-numbers c.unacked l.unacked (omega (arith, all.unacked.held)) in
      let expired = length-ranges c.expired l.expired all.expired.held in
      rw (numbers-are c l) (simp (length-append, length-bytes_of) (omega arith))

-- what its skipped keys take is known from their count
pub chained_long : (c : Contact) (l : Lists) → ListsTyped l → ChainsLent c l
    → length (chained_image c l)
    ≡ length ((optional (group pending)).print (pending_of c)) + length ((optional (group send)).print (send_of c.send c.send_key))
    + 2 + length (print_many (group chain) (chains_of c.chains l.chains)) + 2 + length (print_many (group skipped) (skipped_of c.skipped l.skipped))
chained_long c l ty lent = rw (chained_is c l ty lent) (simp (length-append, length-bytes_of) (omega arith))

-- ---- the row
module _ (c : Contact) (l : Lists) where
  pub image_long : length (image c l) ≡ length (print paired (paired_of c)) + length (print keys (keys_of c)) + length (chained_image c l) + length (print numbers (numbers_of c l))
  unfolding spec.image
  image_long = simp length-append (omega arith)

  -- where it is to be stored
  module _ {out : List ℕ} (w : Writable c l out) where
    all : AllCounted c l
    all = all-counted c l w.counts

    pub chains_lent : ChainsLent c l
    chains_lent = record { chains_granted = w.chains; skipped_granted = w.skipped; chains = all.chains.held; skipped = all.skipped.held }

    pub numbers_lent : NumbersLent c l
    numbers_lent = record { above = all.above.held; unacked = omega (arith, all.unacked.held); expired = all.expired.held }

    pub row_room : length (print paired (paired_of c)) + length (print keys (keys_of c)) + length (chained_image c l) + (22 + 8 * c.above + 4 * c.unacked + 8 * c.expired) ≤ length out
    row_room = omega (arith, image_long, numbers_long c l all, w.room)

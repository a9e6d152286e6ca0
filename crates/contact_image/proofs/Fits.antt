-- The parts of the value that an opened contact stands for fit their layouts, and what reading them would refuse.
-- Assumes nothing.
use Prim.Native.Nat.{ℕ, zero, suc, ◌≤◌}
use Rattle.std.specs.Prelude as code
use mathlib.Core.List.{List, [], ◌∷◌}
use mathlib.Core.Bool.{Bool, true, false, cond}
use mathlib.Core.Option.{Option, none, some}
use mathlib.Core.Path.{◌≡◌, refl}
use native.Mathlib.Omega.{arith}
use lib.ListN.{length, take}
use lib.Seq.{length-take-le}
use Rattle.layout.specs.Read.{first}
use Rattle.layout.specs.Form.{Form, u32, fits_many, refusal_many}
use Rattle.layout.specs.Form as form
use Rattle.layout.specs.Layout.{print, fits_of, refusal_of, group, optional, list}
use Rattle.layout.specs.Layout as layout
use Rattle.rows.specs.Rows.{role_of, role_byte, verification_of, verification_byte, dir_of, dir_byte, card, card_row, range, pending, send}
use Rattle.rows.specs.declared.PairingRole.{PairingRole}
use Rattle.rows.specs.declared.PairingRole.TheVariants as role
use Rattle.rows.specs.declared.Verification.{Verification}
use Rattle.rows.specs.declared.Verification.TheVariants as verification
use Rattle.rows.specs.declared.Dir.{Dir}
use Rattle.rows.specs.declared.Dir.TheVariants as dir
use Rattle.card.specs.Card.{value_of}
use Rattle.card.proofs.Image as cards
use Rattle.contact_parts.specs.Parts.{paired, keys, numbers}
use Rattle.received.specs.Lent as lent
use Rattle.received.specs.Lent.{pairs}
use Rattle.received.proofs.Pairs.{length_pairs}
use Rattle.contact.specs.Contact.{Lists}
use Rattle.contact.specs.declared.SendChain.{SendChain}
use Rattle.contact.specs.declared.Contact.{Contact}
use Rattle.contact_image.specs.Row.{paired_of, keys_of, pending_of, send_of, numbers_of, SendTyped, ContactTyped, ListsTyped, Words}
use Rattle.contact_image.proofs.Counts.{AllCounted}

last : (o : Option ℕ) → first o none ≡ o
last none = refl
last (some q) = refl

-- ---- codes
role-fits : (r : PairingRole) → role_of (role_byte r) ≡ some r
role-fits role.A = refl
role-fits role.B = refl

verification-fits : (v : Verification) → verification_of (verification_byte v) ≡ some v
verification-fits verification.Unverified = refl
verification-fits verification.Verified = refl
verification-fits verification.Compromised = refl

-- ---- lists of numbers and of ranges
words_tail : (a : ℕ) (l : List ℕ) → Words (a ∷ l) → Words l
words_tail a l w i = w (suc i)

numbers_fit : (n : ℕ) (l post : List ℕ) → Words l → n ≤ length l → fits_many u32 (take n l) post
numbers_fit zero l post w h = tt
numbers_fit (suc n) [] post w h = tt
numbers_fit (suc n) (a ∷ l) post w h = (w 0, numbers_fit n l post (words_tail a l w) (omega arith))

ranges-fit : (n : ℕ) (l post : List ℕ) → Words l → fits_many (group range) (pairs n l) post
unfolding lent.pairs
ranges-fit zero l post w = tt
ranges-fit (suc n) [] post w = tt
ranges-fit (suc n) (a ∷ []) post w = tt
ranges-fit (suc n) (a ∷ b ∷ l) post w = ((w 0, (w 1, refl)), ranges-fit n l post (λ i. w (suc (suc i))))

-- no item of a list is refused by itself
none-refused : {B : Type 0} (f : Form B) → ((b : B) → f.refusal b ≡ none) → (bs : List B) → (list f).refusal bs ≡ none
unfolding layout.refusal_of form.refusal_many
none-refused {B} f free bs = rw (go bs)
  where
    go : (bs : List B) → refusal_many f bs ≡ none
    go [] = refl
    go (b ∷ bs) = rw (free b, go bs)

module _ (c : Contact) (ty : ContactTyped c) where
  -- ---- keys
  pub keys-fit : (post : List ℕ) → fits_of keys (keys_of c) post
  keys-fit post = (ty.door_a_to_b, (ty.door_b_to_a, (ty.route_key, (ty.resume_index, (ty.chain_key, (ty.sent_msgno, refl))))))

  pub keys-granted : refusal_of keys (keys_of c) ≡ none
  unfolding layout.refusal_of
  keys-granted = refl

  -- ---- numbers
  module _ (l : Lists) (lt : ListsTyped l) (all : AllCounted c l) where
    above-long : length (pairs c.above l.above) ≡ c.above
    above-long = length_pairs c.above l.above all.above.held

    expired-long : length (pairs c.expired l.expired) ≡ c.expired
    expired-long = length_pairs c.expired l.expired all.expired.held

    unacked-long : length (take c.unacked l.unacked) ≡ c.unacked
    unacked-long = length-take-le c.unacked l.unacked (omega (arith, all.unacked.held))

    pub numbers-fits : (post : List ℕ) → fits_of numbers (numbers_of c l) post
    unfolding layout.print
    numbers-fits post = (
      ty.peer_acked,
      (
        ty.peer_read,
        (
          ty.read_marked,
          (
            ty.contiguous,
            (
              (omega (arith, above-long, all.above.few), ((refl, ranges-fit c.above l.above _ lt.above), refl)),
              (
                (omega (arith, unacked-long, all.unacked.few), ((refl, numbers_fit c.unacked l.unacked _ lt.unacked (omega (arith, all.unacked.held))), refl)),
                ((omega (arith, expired-long, all.expired.few), ((refl, ranges-fit c.expired l.expired _ lt.expired), refl)), refl),
              ),
            ),
          ),
        ),
      ),
    )

    pub numbers-granted : refusal_of numbers (numbers_of c l) ≡ none
    unfolding layout.refusal_of
    numbers-granted =
        rw (
          none-refused (group range) (λ r. refl) (pairs c.above l.above),
          none-refused u32 (λ n. refl) (take c.unacked l.unacked),
          none-refused (group range) (λ r. refl) (pairs c.expired l.expired),
        )

  -- ---- paired
  card-fits : fits_of card (value_of c.peer) []
  unfolding layout.print
  card-fits = (cards.fits c.peer ty.peer).0

  pub paired-fits : (post : List ℕ) → fits_of paired (paired_of c) post
  unfolding layout.print
  paired-fits post = (
    role-fits c.role,
    (
      refl,
      (
        verification-fits c.verification,
        (
          ty.pair_id,
          (
            ty.th,
            (
              ty.nonce_b,
              ((cards.print-short c.peer ty.peer, ((refl, card-fits), refl)), refl),
            ),
          ),
        ),
      ),
    ),
  )

  pub paired-refusal : refusal_of paired (paired_of c) ≡ refusal_of card_row (value_of c.peer)
  unfolding layout.refusal_of
  paired-refusal = last (first (refusal_of card (value_of c.peer)) none)

  -- ---- what it awaits and sends
  pub pending-fits : (post : List ℕ) → (optional (group pending)).fits (pending_of c) post
  pending-fits post = go c.pending
    where
      go : (t : Bool) → (optional (group pending)).fits (cond t (some (record { chain_key = c.pending_chain_key; msg_seed = c.pending_msg_seed })) none) post
      go true = (refl, ((ty.pending_chain_key, (ty.pending_msg_seed, refl)), refl))
      go false = (refl, (tt, refl))

  pub pending-granted : (optional (group pending)).refusal (pending_of c) ≡ none
  unfolding layout.refusal_of
  pending-granted = go c.pending
    where
      go : (t : Bool) → (optional (group pending)).refusal (cond t (some (record { chain_key = c.pending_chain_key; msg_seed = c.pending_msg_seed })) none) ≡ none
      go true = refl
      go false = refl

  dir-fits : (d : Dir) → dir_of (dir_byte d) ≡ some d
  dir-fits dir.I = refl
  dir-fits dir.R = refl

  pub send-fits : (post : List ℕ) → (optional (group send)).fits (send_of c.send c.send_key) post
  send-fits post = go c.send ty.send
    where
      go : (s : code.Option SendChain) → SendTyped s → (optional (group send)).fits (send_of s c.send_key) post
      go code.None t = (refl, (tt, refl))
      go (code.Some s) t = (refl, ((t.0, (dir-fits s.dir, (t.1, (ty.send_key, refl)))), refl))

  pub send-granted : (optional (group send)).refusal (send_of c.send c.send_key) ≡ none
  unfolding layout.refusal_of
  send-granted = go c.send
    where
      go : (s : code.Option SendChain) → (optional (group send)).refusal (send_of s c.send_key) ≡ none
      go code.None = refl
      go (code.Some s) = refl

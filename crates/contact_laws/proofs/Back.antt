-- The struct of a value, and lists with its items in them: they stand for the value, and the row that would be written of them is its print.
-- Assumes nothing.
use Prim.Native.Nat.{ℕ, ◌*◌, ◌/◌, ◌^◌, ◌≤◌, ◌<◌}
use mathlib.Core.List.{List, [], ◌++◌, append-nil}
use mathlib.Core.Bool.{true, cond}
use mathlib.Core.Option.{Option, none, some}
use mathlib.Core.Path.{◌≡◌, refl, sym, ap, ap₂, ◌∙◌}
use native.Mathlib.Omega.{arith}
use lib.ListN.{length, take, drop}
use lib.Dec.{leb}
use lib.Seq.{take_at}
use borrow.Author.Tests.{le-leb, leb-true}
use Rattle.layout.specs.Form.{Form, bytes_of, u32, print_many, fits_many}
use Rattle.layout.specs.Layout.{print, fits_of, group, present, optional, list}
use Rattle.layout.specs.Layout as layout
use Rattle.rows.specs.Values as value
use Rattle.rows.specs.Values.{Range}
use Rattle.rows.specs.Rows.{card, pending, send, chain, skipped, range, contact}
use Rattle.put.specs.Put.{put}
use Rattle.put.proofs.Put.{length-put, put_front}
use Rattle.card.proofs.RoundTrip as cards
use Rattle.contact_lists.specs.Places.{print_places, places_of}
use Rattle.contact_lists.specs.Places as places
use Rattle.received.specs.Lent.{pairs, flat}
use Rattle.received.proofs.Pairs.{length-flat, pairs-flat}
use Rattle.contact_parts.specs.Parts.{Chained, chained, joined}
use Rattle.contact_parts.specs.Parts as parts
use Rattle.contact_parts.proofs.Parts.{print-in-parts}
use Rattle.contact_lent.specs.Lent.{chains_bytes, skipped_bytes}
use Rattle.contact_lent.proofs.Laws.{Filled, chains-filled, skipped-filled}
use Rattle.contact.specs.Contact.{Lists, send_key_of, pending_key_of, pending_seed_of, contact_of, long_enough, filled}
use Rattle.contact.specs.Contact as contacts
use Rattle.contact.proofs.Counts.{Five, five, in-51, in-46, in-2}
use Rattle.contact_image.specs.Row as spec
use Rattle.numbers.specs.Lists.{within}
use Rattle.contact_image.specs.Row.{counted, paired_of, send_of, chained_of, numbers_of, chained_image, image, contact_in}
use Rattle.contact_image.proofs.Bytes.{list-is}

-- ---- lists with items in them
-- places
module _ {B : Type 0} (w : ℕ) (f : Form B) (row : ℕ → List ℕ → List ℕ) (bs : List B) (l : List ℕ) (fill : (rest : List ℕ) → Filled w f row bs rest) (room : w * length bs ≤ length l) where
  behind : List ℕ
  behind = drop (length (print_places w f bs)) l

  in-front : put l 0 (print_places w f bs) ≡ print_places w f bs ++ behind
  unfolding behind
  in-front = put_front l (print_places w f bs) (omega (arith, (fill []).long))

  places-back : places_of w f (length bs) (put l 0 (print_places w f bs)) ≡ bs
  unfolding places.places_of
  places-back = rw (in-front, (fill behind).reads)

  bytes_back : row (length bs) (put l 0 (print_places w f bs)) ≡ print_many f bs
  bytes_back = rw in-front (fill behind).bytes

-- ranges and numbers, flat
pairs-back : (rs : List Range) (l : List ℕ) → 2 * length rs ≤ length l → pairs (length rs) (put l 0 (flat rs)) ≡ rs
pairs-back rs l room = rw (put_front l (flat rs) (omega (arith, length-flat rs))) (pairs-flat rs (drop (length (flat rs)) l))

taken_back : (ns l : List ℕ) → length ns ≤ length l → take (length ns) (put l 0 ns) ≡ ns
taken_back ns l room = rw (put_front l ns room) (take_at ns (drop (length ns) l) (length ns) refl)

-- ---- what flags leave out
pending-back : (p : Option value.Pending) → cond (present p) (some (record { chain_key = pending_key_of p; msg_seed = pending_seed_of p })) none ≡ p
pending-back none = refl
pending-back (some p) = refl

send-back : (s : Option value.Send) → send_of (contacts.send_of s) (send_key_of s) ≡ s
send-back none = refl
send-back (some s) = refl

-- ---- the bytes of what it awaits and sends, and of its chains
chained-print : (c : Chained)
    → print chained c
    ≡ (optional (group pending)).print c.pending
    ++ ((optional (group send)).print c.send
    ++ ((bytes_of 2 (length c.chains) ++ print_many (group chain) c.chains) ++ (bytes_of 2 (length c.skipped) ++ print_many (group skipped) c.skipped)))
unfolding layout.print
chained-print c =
    ap (λ (bs : List ℕ). (optional (group pending)).print c.pending ++ ((optional (group send)).print c.send ++ bs))
    (ap₂ (λ (a b : List ℕ). a ++ b) (list-is (group chain) c.chains refl) (append-nil ((list (group skipped)).print c.skipped) ∙ list-is (group skipped) c.skipped refl))

-- ---- what is used of a value that can be printed
pub record ListFits {B : Type 0} (f : Form B) (bs : List B) : Type 0 where
  pub few : length bs < 256 ^ 2
  pub post : List ℕ
  pub items : fits_many f bs post

pub record Fits (v : value.Contact) : Type 0 where
  pub card : fits_of card v.card []
  pub sent_msgno : v.sent_msgno < 256 ^ 4
  pub chains : ListFits (group chain) v.chains
  pub skipped : ListFits (group skipped) v.skipped
  pub contiguous : v.contiguous < 256 ^ 4
  pub above : ListFits (group range) v.above
  pub unacked : ListFits u32 v.unacked
  pub expired : ListFits (group range) v.expired

list-fits : {B : Type 0} (f : Form B) (bs : List B) (post : List ℕ) → (list f).fits bs post → ListFits f bs
list-fits f bs post h = record { few = h.0; post = _; items = h.1.0.1 }

pub fits-of : (version : ℕ) (v : value.Contact) → fits_of (contact version) v [] → Fits v
fits-of version v h =
    let its = h.1.1.1.1.1.1 in
    let sent = its.1.1.1.1.1.1 in
    let chains = sent.1.1.1 in
    let contiguous = chains.1.1.1.1.1 in
    let above = contiguous.1 in
    record {
      card = its.0.1.0.1;
      sent_msgno = sent.0;
      chains = list-fits (group chain) v.chains _ chains.0;
      skipped = list-fits (group skipped) v.skipped _ chains.1.0;
      contiguous = contiguous.0;
      above = list-fits (group range) v.above _ above.0;
      unacked = list-fits u32 v.unacked _ above.1.0;
      expired = list-fits (group range) v.expired _ above.1.1.0;
    }

-- ---- the struct of a value that can be printed, and lists that are long enough for its items
all-within : (n items : ℕ) → leb n items ≡ true → n < 256 ^ 2 → within n items ≡ true
all-within n items held few = rw (held, le-leb n 65535 (omega arith))

module _ (version : ℕ) (v : value.Contact) (fits : fits_of (contact version) v []) (l : Lists) (enough : long_enough v l ≡ true) where
  known : Fits v
  known = fits-of version v fits

  long : Five (leb (length v.chains) (length l.chains / 51)) (leb (length v.skipped) (length l.skipped / 46)) (leb (length v.above) (length l.above / 2))
      (leb (length v.unacked) (length l.unacked)) (leb (length v.expired) (length l.expired / 2))
  long = five _ _ _ _ _ enough

  -- ---- part by part
  paired-back : paired_of (contact_of v) ≡ parts.paired_of v
  paired-back = λ i. record {
    role = v.role;
    verification = v.verification;
    pair_id = v.pair_id;
    th = v.th;
    nonce_b = v.nonce_b;
    card = cards.value-back v.card [] known.card i;
  }

  chains-room : 51 * length v.chains ≤ length l.chains
  chains-room = in-51 (length v.chains) (length l.chains) long.chains

  skipped-room : 46 * length v.skipped ≤ length l.skipped
  skipped-room = in-46 (length v.skipped) (length l.skipped) long.skipped

  chains-in : (rest : List ℕ) → Filled 51 (group chain) chains_bytes v.chains rest
  chains-in rest = chains-filled v.chains rest known.chains.post known.chains.items

  skipped-in : (rest : List ℕ) → Filled 46 (group skipped) skipped_bytes v.skipped rest
  skipped-in rest = skipped-filled v.skipped rest known.skipped.post known.skipped.items

  chained-back : chained_of (contact_of v) (filled v l) ≡ parts.chained_of v
  chained-back = λ i. record {
    pending = pending-back v.pending i;
    send = send-back v.send i;
    chains = places-back 51 (group chain) chains_bytes v.chains l.chains chains-in chains-room i;
    skipped = places-back 46 (group skipped) skipped_bytes v.skipped l.skipped skipped-in skipped-room i;
  }

  numbers-back : numbers_of (contact_of v) (filled v l) ≡ parts.numbers_of v
  numbers-back = λ i. record {
    peer_acked = v.peer_acked;
    peer_read = v.peer_read;
    read_marked = v.read_marked;
    contiguous = v.contiguous;
    above = pairs-back v.above l.above (in-2 (length v.above) (length l.above) long.above) i;
    unacked = taken_back v.unacked l.unacked (leb-true (length v.unacked) (length l.unacked) long.unacked) i;
    expired = pairs-back v.expired l.expired (in-2 (length v.expired) (length l.expired) long.expired) i;
  }

  -- ---- the value, and its print
  pub value-back : contact_in (contact_of v) (filled v l) ≡ v
  value-back = λ i. joined (paired-back i) (parts.keys_of v) (chained-back i) (numbers-back i)

  chained-prints : chained_image (contact_of v) (filled v l) ≡ print chained (parts.chained_of v)
  unfolding spec.chained_image
  chained-prints =
      rw (
        pending-back v.pending,
        send-back v.send,
        bytes_back 51 (group chain) chains_bytes v.chains l.chains chains-in chains-room,
        bytes_back 46 (group skipped) skipped_bytes v.skipped l.skipped skipped-in skipped-room,
      ) (sym (chained-print (parts.chained_of v)))

  pub image-back : image (contact_of v) (filled v l) ≡ print (contact version) v
  unfolding spec.image
  image-back = rw (paired-back, chained-prints, numbers-back) (sym (print-in-parts version v))

  -- ---- no count is above its list's length, or above 65,535
  pub counted_back : counted (contact_of v) (filled v l) ≡ true
  unfolding counted
  counted_back =
      simp length-put (rw (
        all-within (length v.chains) (length l.chains / 51) long.chains known.chains.few,
        all-within (length v.skipped) (length l.skipped / 46) long.skipped known.skipped.few,
        all-within (length v.above) (length l.above / 2) long.above known.above.few,
        all-within (length v.unacked) (length l.unacked) long.unacked known.unacked.few,
        all-within (length v.expired) (length l.expired / 2) long.expired known.expired.few,
      ))

-- Lists with items in their places: what is handed in again, what open fills and what cover stores is what the ledger lays.
-- Assumes nothing.
use Prim.Native.Nat.{ℕ, ◌-◌, ◌*◌, ◌/◌, ◌≤◌, min, max}
use mathlib.Core.List.{List, [], ◌++◌, append-nil, append_assoc}
use mathlib.Core.Bool.{true}
use mathlib.Core.Path.{◌≡◌, sym, ap, ◌∙◌}
use native.Mathlib.Omega.{arith}
use lib.ListN.{length, take, drop, length-append, length-replicate, take-append-drop}
use lib.Seq.{take_all, take_at, take-take, length-take-le}
use lib.Dec.{leb}
use borrow.Author.Tests.{leb-true}
use Rattle.layout.specs.Veil.{zeros}
use Rattle.layout.specs.Layout.{group}
use Rattle.layout.specs.RowLaws.{Valid}
use Rattle.rows.specs.Values.{Range, Contact}
use Rattle.rows.specs.Rows.{chain, skipped, contact}
use Rattle.put.specs.Put.{put}
use Rattle.put.proofs.Put.{put_front}
use Rattle.contact_lists.specs.Places.{print_places}
use Rattle.numbers.specs.Ranges.{Received}
use Rattle.received.specs.Lent.{flat, stored}
use Rattle.received.specs.Lent as lent
use Rattle.rows.proofs.Tests.{order}
use Rattle.received.proofs.Pairs.{length-flat}
use Rattle.contact_lent.proofs.Laws.{chains-filled, skipped-filled}
use Rattle.contact.specs.Contact.{Lists, contact_of, long_enough, filled}
use Rattle.contact.proofs.Counts.{Five, five}
use Rattle.contact_laws.proofs.Back.{fits-of}
use Rattle.calls_step.specs.Step.{above_as}
use Rattle.ledger.specs.Ledger.{with_numbers}
use Rattle.calls_step.specs.Stands.{Holds, HoldsAll}
use Rattle.calls_step.specs.Legal.{SameLists}
use Rattle.calls_step.specs.Agree.{laid, laid_lists}

-- ---- one list
-- what stands there, put there again
put-again : (b : ℕ) (l : List ℕ) → b ≤ length l → put l 0 (take b l) ≡ l
put-again b l h =
    let n : length (take b l) ≡ b = length-take-le b l h in
    put_front l (take b l) (omega arith) ∙ rw (n, take-append-drop b l)

-- of a items there are as many at the front as b places hold
put-items : (a b : ℕ) (items l : List ℕ) → b ≤ length l → length items ≡ a → take (min a b) l ≡ take (min a b) items → put l 0 (take b items) ≡ l
put-items a b items l room long e =
    order a b
    (λ h. let m : min a b ≡ a = omega arith in
    let f : take a l ≡ take a items = rw m at e in
    rw (take_all b items (omega arith), ← take_all a items (omega arith), ← f) (put-again a l (omega arith)))
    (λ h. let m : min a b ≡ b = omega arith in
    let f : take b l ≡ take b items = rw m at e in
    rw (← f) (put-again b l room))

-- handed in again: w and the number m of whole items in the list are such that products are as they should be
same-items : (w n m : ℕ) (items left lent : List ℕ) → w * min n m ≡ min (w * n) (w * m) → w * m ≤ length lent → Holds w n items left
    → take (w * min n m) lent ≡ take (w * min n m) left → put lent 0 (take (w * m) items) ≡ lent
same-items w n m items left lent law room h e =
    put-items (w * n) (w * m) items lent room h.long
    (rw law at e ∙ sym (take-take (min (w * n) (w * m)) (w * n) left (omega arith)) ∙ ap (λ (x : List ℕ). take (min (w * n) (w * m)) x) h.front)

-- items for which there is room
pub holds-put : (w n : ℕ) (items more l : List ℕ) → length items ≡ w * n → length (items ++ more) ≤ length l → Holds w n items (put l 0 (items ++ more))
holds-put w n items more l long room =
    let behind : List ℕ = drop (length (items ++ more)) l in
    record { long = long; front = rw (put_front l (items ++ more) room, append_assoc items more behind) (take_at items (more ++ behind) (w * n) long) }

pub holds-bare : (w n : ℕ) (items l : List ℕ) → length items ≡ w * n → length items ≤ length l → Holds w n items (put l 0 items)
holds-bare w n items l long room = record { long = long; front = rw (put_front l items room) (take_at items (drop (length items) l) (w * n) long) }

-- ---- five lists
-- the lengths of a contact's items
record Long (v : Contact) : Type 0 where
  chains : length (print_places 51 (group chain) v.chains) ≡ 51 * length v.chains
  skipped : length (print_places 46 (group skipped) v.skipped) ≡ 46 * length v.skipped

long : (v : Contact) → Valid (contact 3) v → Long v
long v valid =
    let k = fits-of 3 v valid.fits in
    record {
      chains = (chains-filled v.chains [] k.chains.post k.chains.items).long;
      skipped = (skipped-filled v.skipped [] k.skipped.post k.skipped.items).long;
    }

-- other numbers, and the ranges of them in `above`
pub holds-with : (v : Contact) (n : ℕ) (r : Received) (l : Lists) (above : List ℕ) → HoldsAll v l
    → Holds 2 (length r.above) (flat r.above) above → HoldsAll (with_numbers n r v) (above_as above l)
holds-with v n r l above h a = record { chains = h.chains; skipped = h.skipped; above = a; unacked = h.unacked; expired = h.expired }

-- lists that are handed in again are as the ledger lays them
pub laid-again : (v : Contact) (left lent : Lists) → HoldsAll v left → SameLists (contact_of v) left lent → laid_lists v 0 lent ≡ lent
unfolding laid
laid-again v left lent h e = λ i. record {
  chains = same-items 51 (length v.chains) (length lent.chains / 51) _ left.chains lent.chains (omega arith) (omega arith) h.chains e.chains i;
  skipped = same-items 46 (length v.skipped) (length lent.skipped / 46) _ left.skipped lent.skipped (omega arith) (omega arith) h.skipped e.skipped i;
  above = (ap (λ (x : List ℕ). put lent.above 0 (take (2 * (length lent.above / 2)) x)) (append-nil (flat v.above))
      ∙ same-items 2 (length v.above) (length lent.above / 2) _ left.above lent.above (omega arith) (omega arith) h.above e.above) i;
  unacked = same-items 1 (length v.unacked) (length lent.unacked / 1) _ left.unacked lent.unacked (omega arith) (omega arith) h.unacked e.unacked i;
  expired = same-items 2 (length v.expired) (length lent.expired / 2) _ left.expired lent.expired (omega arith) (omega arith) h.expired e.expired i;
}

-- ---- lists that are long enough for all items
module _ (v : Contact) (valid : Valid (contact 3) v) (l : Lists) (enough : long_enough v l ≡ true) where
  all-long : Five (leb (length v.chains) (length l.chains / 51)) (leb (length v.skipped) (length l.skipped / 46)) (leb (length v.above) (length l.above / 2))
      (leb (length v.unacked) (length l.unacked)) (leb (length v.expired) (length l.expired / 2))
  all-long = five _ _ _ _ _ enough

  room-chains : length v.chains ≤ length l.chains / 51
  room-chains = leb-true (length v.chains) (length l.chains / 51) all-long.chains

  room-skipped : length v.skipped ≤ length l.skipped / 46
  room-skipped = leb-true (length v.skipped) (length l.skipped / 46) all-long.skipped

  room-above : length v.above ≤ length l.above / 2
  room-above = leb-true (length v.above) (length l.above / 2) all-long.above

  room-unacked : length v.unacked ≤ length l.unacked
  room-unacked = leb-true (length v.unacked) (length l.unacked) all-long.unacked

  room-expired : length v.expired ≤ length l.expired / 2
  room-expired = leb-true (length v.expired) (length l.expired / 2) all-long.expired

  -- open fills them as the ledger lays them
  pub laid_filled : laid_lists v 0 l ≡ filled v l
  unfolding laid
  laid_filled =
      let k = long v valid in
      λ i. record {
        chains = put l.chains 0 (take_all (51 * (length l.chains / 51)) (print_places 51 (group chain) v.chains) (omega (arith, k.chains, room-chains)) i);
        skipped = put l.skipped 0 (take_all (46 * (length l.skipped / 46)) (print_places 46 (group skipped) v.skipped) (omega (arith, k.skipped, room-skipped)) i);
        above = put l.above 0 ((ap (λ (x : List ℕ). take (2 * (length l.above / 2)) x) (append-nil (flat v.above))
            ∙ take_all (2 * (length l.above / 2)) (flat v.above) (omega (arith, length-flat v.above, room-above))) i);
        unacked = put l.unacked 0 (take_all (1 * (length l.unacked / 1)) v.unacked (omega (arith, room-unacked)) i);
        expired = put l.expired 0 (take_all (2 * (length l.expired / 2)) (flat v.expired) (omega (arith, length-flat v.expired, room-expired)) i);
      }

  pub holds-filled : HoldsAll v (filled v l)
  holds-filled =
      let k = long v valid in
      record {
        chains = holds-bare 51 (length v.chains) _ l.chains k.chains (omega (arith, k.chains, room-chains));
        skipped = holds-bare 46 (length v.skipped) _ l.skipped k.skipped (omega (arith, k.skipped, room-skipped));
        above = holds-bare 2 (length v.above) _ l.above (length-flat v.above) (omega (arith, length-flat v.above, room-above));
        unacked = holds-bare 1 (length v.unacked) _ l.unacked (omega arith) (omega (arith, room-unacked));
        expired = holds-bare 2 (length v.expired) _ l.expired (length-flat v.expired) (omega (arith, length-flat v.expired, room-expired));
      }

-- ---- what cover stores
pub laid-stored : (rs : List Range) (k : ℕ) (l : List ℕ) → k ≤ length l / 2 → length rs ≤ length l / 2 → laid 2 (flat rs ++ zeros (2 * (k - length rs))) l ≡ stored rs k l
unfolding laid lent.stored
laid-stored rs k l h g =
    let n : length (flat rs ++ zeros (2 * (k - length rs))) ≡ 2 * max k (length rs) =
    length-append (flat rs) (zeros (2 * (k - length rs))) ∙ simp (length-flat, length-replicate) (omega arith) in
    ap (λ (x : List ℕ). put l 0 x) (take_all (2 * (length l / 2)) (flat rs ++ zeros (2 * (k - length rs))) (omega arith))

pub holds-stored : (rs : List Range) (k : ℕ) (l : List ℕ) → k ≤ length l / 2 → length rs ≤ length l / 2 → Holds 2 (length rs) (flat rs) (stored rs k l)
unfolding lent.stored
holds-stored rs k l h g =
    let n : length (flat rs ++ zeros (2 * (k - length rs))) ≡ 2 * max k (length rs) =
    length-append (flat rs) (zeros (2 * (k - length rs))) ∙ simp (length-flat, length-replicate) (omega arith) in
    holds-put 2 (length rs) (flat rs) (zeros (2 * (k - length rs))) l (length-flat rs) (omega arith)

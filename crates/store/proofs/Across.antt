-- Questions 25 to 33 are a yes at every entry exactly if `Across` holds.
-- Assumes nothing.
use Prim.Native.Nat.{ℕ, zero, suc, ◌≤◌, ◌<◌}
use mathlib.Core.List.{List}
use mathlib.Core.Bool.{Bool, true, false, cond, ◌&&◌, ◌||◌, not}
use mathlib.Core.Option.{Option, none, some}
use mathlib.Core.Path.{◌≡◌, refl, sym, ap, ◌∙◌}
use native.Mathlib.Omega.{arith}
use native.Mathlib.Decide.{dec_le}
use lib.ListN.{length}
use lib.Dec.{leb, eqb, T, leb→le, le→leb, ltb→lt, lt→ltb, eqb→eq}
use Rattle.store.specs.declared.Entry.{Entry}
use Rattle.store.specs.Kinds.{CONTACT, QUEUED, COURIER, contact, queued, courier, kind_of, Seen}
use Rattle.store.specs.Store.{entry_at, is_of, before, queued_before, contact_before, next_in, last_slot, low_depositor, across_as}
use Rattle.store.specs.Accepted.{Owner, Twice, Across}
use Rattle.store.proofs.Rounds.{some≢none}
use Rattle.store.proofs.Tests.{truth, both, pair, AllYes, found-any, never, nowhere, not_in, in-not, eq→eqb, is-of, of_is}
use Rattle.store.proofs.ByKind.{Sort, is-device, is-contact, is-queued, is-courier, is-unknown, sort}

-- contacts come before queued rows
abbrev pub Sorted : List Entry → Type 0
Sorted es = (j i : ℕ) → j < length es → i < length es → (entry_at es j).kind ≡ CONTACT → (entry_at es i).kind ≡ QUEUED → j < i

module _ (es : List Entry) (look : Entry → Seen) where
  -- ---- the contact that is looked at
  pub record FoundBefore (i id : ℕ) (x : Seen) : Type 0 where
    pub place : ℕ
    pub earlier : place < i
    pub «is» : T (is_of CONTACT id (entry_at es place))
    pub shows : x ≡ look (entry_at es place)

  owner-found : (i id : ℕ) → T (before es i CONTACT id) → FoundBefore i id (contact_before es look i id)
  owner-found zero id h = absurd h
  owner-found (suc i) id h = go (is_of CONTACT id (entry_at es i)) refl h (owner-found i id)
    where
      go : (t : Bool) → is_of CONTACT id (entry_at es i) ≡ t → T (t || before es i CONTACT id) → (T (before es i CONTACT id) → FoundBefore i id (contact_before es look i id))
          → FoundBefore (suc i) id (cond t (look (entry_at es i)) (contact_before es look i id))
      go true e g ih = record { place = i; earlier = omega arith; «is» = truth (is_of CONTACT id (entry_at es i)) e; shows = refl }
      go false e g ih = let r = ih g in record { place = r.place; earlier = omega (arith, r.earlier); «is» = r.«is»; shows = r.shows }

  pub owner-is : (i id j : ℕ) → j < i → T (is_of CONTACT id (entry_at es j)) → ((m : ℕ) → m < i → T (is_of CONTACT id (entry_at es m)) → m ≡ j) → contact_before es look i id ≡ look (entry_at es j)
  owner-is i id j b h u =
      let r = owner-found i id (found-any i (λ m. is_of CONTACT id (entry_at es m)) j b h) in
      r.shows ∙ ap (λ (m : ℕ). look (entry_at es m)) (u r.place r.earlier r.«is»)

  -- ---- yes at every entry is Across
  abbrev Yes : ℕ → Type 0
  Yes i = AllYes (across_as es look (kind_of (entry_at es i).kind) (entry_at es i) i)

  twice_of : {k i j : ℕ} → Twice es k j i → T (is_of k (entry_at es i).id (entry_at es j))
  twice_of {k} {i} {j} t = of_is k (entry_at es i).id (entry_at es j) t.other t.same

  of-twice : (k i j : ℕ) → (entry_at es i).kind ≡ k → T (is_of k (entry_at es i).id (entry_at es j)) → Twice es k j i
  of-twice k i j e t = let p = is-of k (entry_at es i).id (entry_at es j) t in record { one = e; other = p.0; same = p.1 }

  low-found : (o : Option ℕ) → T (low_depositor es look o) → (d : ℕ) → o ≡ some d → d < next_in look es
  low-found none h d e = absurd (some≢none (sym e))
  low-found (some c) h d e = let same : c ≡ d = cc in rw same at (ltb→lt c (next_in look es) h)

  found-low : (o : Option ℕ) → ((d : ℕ) → o ≡ some d → d < next_in look es) → T (low_depositor es look o)
  found-low none h = tt
  found-low (some d) h = lt→ltb d (next_in look es) (h d refl)

  yes-owner : (i : ℕ) → i < length es → (entry_at es i).kind ≡ QUEUED → Yes i → Owner es look i
  yes-owner i b k a =
      let e = entry_at es i in
      let y : AllYes (across_as es look queued e i) = rw k at a in
      let r = owner-found i e.id y.0 in
      let at = is-of CONTACT e.id (entry_at es r.place) r.«is» in
      let ms = both (leb 1 e.msgno) (leb e.msgno (contact_before es look i e.id).sent_msgno) y.1.0 in
      record {
        place = r.place;
        below = omega (arith, r.earlier);
        «is» = at.0;
        id = at.1;
        from = leb→le 1 e.msgno ms.0;
        to = rw r.shows at (leb→le e.msgno (contact_before es look i e.id).sent_msgno ms.1);
        unacked = rw r.shows at (not_in e.msgno (contact_before es look i e.id).unacked y.1.1.0);
      }

  pub yes-across : ((i : ℕ) → i < length es → Yes i) → Across es look
  yes-across h = record {
    below_next = λ i b k. ltb→lt (entry_at es i).id (next_in look es) (of-contact i b k).0;
    contacts-new = λ i j b c t. never i (λ m. is_of CONTACT (entry_at es i).id (entry_at es m)) (of-contact i b t.one).1.0 j c (twice_of t);
    owners = λ i b k. yes-owner i b k (h i b);
    queued-new = λ i j b c t m. let y : AllYes (across_as es look queued (entry_at es i) i) = rw t.one at (h i b) in
        never i (λ m. is_of QUEUED (entry_at es i).id (entry_at es m) && eqb (entry_at es m).msgno (entry_at es i).msgno) y.1.1.1.0 j c
        (pair (is_of QUEUED (entry_at es i).id (entry_at es j)) (eqb (entry_at es j).msgno (entry_at es i).msgno) (twice_of t) (eq→eqb (entry_at es j).msgno (entry_at es i).msgno m));
    depositors = λ i d b k e. low-found (look (entry_at es i)).depositor (of-courier i b k).0 d e;
    slots-new = λ i j b c t. never i (λ m. is_of COURIER (entry_at es i).id (entry_at es m)) (of-courier i b t.one).1.0 j c (twice_of t);
    below_last = λ i b k. ltb→lt (entry_at es i).id last_slot (of-courier i b k).1.1.0;
  }
    where
      of-contact : (i : ℕ) → i < length es → (entry_at es i).kind ≡ CONTACT → AllYes (across_as es look contact (entry_at es i) i)
      of-contact i b k = rw k at (h i b)

      of-courier : (i : ℕ) → i < length es → (entry_at es i).kind ≡ COURIER → AllYes (across_as es look courier (entry_at es i) i)
      of-courier i b k = rw k at (h i b)

  -- ---- and the other way round
  one-owner : Across es look → (i : ℕ) → i < length es → (o : Owner es look i) (m : ℕ) → m < i → T (is_of CONTACT (entry_at es i).id (entry_at es m)) → m ≡ o.place
  one-owner a i b o m c t = go (dec_le m o.place) (dec_le o.place m) (is-of CONTACT (entry_at es i).id (entry_at es m) t)
    where
      go : Dec (m ≤ o.place) → Dec (o.place ≤ m) → ((entry_at es m).kind ≡ CONTACT) × ((entry_at es m).id ≡ (entry_at es i).id) → m ≡ o.place
      go (yes x) (yes y) p = omega arith
      go (no x) y p = absurd (a.contacts-new m o.place (omega arith) (omega arith) (record { one = p.0; other = o.«is»; same = o.id ∙ sym p.1 }))
      go (yes x) (no y) p = absurd (a.contacts-new o.place m o.below (omega arith) (record { one = o.«is»; other = p.0; same = p.1 ∙ sym o.id }))

  queued-yes : Sorted es → Across es look → (i : ℕ) → i < length es → (entry_at es i).kind ≡ QUEUED → Owner es look i → AllYes (across_as es look queued (entry_at es i) i)
  queued-yes sorted a i b k o =
      let e = entry_at es i in
      let earlier = sorted o.place i o.below b o.«is» k in
      let t = of_is CONTACT e.id (entry_at es o.place) o.«is» o.id in
      let c : contact_before es look i e.id ≡ look (entry_at es o.place) = owner-is i e.id o.place earlier t (one-owner a i b o) in (
        found-any i (λ m. is_of CONTACT e.id (entry_at es m)) o.place earlier t,
        (
          pair (leb 1 e.msgno) (leb e.msgno (contact_before es look i e.id).sent_msgno) (le→leb 1 e.msgno o.from) (rw c (le→leb e.msgno (look (entry_at es o.place)).sent_msgno o.to)),
          (rw c (in-not e.msgno (look (entry_at es o.place)).unacked o.unacked), (new, tt)),
        ),
      )
    where
      new : T (not (queued_before es i (entry_at es i).id (entry_at es i).msgno))
      new = nowhere i (λ m. is_of QUEUED (entry_at es i).id (entry_at es m) && eqb (entry_at es m).msgno (entry_at es i).msgno)
          (λ j d u. let p = both (is_of QUEUED (entry_at es i).id (entry_at es j)) (eqb (entry_at es j).msgno (entry_at es i).msgno) u in
          a.queued-new i j b d (of-twice QUEUED i j k p.0) (eqb→eq (entry_at es j).msgno (entry_at es i).msgno p.1))

  pub across-yes : Sorted es → Across es look → (i : ℕ) → i < length es → Yes i
  across-yes sorted a i b = go (sort (entry_at es i).kind)
    where
      -- no earlier entry of this kind has its contact or slot
      none_before : (k : ℕ) → (entry_at es i).kind ≡ k → ((j : ℕ) → j < i → Twice es k j i → ⊥) → (j : ℕ) → j < i → T (is_of k (entry_at es i).id (entry_at es j)) → ⊥
      none_before k e h j c t = h j c (of-twice k i j e t)

      go : Sort (entry_at es i).kind → Yes i
      go (is-device k) = rw k tt
      go (is-contact k) = rw k (
        lt→ltb (entry_at es i).id (next_in look es) (a.below_next i b k),
        (nowhere i (λ m. is_of CONTACT (entry_at es i).id (entry_at es m)) (none_before CONTACT k (λ j. a.contacts-new i j b)), tt),
      )
      go (is-queued k) = rw k (queued-yes sorted a i b k (a.owners i b k))
      go (is-courier k) = rw k (
        found-low (look (entry_at es i)).depositor (λ d e. a.depositors i d b k e),
        (
          nowhere i (λ m. is_of COURIER (entry_at es i).id (entry_at es m)) (none_before COURIER k (λ j. a.slots-new i j b)),
          (lt→ltb (entry_at es i).id last_slot (a.below_last i b k), tt),
        ),
      )
      go (is-unknown k) = rw k tt

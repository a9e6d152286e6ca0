-- One turn while every answer so far was yes, by the entry's kind: it asks what the round asks, and what it keeps is so.
-- Assumes nothing.
use Prim.Native.Nat.{ℕ, zero, suc, ◌<◌}
use mathlib.Core.List.{List, [], ◌∷◌}
use mathlib.Core.Bool.{Bool, true, false, cond, ◌&&◌, not}
use mathlib.Core.Option.{Option, none, some}
use mathlib.Core.Path.{◌≡◌, refl, sym, ap, ◌∙◌, subst}
use native.Mathlib.Omega.{arith}
use lib.ListN.{length}
use lib.Dec.{leb, ltb, eqb, T, ltb→lt, nltb→le, eqb→eq}
use Rattle.layout.specs.Questions.{CONTACT_BELOW_NEXT, CONTACT_NEW, QUEUED_CONTACT, QUEUED_MSGNO, QUEUED_UNACKED, QUEUED_NEW, DEPOSITOR, SLOT_NEW, SLOT_BELOW_LAST}
use Rattle.rows.specs.Checks.{any}
use Rattle.store.specs.declared.Entry.{Entry}
use Rattle.store.specs.Omitted.{Omitted}
use Rattle.store.specs.Rounds as so
use Rattle.store.specs.Rounds.{ask, first_no, turn, turns}
use Rattle.store.specs.Kinds.{DEVICE, CONTACT, QUEUED, COURIER, Kind, device, contact, queued, courier, unknown, kind_of, Seen}
use Rattle.store.specs.Store.{entry_at, is_of, part_of, before, contact_before, next_in, low_depositor, last_slot, slots_below, across_as}
use Rattle.store.specs.Duplicates.{first_duplicate}
use Rattle.store.proofs.Tests.{truth, holds, false-not, not-false, found-any, nowhere, is-of}
use Rattle.store.proofs.Rounds.{some≢none}
use Rattle.store.proofs.Across.{owner-is}
use Rattle.store.proofs.Omitting.{other-seen, contact-seen}
use Rattle.store.proofs.ByKind.{Sort, is-device, is-contact, is-queued, is-courier, is-unknown, sort}
use Rattle.store.proofs.Duplicates.{across_by, no-duplicates, one-contact, kind-new, queued-new}
use Rattle.restore_across.specs.declared.Owner.{Owner}
use Rattle.restore_across.specs.declared.Progress.{Progress}
use Rattle.restore_across.specs.Owner.{owner_seen, OwnerStands, Known}
use Rattle.restore_across.specs.Across.{Going, after, raised, depositor_in, next_contact_in, OwnerAt, owner_limit, low_in, Reusable, device_turn, contact_turn, queued_turn, courier_turn, entry_turn_as}
use Rattle.restore_across.specs.At.{read_so, sight, asked_of, Kept, KeptIn, At}
use Rattle.restore_across.proofs.Steps.{turns-last, SoFar, so_far, first-device, device-first, contact-known}

-- ---- a kind's number
abbrev Numbered : Kind → ℕ → Type 0
Numbered device n = n ≡ DEVICE
Numbered contact n = n ≡ CONTACT
Numbered queued n = n ≡ QUEUED
Numbered courier n = n ≡ COURIER
Numbered unknown n = Unit {0}

numbered : (n : ℕ) (k : Kind) → kind_of n ≡ k → Numbered k n
numbered n k p = subst (λ (x : Kind). Numbered x n) p (go (sort n))
  where
    go : Sort n → Numbered (kind_of n) n
    go (is-device e) = rw e
    go (is-contact e) = rw e
    go (is-queued e) = rw e
    go (is-courier e) = rw e
    go (is-unknown e) = rw e tt

abbrev is_device : Kind → Bool
is_device device = true
is_device contact = false
is_device queued = false
is_device courier = false
is_device unknown = false

abbrev is_courier : Kind → Bool
is_courier device = false
is_courier contact = false
is_courier queued = false
is_courier courier = true
is_courier unknown = false

true≢false : true ≡ false → ⊥
true≢false e = let z : ◌≡◌ {A = ℕ} 0 1 = cc in omega arith

no-courier : (n : ℕ) (k : Kind) → kind_of n ≡ k → is_courier k ≡ false → eqb n COURIER ≡ false
no-courier n k is other = go (eqb n COURIER) refl
  where
    go : (t : Bool) → eqb n COURIER ≡ t → t ≡ false
    go true e = absurd (true≢false (ap (λ (m : ℕ). is_courier (kind_of m)) (sym (eqb→eq n COURIER (truth (eqb n COURIER) e))) ∙ ap is_courier is ∙ other))
    go false e = refl

-- ---- the first is the device
next-first : (look : Entry → Seen) (es : List Entry) → 0 < length es → next_in look es ≡ (look (entry_at es 0)).next_contact
next-first look [] b = absurd (omega arith)
next-first look (e ∷ es) b = refl

low-as : (look : Entry → Seen) (es : List Entry) (next : ℕ) (o : Option ℕ) → next ≡ next_in look es → low_in next o ≡ low_depositor es look o
low-as look es next none h = refl
low-as look es next (some d) h = ap (λ (n : ℕ). ltb d n) h

-- ---- the i-th turn
module _ (run : List ℕ) (es : List Entry) (omitted : Omitted) (i : ℕ) (w : Progress) (b : i < length es) (asked : so.Going ≡ turns (across_by es (sight run es omitted)) 0 i (read_so run es omitted))
    (kept : Kept run es omitted i w) where
  abbrev look : Entry → Seen
  look = sight run es omitted

  abbrev e : Entry
  e = entry_at es i

  abbrev f : ℕ
  f = first_duplicate es

  all_so : SoFar run es omitted i
  all_so = so_far run es omitted i asked

  -- what stands after it, from the first no and what is kept
  after_turn : (k : Kind) → kind_of e.kind ≡ k → (o : Option ℕ) (w' : Progress) → o ≡ first_no (across_as es look k e i) → (o ≡ none → Kept run es omitted (suc i) w') → At run es omitted (suc i) (after o i w')
  after_turn k q o w' x h = record {
    asked =
        answered o ∙ ap (λ (y : Option ℕ). turn y i so.Going) (x ∙ ap (λ (y : Kind). first_no (across_as es look y e i)) (sym q)) ∙ ap (turn (across_by es look i) i) asked
        ∙ sym (turns-last (across_by es look) 0 i i (read_so run es omitted) (omega arith));
    so-kept = keeping o h;
  }
    where
      answered : (y : Option ℕ) → asked_of (after y i w') ≡ turn y i so.Going
      answered none = refl
      answered (some n) = refl

      keeping : (y : Option ℕ) → (y ≡ none → Kept run es omitted (suc i) w') → KeptIn run es omitted (suc i) (after y i w')
      keeping none g = g refl
      keeping (some n) g = tt

  -- a slot raises the highest one, and no other entry does
  other-slots : (k : Kind) → kind_of e.kind ≡ k → is_courier k ≡ false → w.slots ≡ slots_below es (suc i)
  other-slots k q other = kept.slots ∙ sym (rw (no-courier e.kind k q other))

  raised-slots : kind_of e.kind ≡ courier → raised w.slots e.id ≡ slots_below es (suc i)
  raised-slots q = ap (λ (n : ℕ). raised n e.id) kept.slots ∙ sym (rw (numbered e.kind courier q))

  -- an entry that is no device is not the first
  next-kept : (k : Kind) → kind_of e.kind ≡ k → is_device k ≡ false → w.next_contact ≡ next_in look es
  next-kept k q h = kept.next (go i (ap is_device q ∙ h))
    where
      go : (j : ℕ) → is_device (kind_of (entry_at es j).kind) ≡ false → 0 < j
      go zero x = absurd (true≢false (sym (ap (λ (n : ℕ). is_device (kind_of n)) (first-device run es omitted all_so.read)) ∙ x))
      go (suc j) x = omega arith

  -- ---- by kinds
  device-turn : kind_of e.kind ≡ device → At run es omitted (suc i) (device_turn run e w)
  device-turn q =
      let first : i ≡ 0 = device-first run es omitted all_so.read i b (numbered e.kind device q) in
      let own : next_contact_in run e ≡ (look e).next_contact = sym (ap (λ (x : Seen). x.next_contact) (other-seen run es omitted e DEVICE (numbered e.kind device q) refl)) in
      let next = own ∙ ap (λ (j : ℕ). (look (entry_at es j)).next_contact) first ∙ sym (next-first look es (omega arith)) in
      after_turn device q none _ refl (λ x. record { next = λ z. next; slots = other-slots device q refl; owner = kept.owner })

  contact-turn : kind_of e.kind ≡ contact → At run es omitted (suc i) (contact_turn e i f w)
  contact-turn q =
      let next = next-kept contact q refl in
      let new = kind-new es look i b all_so.quiet CONTACT (numbered e.kind contact q) refl refl in
      after_turn contact q _ _ (λ x. first_no (ask CONTACT_BELOW_NEXT (ltb e.id (next x)) ∷ ask CONTACT_NEW (new x) ∷ []))
      (λ x. record { next = λ z. next; slots = other-slots contact q refl; owner = kept.owner })

  courier-turn : kind_of e.kind ≡ courier → At run es omitted (suc i) (courier_turn run e i f w)
  courier-turn q =
      let next = next-kept courier q refl in
      let low = low-as look es w.next_contact (depositor_in run e) next ∙ ap (λ (x : Seen). low_depositor es look x.depositor) (sym (other-seen run es omitted e COURIER (numbered e.kind courier q) refl)) in
      let new = kind-new es look i b all_so.quiet COURIER (numbered e.kind courier q) refl refl in
      after_turn courier q _ _ (λ x. first_no (ask DEPOSITOR (low x) ∷ ask SLOT_NEW (new x) ∷ ask SLOT_BELOW_LAST (ltb e.id last_slot) ∷ []))
      (λ x. record { next = λ z. next; slots = raised-slots q; owner = kept.owner })

  unknown-turn : kind_of e.kind ≡ unknown → At run es omitted (suc i) (Going w)
  unknown-turn q = after_turn unknown q none w refl (λ x. record { next = λ z. next-kept unknown q refl; slots = other-slots unknown q refl; owner = kept.owner })

  -- ---- a queued entry: p is where its contact was found, or no place before it
  -- what is kept of it, if it was found, is what is seen of it
  abbrev StandsIf : (p upto : ℕ) → Owner → Type 0
  StandsIf p upto o = p < upto → OwnerStands (owner_seen run omitted (entry_at es p)) (part_of run (entry_at es p)) o

  queued-turn : kind_of e.kind ≡ queued → (p : ℕ) (o : Owner) → OwnerAt es e i p → StandsIf p i o → At run es omitted (suc i) (queued_turn (part_of run (entry_at es p)) e i p f o w)
  queued-turn q p o found stands = go (ltb p i) refl
    where
      is_its : ℕ → Bool
      is_its m = is_of CONTACT e.id (entry_at es m)

      go : (t : Bool) → ltb p i ≡ t → At run es omitted (suc i) (queued_turn (part_of run (entry_at es p)) e i p f o w)
      go true x =
          let l = ltb→lt p i (truth (ltb p i) x) in
          let c = entry_at es p in
          let there = found.hit l in
          let here : ltb p i ≡ before es i CONTACT e.id = x ∙ sym (holds (before es i CONTACT e.id) (found-any i is_its p l there)) in
          let only : (m : ℕ) → m < i → T (is_its m) → m ≡ p = λ m d u. one-contact es i (no-duplicates es look i all_so.quiet) m p e.id d l u there in
          let shows : owner_seen run omitted c ≡ contact_before es look i e.id = sym (contact-seen run es omitted c (is-of CONTACT e.id c there).0) ∙ sym (owner-is es look i e.id p l there only) in
          let says = (stands l).0 ∙ shows in
          let new = queued-new es look i b all_so.quiet (numbered e.kind queued q) in
          after_turn queued q _ _
          (λ y. first_no (
          ask QUEUED_CONTACT (here y)
          ∷ ask QUEUED_MSGNO (leb 1 e.msgno && leb e.msgno (says y).sent_msgno)
          ∷ ask QUEUED_UNACKED (not (any (eqb e.msgno) (says y).unacked))
          ∷ ask QUEUED_NEW (new y)
          ∷ []))
          (λ y. record { next = λ z. next-kept queued q refl; slots = other-slots queued q refl; owner = λ z. stands l })
      go false x =
          let lost : before es i CONTACT e.id ≡ false = not-false (before es i CONTACT e.id) (nowhere i is_its (found.misses (nltb→le p i (false-not (ltb p i) x)))) in
          let refuses : some QUEUED_CONTACT ≡ first_no (across_as es look queued e i) = rw lost in
          rw x (after_turn queued q (some QUEUED_CONTACT) w refuses (λ y. absurd (some≢none y)))

  -- ---- of any kind
  module _ (p : ℕ) (found : OwnerAt es e (owner_limit e i) p) where
    pub turn-as : (k : Kind) → kind_of e.kind ≡ k → (o : Owner) → StandsIf p (owner_limit e i) o → At run es omitted (suc i) (entry_turn_as k run e (entry_at es p) i p f o w)
    turn-as device q o stands = device-turn q
    turn-as contact q o stands = contact-turn q
    turn-as queued q o stands =
        let limit : owner_limit e i ≡ i = ap (λ (n : ℕ). cond (eqb n QUEUED) i 0) (numbered e.kind queued q) in
        queued-turn q p o (subst (λ (n : ℕ). OwnerAt es e n p) limit found) (λ l. stands (subst (λ (n : ℕ). p < n) (sym limit) l))
    turn-as courier q o stands = courier-turn q
    turn-as unknown q o stands = unknown-turn q

    -- what is kept of a contact is so where that contact is found again
    pub owner-again : Reusable run omitted (entry_at es p) p (owner_limit e i) (Going w)
    owner-again l x =
        let is = (is-of CONTACT e.id (entry_at es p) (found.hit l)).0 in
        subst (λ (n : ℕ). OwnerStands (owner_seen run omitted (entry_at es n)) (part_of run (entry_at es n)) w.owner) (sym x) (kept.owner (subst (λ (n : ℕ). (entry_at es n).kind ≡ CONTACT) x is))

    -- ... and its row was accepted
    pub owner-known : p < owner_limit e i → Known run omitted (entry_at es p)
    owner-known l = contact-known run es omitted all_so.read p (below (eqb e.kind QUEUED) l) (is-of CONTACT e.id (entry_at es p) (found.hit l)).0
      where
        below : (t : Bool) → p < cond t i 0 → p < length es
        below true h = omega (arith, h, b)
        below false h = absurd (omega (arith, h))

-- While every answer so far was yes, an entry is new exactly where it stands before the first one that has a duplicate.
-- Assumes nothing.
use Prim.Native.Nat.{ℕ, ◌≤◌, ◌<◌}
use mathlib.Core.List.{List}
use mathlib.Core.Bool.{Bool, true, false, ◌&&◌, not}
use mathlib.Core.Path.{◌≡◌, refl, sym, ap, ◌∙◌}
use native.Mathlib.Omega.{arith}
use native.Mathlib.Decide.{dec_le}
use lib.ListN.{length}
use lib.Dec.{ltb, eqb, T, ltb→lt, lt→ltb, T_not, not_T}
use Rattle.store.specs.declared.Entry.{Entry}
use Rattle.store.specs.Rounds.{first_no, Round, Quiet}
use Rattle.store.specs.Kinds.{CONTACT, QUEUED, COURIER, Kind, contact, queued, courier, kind_of, Seen}
use Rattle.store.specs.Store.{entry_at, is_of, any_below, before, queued_before, across_as}
use Rattle.store.specs.Duplicates.{asks_new, duplicate_before, has_duplicate, first_duplicate}
use Rattle.store.proofs.Tests.{same, AllYes, all_yes, is-of, found-any}
use Rattle.store.proofs.Searches.{FirstAt, first-at}
use Rattle.store.proofs.ByKind.{Sort, is-device, is-contact, is-queued, is-courier, is-unknown, sort}

and-true : (t : Bool) → (t && true) ≡ t
and-true true = refl
and-true false = refl

module _ (es : List Entry) where
  -- ---- a duplicate, by the entry's kind
  kind-duplicate : (e : Entry) (i k : ℕ) → e.kind ≡ k → asks_new (kind_of k) ≡ true → eqb k QUEUED ≡ false → duplicate_before es e i ≡ before es i k e.id
  kind-duplicate e i k is asked other = rw (is, asked, other) (λ x. any_below i (λ j. and-true (is_of k e.id (entry_at es j)) x))

  queued-duplicate : (e : Entry) (i : ℕ) → e.kind ≡ QUEUED → duplicate_before es e i ≡ queued_before es i e.id e.msgno
  queued-duplicate e i is = rw is

  -- ---- no duplicate so far
  abbrev pub NoDuplicates : ℕ → Type 0
  NoDuplicates i = (j : ℕ) → j < i → T (has_duplicate es j) → ⊥

  abbrev first : ℕ
  first = first_duplicate es

  its : FirstAt (has_duplicate es) 0 (length es) first
  its = first-at (has_duplicate es) 0 (length es)

  below-first : (i : ℕ) → i < length es → NoDuplicates i → ltb i first ≡ not (has_duplicate es i)
  below-first i b none_yet = same (ltb i first) (not (has_duplicate es i))
      (λ t. not_T (has_duplicate es i) (λ u. its.misses i (omega arith) (ltb→lt i first t) u)) (λ t. lt→ltb i first (go t (dec_le first i) (dec_le i first)))
    where
      go : T (not (has_duplicate es i)) → Dec (first ≤ i) → Dec (i ≤ first) → i < first
      go t (no a) c = omega arith
      go t (yes a) (no c) = absurd (none_yet first (omega arith) (its.hit (omega arith)))
      go t (yes a) (yes c) = let x : first ≡ i = omega arith in absurd (T_not (has_duplicate es i) t (rw x at (its.hit (omega arith))))

  -- two contacts of one id stand in one place
  pub one-contact : (i : ℕ) → NoDuplicates i → (j m id : ℕ) → j < i → m < i → T (is_of CONTACT id (entry_at es j)) → T (is_of CONTACT id (entry_at es m)) → j ≡ m
  one-contact i none_yet j m id b c t u = go (dec_le j m) (dec_le m j)
    where
      duplicate : (k l : ℕ) → k < l → l < i → T (is_of CONTACT id (entry_at es k)) → T (is_of CONTACT id (entry_at es l)) → ⊥
      duplicate k l d f x y =
          let p = is-of CONTACT id (entry_at es l) y in
          none_yet l f (rw (kind-duplicate (entry_at es l) l CONTACT p.0 refl refl, p.1) (found-any l (λ n. is_of CONTACT id (entry_at es n)) k d x))

      go : Dec (j ≤ m) → Dec (m ≤ j) → j ≡ m
      go (yes x) (yes y) = omega arith
      go (no x) y = absurd (duplicate m j (omega arith) b u t)
      go (yes x) (no y) = absurd (duplicate j m (omega arith) c t u)

  module _ (look : Entry → Seen) where
    -- 25 to 33 of each entry
    abbrev pub across_by : Round
    across_by i = first_no (across_as es look (kind_of (entry_at es i).kind) (entry_at es i) i)

    pub no-duplicates : (i : ℕ) → Quiet across_by 0 i → NoDuplicates i
    no-duplicates i quiet j b t = go (sort (entry_at es j).kind) t
      where
        e : Entry
        e = entry_at es j

        yes-as : (k : Kind) → kind_of e.kind ≡ k → AllYes (across_as es look k e j)
        yes-as k is = all_yes (across_as es look k e j) (ap (λ (x : Kind). first_no (across_as es look x e j)) (sym is) ∙ quiet j (omega arith) b)

        go : Sort e.kind → T (duplicate_before es e j) → ⊥
        go (is-device is) t = rw is at t
        go (is-contact is) t = T_not (before es j CONTACT e.id) (yes-as contact (ap kind_of is)).1.0 (rw (kind-duplicate e j CONTACT is refl refl) at t)
        go (is-queued is) t = T_not (queued_before es j e.id e.msgno) (yes-as queued (ap kind_of is)).1.1.1.0 (rw (queued-duplicate e j is) at t)
        go (is-courier is) t = T_not (before es j COURIER e.id) (yes-as courier (ap kind_of is)).1.0 (rw (kind-duplicate e j COURIER is refl refl) at t)
        go (is-unknown is) t = rw is at t

    -- ---- new, asked of the index alone
    module _ (i : ℕ) (b : i < length es) (quiet : Quiet across_by 0 i) where
      abbrev here : Entry
      here = entry_at es i

      new_is : (t : Bool) → has_duplicate es i ≡ t → ltb i (first_duplicate es) ≡ not t
      new_is t is = below-first i b (no-duplicates i quiet) ∙ ap not is

      pub kind-new : (k : ℕ) → here.kind ≡ k → asks_new (kind_of k) ≡ true → eqb k QUEUED ≡ false → ltb i (first_duplicate es) ≡ not (before es i k here.id)
      kind-new k is asked other = new_is (before es i k here.id) (kind-duplicate here i k is asked other)

      pub queued-new : here.kind ≡ QUEUED → ltb i (first_duplicate es) ≡ not (queued_before es i here.id here.msgno)
      queued-new is = new_is (queued_before es i here.id here.msgno) (queued-duplicate here i is)

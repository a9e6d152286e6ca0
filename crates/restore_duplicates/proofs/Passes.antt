-- One pass finds the first entry of its part that has a duplicate.
-- Assumes nothing.
use Rattle.std.proofs.Common.{◌≡◌, ℕ, ◌+◌, ◌<◌, ◌≤◌, Bool, true, false, cond, T, ltb, ◌⊎◌, List, sym, refl, subst, inl, inr, arith, ltb→lt, nltb→le, T_not}
use native.Mathlib.Decide.{dec_le}
use Rattle.store.specs.declared.Entry.{Entry}
use Rattle.store.specs.Kinds.{kind_of}
use Rattle.store.specs.Store.{entry_at, any_below}
use Rattle.store.specs.Find.{is_wanted, first_where, first_of}
use Rattle.store.specs.Duplicates.{duplicate_of, asks_new, has_duplicate}
use Rattle.store.proofs.Tests.{truth, false-not, both, pair, any_found, found-any}
use Rattle.store.proofs.Searches.{first-at, first-is}
use Rattle.filter.specs.Filter.{is_set, added}
use Rattle.restore_duplicates.specs.Keys.{hash_of}
use Rattle.restore_duplicates.specs.Parts.{in_part, added_key, best_of, turned_to, duplicate_in}
use Rattle.filter.proofs.Filter.{set-added, stays-set}
use Rattle.restore_duplicates.proofs.Keys.{duplicate-key, same-hash}

module _ (es : List Entry) (last part : ℕ) where
  abbrev asks : ℕ → Bool
  asks i = asks_new (kind_of (entry_at es i).kind)

  abbrev hash_at : ℕ → ℕ
  hash_at i = hash_of (entry_at es i)

  abbrev is_duplicate : (i j : ℕ) → Bool
  is_duplicate i j = is_wanted (duplicate_of (entry_at es i)) (entry_at es j)

  -- the keys of this part's entries before the i-th are added
  abbrev Known : (bits : List ℕ) → (i : ℕ) → Type 0
  Known bits i = (j : ℕ) → j < i → T (asks j) → T (in_part last part (hash_at j)) → T (is_set bits (hash_at j))

  -- an entry of this part whose key isn't is new
  new-key : (bits : List ℕ) (i : ℕ) → Known bits i → T (in_part last part (hash_at i)) → T (has_duplicate es i) → T (is_set bits (hash_at i))
  new-key bits i known its duplicate =
      let both_so = both (asks i) (any_below i (is_duplicate i)) duplicate in
      let found = any_found i (is_duplicate i) both_so.1 in
      let key = duplicate-key (entry_at es i) (entry_at es found.0) found.2 in
      let hash = same-hash (entry_at es i) (entry_at es found.0) key in
      subst (λ (h : ℕ). T (is_set bits h)) hash
      (known found.0 found.1 (subst (λ (k : ℕ). T (asks_new (kind_of k))) (sym key.kind) both_so.0) (subst (λ (h : ℕ). T (in_part last part h)) (sym hash) its))

  -- what a turn has found
  abbrev Turned : (i first next : ℕ) → Type 0
  Turned i first next = ((next ≡ i) × T (duplicate_in es last part i)) ⊎ ((next ≡ first) × (T (duplicate_in es last part i) → ⊥))

  turned : (bits : List ℕ) (i first : ℕ) → Known bits i → Turned i first (turned_to es bits last part i first)
  turned bits i first known = go (asks i) (in_part last part (hash_at i)) (is_set bits (hash_at i)) refl refl refl
    where
      its : T (duplicate_in es last part i) → T (has_duplicate es i) × T (in_part last part (hash_at i))
      its t = both (has_duplicate es i) (in_part last part (hash_at i)) t

      searched : T (asks i) → T (in_part last part (hash_at i)) → (found : Bool) → ltb (first_of es (duplicate_of (entry_at es i)) 0 i) i ≡ found → Turned i first (cond found i first)
      searched asked in-it true is =
          let l = ltb→lt (first_of es (duplicate_of (entry_at es i)) 0 i) i (truth (ltb (first_of es (duplicate_of (entry_at es i)) 0 i) i) is) in
          let hit = (first-at (is_duplicate i) 0 i).hit (omega arith) in
          inl (refl, pair (has_duplicate es i) (in_part last part (hash_at i)) (pair (asks i) (any_below i (is_duplicate i)) asked (found-any i (is_duplicate i) (first_of es (duplicate_of (entry_at es i)) 0 i) l hit)) in-it)
      searched asked in-it false is = inr (
        refl,
        λ t.
            let over = nltb→le (first_of es (duplicate_of (entry_at es i)) 0 i) i (false-not (ltb (first_of es (duplicate_of (entry_at es i)) 0 i) i) is) in
            let found = any_found i (is_duplicate i) (both (asks i) (any_below i (is_duplicate i)) (its t).0).1 in
            (first-at (is_duplicate i) 0 i).misses found.0 (omega arith) (omega (arith, found.1)) found.2,
      )

      go : (a p m : Bool) → asks i ≡ a → in_part last part (hash_at i) ≡ p → is_set bits (hash_at i) ≡ m
          → (let upto = cond a (cond p (cond m i 0) 0) 0 in Turned i first (best_of i (first_of es (duplicate_of (entry_at es i)) 0 upto) upto first))
      go false p m is-a is-p is_m = inr (refl, λ t. T_not (asks i) (false-not (asks i) is-a) (both (asks i) (any_below i (is_duplicate i)) (its t).0).0)
      go true false m is-a is-p is_m = inr (refl, λ t. T_not (in_part last part (hash_at i)) (false-not (in_part last part (hash_at i)) is-p) (its t).1)
      go true true false is-a is-p is_m = inr (refl, λ t. T_not (is_set bits (hash_at i)) (false-not (is_set bits (hash_at i)) is_m) (new-key bits i known (its t).1 (its t).0))
      go true true true is-a is-p is_m = searched (truth (asks i) is-a) (truth (in_part last part (hash_at i)) is-p) (ltb (first_of es (duplicate_of (entry_at es i)) 0 i) i) refl

  known_next : (bits : List ℕ) (i : ℕ) → Known bits i → Known (added_key bits last part (entry_at es i)) (i + 1)
  known_next bits i known j b asked in-it = go (dec_le i j) (asks i) (in_part last part (hash_at i)) refl refl
    where
      go : Dec (i ≤ j) → (a p : Bool) → asks i ≡ a → in_part last part (hash_at i) ≡ p → T (is_set (cond a (cond p (added bits (hash_at i)) bits) bits) (hash_at j))
      go (no c) true true is-a is-p = stays-set bits (hash_at i) (hash_at j) (known j (omega arith) asked in-it)
      go (no c) true false is-a is-p = known j (omega arith) asked in-it
      go (no c) false p is-a is-p = known j (omega arith) asked in-it
      go (yes c) true true is-a is-p = let same : j ≡ i = omega arith in rw same (set-added bits (hash_at i))
      go (yes c) true false is-a is-p = let same : j ≡ i = omega arith in absurd (T_not (in_part last part (hash_at i)) (false-not (in_part last part (hash_at i)) is-p) (rw same at in-it))
      go (yes c) false p is-a is-p = let same : j ≡ i = omega arith in absurd (T_not (asks i) (false-not (asks i) is-a) (rw same at asked))

  -- before the i-th turn: none of the entries before it has a duplicate, and the filter has their keys
  pub record Pass (bits : List ℕ) (i : ℕ) : Type 0 where
    pub misses : (m : ℕ) → m < i → T (duplicate_in es last part m) → ⊥
    pub known : Known bits i

  pub starts : (bits : List ℕ) → Pass bits 0
  starts bits = record { misses = λ m l. absurd (omega arith); known = λ j l. absurd (omega arith) }

  module _ (best : ℕ) (bits after : List ℕ) (i next : ℕ) (l : i < best) (so : Pass bits i)
      (told : (next ≡ turned_to es bits last part i best) × (after ≡ added_key bits last part (entry_at es i))) where
    turn : Turned i best next
    turn = subst (Turned i best) (sym told.0) (turned bits i best so.known)

    pub goes_on : best ≤ next → Pass after (i + 1)
    goes_on over = record { misses = miss turn; known = rw told.1 (known_next bits i so.known) }
      where
        miss : Turned i best next → (m : ℕ) → m < i + 1 → T (duplicate_in es last part m) → ⊥
        miss (inl t) m a u = omega (arith, t.0)
        miss (inr t) m a u = go (dec_le i m)
          where
            go : Dec (i ≤ m) → ⊥
            go (yes c) = let same : m ≡ i = omega arith in t.1 (rw same at u)
            go (no c) = so.misses m (omega arith) u

    pub found : next < best → next ≡ first_where (duplicate_in es last part) 0 best
    found low = go turn
      where
        go : Turned i best next → next ≡ first_where (duplicate_in es last part) 0 best
        go (inl t) = first-is (duplicate_in es last part) 0 best next (record {
          from = omega arith;
          upto = omega arith;
          hit = λ b. rw t.0 t.1;
          misses = λ m a b. so.misses m (omega (arith, t.0));
        })
        go (inr t) = omega (arith, t.0)

  pub ends : (best : ℕ) (bits : List ℕ) (i : ℕ) → best ≤ i → Pass bits i → best ≡ first_where (duplicate_in es last part) 0 best
  ends best bits i over so = first-is (duplicate_in es last part) 0 best best (record {
    from = omega arith;
    upto = omega arith;
    hit = λ l. absurd (omega arith);
    misses = λ m a b. so.misses m (omega arith);
  })

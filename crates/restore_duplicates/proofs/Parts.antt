-- All passes together find the first entry of all that has a duplicate, since each entry is of one part; and where all entries rise, there is none.
-- Assumes nothing.
use Rattle.std.proofs.Common.{◌≡◌, ℕ, ◌+◌, ◌/◌, ◌<◌, ◌≤◌, T, ltb, List, length, sym, subst, arith, eqb→eq, ltb→lt, lt→ltb}
use native.Mathlib.Decide.{dec_le}
use lib.Bits.{and_le_r}
use Rattle.store.specs.declared.Entry.{Entry}
use Rattle.store.specs.Store.{entry_at}
use Rattle.store.specs.Find.{first_where}
use Rattle.store.specs.Duplicates.{has_duplicate, first_duplicate}
use Rattle.store.proofs.Tests.{both, pair, eq→eqb}
use Rattle.store.proofs.Searches.{FirstAt, first-at, first-is}
use Rattle.restore_duplicates.specs.Above.{is_stop_at}
use Rattle.restore_duplicates.specs.Keys.{hash_of}
use Rattle.restore_duplicates.specs.Parts.{part_of, in_part, duplicate_in, duplicates_below}
use Rattle.restore_duplicates.proofs.Above.{none-twice}

module _ (es : List Entry) where
  abbrev its : (last i : ℕ) → ℕ
  its last i = part_of last (hash_of (entry_at es i))

  -- ---- one more part
  none_below : (last i : ℕ) → T (duplicates_below es last 0 i) → ⊥
  none_below last i t = let l = ltb→lt (its last i) 0 (both (has_duplicate es i) (ltb (its last i) 0) t).1 in omega arith

  pub no-parts : (last best : ℕ) → best ≡ first_where (duplicates_below es last 0) 0 best
  no-parts last best = first-is (duplicates_below es last 0) 0 best best (record { from = omega arith; upto = omega arith; hit = λ l. absurd (omega arith); misses = λ m a b. none_below last m })

  -- an entry of the parts below the next one is of this part or of one below it
  module _ (last part i : ℕ) where
    this-part : T (duplicate_in es last part i) → T (duplicates_below es last (part + 1) i)
    this-part t =
        let so = both (has_duplicate es i) (in_part last part (hash_of (entry_at es i))) t in
        pair (has_duplicate es i) (ltb (its last i) (part + 1)) so.0 (lt→ltb (its last i) (part + 1) (omega (arith, eqb→eq (its last i) part so.1)))

    more_parts : T (duplicates_below es last part i) → T (duplicates_below es last (part + 1) i)
    more_parts t =
        let so = both (has_duplicate es i) (ltb (its last i) part) t in
        pair (has_duplicate es i) (ltb (its last i) (part + 1)) so.0 (lt→ltb (its last i) (part + 1) (omega (arith, ltb→lt (its last i) part so.1)))

    of_parts : T (duplicates_below es last (part + 1) i) → (T (duplicate_in es last part i) → ⊥) → (T (duplicates_below es last part i) → ⊥) → ⊥
    of_parts t this below = go (dec_le part (its last i))
      where
        so : T (has_duplicate es i) × T (ltb (its last i) (part + 1))
        so = both (has_duplicate es i) (ltb (its last i) (part + 1)) t

        low : its last i < part + 1
        low = ltb→lt (its last i) (part + 1) so.1

        go : Dec (part ≤ its last i) → ⊥
        go (yes a) = let same : its last i ≡ part = omega (arith, low) in this (pair (has_duplicate es i) (in_part last part (hash_of (entry_at es i))) so.0 (eq→eqb (its last i) part same))
        go (no a) = below (pair (has_duplicate es i) (ltb (its last i) part) so.0 (lt→ltb (its last i) part (omega arith)))

  -- `first` is the first that has a duplicate, of the parts before this one, and `next` the first of this part, if it is before that
  pub next-part : (last best part first next : ℕ) → first ≡ first_where (duplicates_below es last part) 0 best → next ≡ first_where (duplicate_in es last part) 0 first → next ≡ first_where (duplicates_below es last (part + 1)) 0 best
  next-part last best part first next so told = first-is (duplicates_below es last (part + 1)) 0 best next (subst (FirstAt (duplicates_below es last (part + 1)) 0 best) (sym told) go)
    where
      this : FirstAt (duplicate_in es last part) 0 first (first_where (duplicate_in es last part) 0 first)
      this = first-at (duplicate_in es last part) 0 first

      below : FirstAt (duplicates_below es last part) 0 best first
      below = subst (FirstAt (duplicates_below es last part) 0 best) (sym so) (first-at (duplicates_below es last part) 0 best)

      hits : Dec (first ≤ first_where (duplicate_in es last part) 0 first) → first_where (duplicate_in es last part) 0 first < best → T (duplicates_below es last (part + 1) (first_where (duplicate_in es last part) 0 first))
      hits (yes a) l =
          let same : first_where (duplicate_in es last part) 0 first ≡ first = omega (arith, this.upto) in
          rw same (more_parts last part first (below.hit (omega arith)))
      hits (no a) l = this-part last part (first_where (duplicate_in es last part) 0 first) (this.hit (omega arith))

      go : FirstAt (duplicates_below es last (part + 1)) 0 best (first_where (duplicate_in es last part) 0 first)
      go = record {
        from = omega arith;
        upto = omega (arith, this.upto, below.upto);
        hit = λ l. hits (dec_le first (first_where (duplicate_in es last part) 0 first)) (omega arith);
        misses = λ m a b t. of_parts last part m t (this.misses m a b) (below.misses m a (omega (arith, this.upto)));
      }

  -- ---- all parts
  abbrev whole : ℕ
  whole = length es

  pub all-parts : (last parts best : ℕ) → last < parts → first_where (duplicates_below es last parts) 0 best ≡ first_where (has_duplicate es) 0 best
  all-parts last parts best l = first-is (has_duplicate es) 0 best (first_where (duplicates_below es last parts) 0 best) (record {
    from = omega arith;
    upto = below.upto;
    hit = λ b. (both (has_duplicate es found) (ltb (its last found) parts) (below.hit b)).0;
    misses = λ m a b t. below.misses m a b (pair (has_duplicate es m) (ltb (its last m) parts) t (lt→ltb (its last m) parts (omega (arith, and_le_r (hash_of (entry_at es m) / 274877906944) last))));
  })
    where
      found : ℕ
      found = first_where (duplicates_below es last parts) 0 best

      below : FirstAt (duplicates_below es last parts) 0 best found
      below = first-at (duplicates_below es last parts) 0 best

  -- ---- entries that rise
  pub all-rise : whole ≡ first_where (is_stop_at es) 0 whole → whole ≡ first_duplicate es
  all-rise rise = first-is (has_duplicate es) 0 whole whole (record {
    from = omega arith;
    upto = omega arith;
    hit = λ l. absurd (omega arith);
    misses = λ m a b. none-twice es whole (λ k l. (first-at (is_stop_at es) 0 whole).misses k (omega arith) (omega arith)) m b;
  })

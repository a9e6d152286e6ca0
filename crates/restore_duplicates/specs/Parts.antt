-- The parts in which entries are taken, by the hash of their keys, and what one turn does with an entry.
-- Assumes nothing.
use Rattle.std.specs.Prelude.{ℕ, ◌/◌, Bool, cond, ◌&&◌, List, ◌==◌, bit_and, nat_le, nat_lt}
use Rattle.store.specs.declared.Entry.{Entry}
use Rattle.store.specs.Kinds.{kind_of}
use Rattle.store.specs.Store.{entry_at}
use Rattle.store.specs.Find.{first_of}
use Rattle.store.specs.Duplicates.{duplicate_of, asks_new, has_duplicate}
use Rattle.filter.specs.Filter.{is_set, added}
use Rattle.restore_duplicates.specs.Keys.{hash_of}

-- parts have numbers up to `last`
abbrev pub part_of : (last h : ℕ) → ℕ
part_of last h = bit_and (h / 274877906944) last

abbrev pub in_part : (last part h : ℕ) → Bool
in_part last part h = part_of last h == part

-- ---- one turn: the i-th entry is e
-- how far its duplicate is looked for
abbrev pub reach_of : (bits : List ℕ) → (last part : ℕ) → Entry → (i : ℕ) → ℕ
reach_of bits last part e i = cond (asks_new (kind_of e.kind)) (cond (in_part last part (hash_of e)) (cond (is_set bits (hash_of e)) i 0) 0) 0

abbrev pub added_key : (bits : List ℕ) → (last part : ℕ) → Entry → List ℕ
added_key bits last part e = cond (asks_new (kind_of e.kind)) (cond (in_part last part (hash_of e)) (added bits (hash_of e)) bits) bits

-- where its duplicate was found below upto it is the first; else that is the one so far
abbrev pub best_of : (i t upto first : ℕ) → ℕ
best_of i t upto first = cond (nat_lt t upto) i first

abbrev pub turned_to : List Entry → (bits : List ℕ) → (last part i first : ℕ) → ℕ
turned_to es bits last part i first =
    let e = entry_at es i in
    let upto = reach_of bits last part e i in
    best_of i (first_of es (duplicate_of e) 0 upto) upto first

-- ---- the entries that have a duplicate, of one part, and of the parts below one
module _ (es : List Entry) (last : ℕ) where
  abbrev pub duplicate_in : (part : ℕ) → ℕ → Bool
  duplicate_in part i = has_duplicate es i && in_part last part (hash_of (entry_at es i))

  abbrev pub duplicates_below : (parts : ℕ) → ℕ → Bool
  duplicates_below parts i = has_duplicate es i && nat_lt (part_of last (hash_of (entry_at es i))) parts

-- ---- in how many parts n entries are taken: in none where they rise, all of the first `up`
abbrev pub unless_rising : (n up parts : ℕ) → ℕ
unless_rising n up parts = cond (nat_le n up) 0 parts

abbrev pub parts_for : (n : ℕ) → ℕ
parts_for n = cond (nat_le n 32768) 1 (cond (nat_le n 131072) 4 (cond (nat_le n 524288) 16 (cond (nat_le n 2097152) 64 256)))

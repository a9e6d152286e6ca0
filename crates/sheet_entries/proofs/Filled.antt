-- A table that is filled line by line: the entries of the lines, one turn, and what is lent of the filled table.
-- Assumes nothing.
use mathlib.Core.Path.{◌≡◌, refl, sym, ◌∙◌, ap}
use Prim.Native.Nat.{ℕ, zero, suc, ◌+◌, ◌*◌, ◌≤◌, ◌<◌, min}
use native.Mathlib.Nat.{min-eq_left, not-suc-le-zero, le_of_suc-le-suc}
use native.Mathlib.Omega.{arith}
use native.Mathlib.Numerals.{add-one}
use mathlib.Core.List.{List, [], ◌∷◌}
use lib.ListN.{length, get_or, take, drop, set, replicate, length-replicate}
use lib.Seq.{drop-drop, get_or-drop}
use Rattle.store.specs.declared.Entry.{Entry}
use Rattle.store.specs.Store.{no_entry}
use Rattle.ascii.specs.Decimal.{U32}
use Rattle.sheet.specs.Sheet as sheet
use Rattle.sheet.specs.Sheet.{entry_in, entries_in}
use Rattle.sheet.specs.Proved.{EntryFits}
use Rattle.sheet_entries.specs.Table as table
use Rattle.sheet_entries.specs.Table.{ENTRIES, in_field, entry_from, entries_from, overlaid, AsRead}
use Rattle.sheet_entries.proofs.Turns.{laid_next, laid-all}

abbrev entry : (id start len msgno version kind : ℕ) → Entry
entry id start len msgno version kind = record { id = id; start = start; len = len; msgno = msgno; version = version; kind = kind }

pub long : (lines : ℕ) (records : List ℕ) → length (entries_from lines records) ≡ lines
unfolding table.entries_from
long zero records = refl
long (suc lines) records = ap suc (long lines (drop 6 records))

-- ---- six numbers
pub entry-is : (records : List ℕ) (at : ℕ) {id start len msgno version kind : ℕ} → kind ≡ in_field (get_or records at 0) → id ≡ get_or records (at + 1) 0 → start ≡ get_or records (at + 2) 0
    → len ≡ get_or records (at + 3) 0 → msgno ≡ in_field (get_or records (at + 4) 0) → version ≡ in_field (get_or records (at + 5) 0)
    → entry id start len msgno version kind ≡ entry_from (drop at records)
entry-is records at k i s l m v =
    rw (k, i, s, l, m, v, first, get_or-drop at records 1 0, get_or-drop at records 2 0, get_or-drop at records 3 0, get_or-drop at records 4 0, get_or-drop at records 5 0)
  where
    here : at + 0 ≡ at
    here = omega arith

    first : get_or (drop at records) 0 0 ≡ get_or records at 0
    first = get_or-drop at records 0 0 ∙ ap (λ (j : ℕ). get_or records j 0) here

-- ---- the i-th line
behind : (i : ℕ) (records : List ℕ) → drop (6 * i) (drop 6 records) ≡ drop (6 * suc i) records
behind i records = drop-drop (6 * i) 6 records ∙ ap (λ (m : ℕ). drop m records) next
  where
    next : 6 + 6 * i ≡ 6 * suc i
    next = omega arith

line_at : (n i : ℕ) (records : List ℕ) → i < n → get_or (entries_from n records) i no_entry ≡ entry_from (drop (6 * i) records)
unfolding table.entries_from
line_at zero i records h = absurd (not-suc-le-zero h)
line_at (suc n) zero records h = refl
line_at (suc n) (suc i) records h = line_at n i (drop 6 records) (le_of_suc-le-suc h) ∙ ap entry_from (behind i records)

-- ---- the loop: one turn, and behind it
module _ (n : ℕ) (records : List ℕ) (l : List Entry) where
  pub line-laid : (i : ℕ) (held : List Entry) → i < n → held ≡ overlaid l (take i (entries_from n records))
      → set held i (entry_from (drop (6 * i) records)) ≡ overlaid l (take (i + 1) (entries_from n records))
  line-laid i held h so =
      rw (so, ← line_at n i records h, add-one) (laid_next no_entry l (entries_from n records) i (omega (arith, h, long n records)))

  pub lines-laid : (i : ℕ) → i ≡ min n (length l) → overlaid l (take i (entries_from n records)) ≡ overlaid l (entries_from n records)
  lines-laid i e = laid-all l (entries_from n records) i (omega (arith, e, long n records))

-- ---- what is lent of a filled table
take-overlaid : {A : Type 0} (l xs : List A) → length xs ≤ length l → take (length xs) (overlaid l xs) ≡ xs
unfolding table.overlaid
take-overlaid [] [] h = refl
take-overlaid [] (x ∷ xs) h = absurd (not-suc-le-zero h)
take-overlaid (y ∷ l) [] h = refl
take-overlaid (y ∷ l) (x ∷ xs) h = ap (λ (m : List _). x ∷ m) (take-overlaid l xs (le_of_suc-le-suc h))

pub record Filled (lines : ℕ) (records : List ℕ) (none : Entry) (count : ℕ) (table : List Entry) : Type 0 where
  pub counted : count ≡ min (min lines ENTRIES) (length (replicate ENTRIES none))
  pub laid : table ≡ overlaid (replicate ENTRIES none) (entries_from (min lines ENTRIES) records)

module _ {lines : ℕ} {records : List ℕ} {none : Entry} {count : ℕ} {table : List Entry} (f : Filled lines records none count table) where
  count-is : count ≡ length (entries_from (min lines ENTRIES) records)
  count-is =
      let c = f.counted in
      let r = length-replicate ENTRIES none in
      let m = long (min lines ENTRIES) records in
      omega (arith, c, r, m)

  pub all-lent : take count table ≡ entries_from (min lines ENTRIES) records
  all-lent =
      ap (take count) f.laid ∙ ap (λ (k : ℕ). take k (overlaid (replicate ENTRIES none) (entries_from (min lines ENTRIES) records))) count-is
      ∙ take-overlaid (replicate ENTRIES none) (entries_from (min lines ENTRIES) records) room
    where
      room : length (entries_from (min lines ENTRIES) records) ≤ length (replicate ENTRIES none)
      room = let r = length-replicate ENTRIES none in let m = long (min lines ENTRIES) records in omega (arith, r, m)

  pub as_many : count ≡ length (take count table)
  as_many = count-is ∙ sym (ap length all-lent)

-- ---- the entries of a sheet
same : (size : ℕ) (six : List ℕ) → EntryFits size (entry_in six) → entry_from six ≡ entry_in six
same size six f = rw (min-eq_left f.msgno-fits, min-eq_left f.version-fits, min-eq_left kind)
  where
    kind : get_or six 0 0 ≤ U32
    kind = omega (arith, f.kind-known)

pub as_read : AsRead
unfolding table.entries_from sheet.entries_in
as_read zero size records f = refl
as_read (suc lines) size records f =
    ap (λ (e : Entry). e ∷ entries_from lines (drop 6 records)) (same size records f.0)
    ∙ ap (λ (l : List Entry). entry_in records ∷ l) (as_read lines size (drop 6 records) f.1)

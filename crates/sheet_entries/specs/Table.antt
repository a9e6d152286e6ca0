-- A table of entries, and how it is filled from a sheet's records: the entries are laid over its front.
-- Assumes nothing.
use Rattle.std.specs.Prelude.{ℕ, zero, suc, min, ◌≡◌, List, [], ◌∷◌, get_or, drop}
use Rattle.store.specs.declared.Entry.{Entry}
use Rattle.ascii.specs.Decimal.{U32}
use Rattle.sheet.specs.Sheet.{entries_in}
use Rattle.sheet.specs.Proved.{AllFit}

-- how many entries a table has
abbrev pub ENTRIES : ℕ
ENTRIES = 512

-- a number in a field of 32 bits: a higher one counts as the highest
abbrev pub in_field : ℕ → ℕ
in_field x = min x U32

-- the entry that six numbers are, each in its field
abbrev pub entry_from : (six : List ℕ) → Entry
entry_from six = record {
  id = get_or six 1 0;
  start = get_or six 2 0;
  len = get_or six 3 0;
  msgno = in_field (get_or six 4 0);
  version = in_field (get_or six 5 0);
  kind = in_field (get_or six 0 0);
}

-- the entries of so many lines, six numbers each
unfoldable pub entries_from : (lines : ℕ) → (records : List ℕ) → List Entry
entries_from zero records = []
entries_from (suc lines) records = entry_from records ∷ entries_from lines (drop 6 records)

-- where no number is wider than its field, as behind a sheet that was read, these are the sheet's entries
abbrev pub AsRead : Type 0
AsRead = (lines size : ℕ) (records : List ℕ) → AllFit size (entries_in lines records) → entries_from lines records ≡ entries_in lines records

-- a list laid over the front of another, as far as both go
unfoldable pub overlaid : {A : Type 0} → List A → List A → List A
overlaid [] xs = []
overlaid (y ∷ l) [] = y ∷ l
overlaid (y ∷ l) (x ∷ xs) = x ∷ overlaid l xs

-- A store within the lent run and records: its parts, and its entries.
-- Assumes nothing.
use Prim.Native.Nat.{ℕ, ◌-◌, ◌*◌, min}
use mathlib.Core.List.{List}
use mathlib.Core.Path.{◌≡◌, ap}
use native.Mathlib.Omega.{arith}
use lib.ListN.{length, take, drop, length-drop}
use lib.Seq.{take_all}
use Rattle.sheet_entries.specs.Table.{ENTRIES, entries_from}
use Rattle.calls_code.specs.Encoding.{entries_at}

-- ---- a part of a list
module _ {X : Type 0} (l : List X) where
  pub whole-behind : (start : ℕ) → take (length l - start) (drop start l) ≡ drop start l
  whole-behind start = take_all (length l - start) (drop start l) (omega (arith, length-drop start l))

-- ---- the entries of so many records
pub its-entries : (first n : ℕ) (records : List ℕ) {its : List ℕ} → its ≡ drop (6 * first) records → entries_from (min n ENTRIES) its ≡ entries_at first n records
its-entries first n records e = ap (entries_from (min n ENTRIES)) e

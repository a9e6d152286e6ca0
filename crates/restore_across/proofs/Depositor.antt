-- Where the depositor of a carried row stands, so that 31 can be asked of the bytes there before the row is read.
-- Assumes nothing.
use Prim.Native.Nat.{ℕ, ◌+◌, ◌<◌}
use mathlib.Core.List.{List}
use mathlib.Core.Bool.{Bool, true}
use mathlib.Core.Logic.{inl, inr}
use mathlib.Core.Path.{◌≡◌, refl, sym, ap, ◌∙◌}
use native.Mathlib.Omega.{arith}
use lib.ListN.{length, get_or}
use borrow.Author.Tests.{lt-ltb}
use Rattle.layout.specs.Questions.{CODE}
use Rattle.layout.specs.Read.{Read, value, refused}
use Rattle.layout.specs.Form.{u8, u64, either}
use Rattle.layout.specs.Field.{takes, refuses, read_at}
use Rattle.layout.specs.Layout.{group, parse, answer}
use Rattle.layout.specs.RowLaws.{Bytes}
use Rattle.layout.proofs.Front.{number-lawful}
use Rattle.layout.proofs.At.{byte-in}
use Rattle.rows.specs.Values.{Carried, Courier}
use Rattle.rows.specs.Rows.{carried, tombstone, courier}
use Rattle.rows.proofs.Lawful.{courier-lawful}
use Rattle.offsets.proofs.Offset.{Stands, stands-first, stands_read, field-stands, row-stands, either_left}
use Rattle.store.specs.Kinds as kinds
use Rattle.restore_across.specs.Across.{low_in, depositor_read}

module _ (row : List ℕ) (by : Bytes row) (version : ℕ) where
  -- a row that is read as carried: its kind, and then its depositor
  module _ {c : Carried} {rest : List ℕ} (read : parse (courier version) row ≡ value (inl c) rest) where
    held : Stands (either CODE (group carried) (group tombstone)) (inl c) row 0
    held = row-stands row (courier version) 0 (inl c) (stands-first (group (courier version)) (courier-lawful version) by read)

    long : 0 < length row
    long = omega (arith, ap (λ (l : List ℕ). length l) held.joins)

    kind-stands : read_at u8 row 0 ≡ takes 0 1
    kind-stands = byte-in row 0 long ∙ ap (λ (n : ℕ). takes n 1) (sym (ap (λ (l : List ℕ). get_or l 0 0) held.joins))

    depositor-stands : read_at u64 row 1 ≡ takes c.depositor (1 + length (u64.print c.depositor))
    depositor-stands = stands_read u64 (number-lawful 8) (field-stands row carried 0 c (either_left CODE (group carried) (group tombstone) held)) (omega (arith, long))

  -- 31 is a yes, unless a carried row has a depositor that is not below next
  low-if : (next : ℕ) → ((c : Carried) (rest : List ℕ) → parse (courier version) row ≡ value (inl c) rest → c.depositor < next) → low_in next (depositor_read version row) ≡ true
  low-if next below = go (parse (courier version) row) refl
    where
      low : Read Courier → Bool
      low x = low_in next (kinds.seen_of kinds.courier (answer x)).depositor

      go : (x : Read Courier) → parse (courier version) row ≡ x → low (parse (courier version) row) ≡ true
      go (value (inl c) rest) e = ap low e ∙ lt-ltb c.depositor next (below c rest e)
      go (value (inr t) rest) e = ap low e
      go (refused q) e = ap low e

  -- ---- so it is a yes by the bytes at those places
  module _ (next : ℕ) where
    pub no_kind : {q : ℕ} → read_at u8 row 0 ≡ refuses q → low_in next (depositor_read version row) ≡ true
    no_kind e = low-if next (λ c rest read. absurd (let is = sym (kind-stands read) ∙ e in let z : ◌≡◌ {A = ℕ} 0 1 = cc in omega arith))

    module _ {kind behind : ℕ} (begins : read_at u8 row 0 ≡ takes kind behind) where
      pub other-kind : (kind ≡ 0 → ⊥) → low_in next (depositor_read version row) ≡ true
      other-kind differs = low-if next (λ c rest read. absurd (differs (let is = sym begins ∙ kind-stands read in cc)))

      at_one : {c : Carried} {rest : List ℕ} → parse (courier version) row ≡ value (inl c) rest → behind ≡ 1
      at_one read = let is = sym begins ∙ kind-stands read in cc

      pub no-depositor : {q : ℕ} → read_at u64 row behind ≡ refuses q → low_in next (depositor_read version row) ≡ true
      no-depositor e = low-if next (λ c rest read.
          absurd (let is = sym (depositor-stands read) ∙ ap (read_at u64 row) (sym (at_one read)) ∙ e in let z : ◌≡◌ {A = ℕ} 0 1 = cc in omega arith))

      pub below_next : {d n : ℕ} → read_at u64 row behind ≡ takes d n → d < next → low_in next (depositor_read version row) ≡ true
      below_next {d} e h = low-if next (λ c rest read.
          let is = sym (depositor-stands read) ∙ ap (read_at u64 row) (sym (at_one read)) ∙ e in
          let same : c.depositor ≡ d = cc in
          rw same h)

-- A contact row that was accepted is read part by part, each part where the one before it ends.
-- Assumes nothing.
use Prim.Native.Nat.{ℕ}
use mathlib.Core.List.{List}
use mathlib.Core.Bool.{Bool, true, false}
use mathlib.Core.Path.{◌≡◌, refl, sym, ap, subst, ◌∙◌}
use native.Mathlib.Omega.{arith}
use lib.ListN.{drop}
use Rattle.std.specs.Prelude.{Result, Ok}
use Rattle.layout.specs.declared.question.Question.{Question}
use Rattle.layout.specs.Read.{Read, value, refused, and_then}
use Rattle.layout.specs.Field.{Field, takes, refuses, read_at}
use Rattle.layout.specs.Layout.{Layout, done, field, ask, parse, group, accepted, answer, read_row}
use Rattle.layout.specs.Layout as layout
use Rattle.layout.specs.RowLaws.{Bytes}
use Rattle.layout.proofs.At.{took, took-next, refused-at}
use Rattle.layout.proofs.Steps.{Came, start, ask-no}
use Rattle.layout.proofs.Theorems.{accepted≢}
use Rattle.rows.specs.Values.{Contact}
use Rattle.rows.specs.Checks.{version_known}
use Rattle.rows.specs.Rows.{contact}
use Rattle.offsets.specs.Offset.{offset, located}
use Rattle.offsets.proofs.Offset.{whole}
use Rattle.contact_lists.specs.declared.ListAt.{ListAt}
use Rattle.contact_parts.specs.Parts.{Paired, paired, Keys, keys, Chained, chained, Numbers, numbers, paired_of, keys_of, chained_of, numbers_of, joined}
use Rattle.contact_parts.specs.Offsets.{keys_at, numbers_at}
use Rattle.contact_parts.proofs.Parts.{after_paired, after_keys, after_chained, consistent, begun, part-yes, part_no}
use Rattle.contact_parts.proofs.Lawful.{paired-lawful, keys-lawful, chained-lawful, numbers-lawful}
use Rattle.contact_known.specs.Known.{EndsAt, UnackedAt}
use Rattle.contact_known.proofs.Ends.{ok_is}

-- ---- a layout that can end in one value alone
module _ {A : Type 0} (a : A) where
  abbrev EndsIn : Layout A → Type 0
  EndsIn (done b) = b ≡ a
  EndsIn (field {B} f get k) = (b : B) → EndsIn (k b)
  EndsIn (ask q t k) = EndsIn k

  ends_in : (l : Layout A) → EndsIn l → (row : List ℕ) {v : A} → answer (parse l row) ≡ accepted v → v ≡ a
  unfolding layout.parse
  ends_in (done b) h row {v} e = let same : b ≡ v = cc in sym same ∙ h
  ends_in (field {B} f get k) h row {v} e = go (f.read row) (λ b rest. ends_in (k b) (h b) rest) e
    where
      go : (x : Read B) → ((b : B) (rest : List ℕ) → answer (parse (k b) rest) ≡ accepted v → v ≡ a) → answer (and_then x (λ b rest. parse (k b) rest)) ≡ accepted v → v ≡ a
      go (value b rest) on e = on b rest e
      go (refused q) on e = absurd (accepted≢ (sym e))
  ends_in (ask q true k) h row e = ends_in k h row e
  ends_in (ask q false k) h row e = absurd (accepted≢ (sym e))

module _ (version : ℕ) (row : List ℕ) where
  pub record Parted (v : Contact) : Type 0 where
    pub keys-at : ℕ
    pub chained-at : ℕ
    pub numbers-at : ℕ
    pub end : ℕ
    pub paired-read : read_at (group paired) row 0 ≡ takes (paired_of v) keys-at
    pub keys-read : read_at (group keys) row keys-at ≡ takes (keys_of v) chained-at
    pub chained-read : read_at (group chained) row chained-at ≡ takes (chained_of v) numbers-at
    pub numbers-read : read_at (group numbers) row numbers-at ≡ takes (numbers_of v) end

  -- ---- a refusal of a part would be the row's
  module _ (by : Bytes row) {v : Contact} (granted : read_row (contact version) row ≡ accepted v) where
    not-refused : {q : ℕ} → parse (contact version) row ≡ refused q → ⊥
    not-refused e = absurd (accepted≢ (sym granted ∙ ap (λ (x : Read Contact). answer x) e))

    known : version_known version ≡ true
    known = go (version_known version) refl
      where
        go : (t : Bool) → version_known version ≡ t → t ≡ true
        go true e = refl
        go false e = absurd (not-refused (ask-no (start {l = contact version} {row = row} {from = 0}).so e))

    module _ (p : Paired) (at1 : ℕ) (e1 : read_at (group paired) row 0 ≡ takes p at1) where
      after1 : Came (contact version) row 0 (after_paired p) at1
      after1 = part-yes paired paired_of after_paired (begun version row known) (took row 0 (group paired) paired-lawful by e1)

      module _ (k : Keys) (at2 : ℕ) (e2 : read_at (group keys) row at1 ≡ takes k at2) where
        after2 : Came (contact version) row 0 (after_keys p k) at2
        after2 = part-yes keys keys_of (after_keys p) after1 (took row at1 (group keys) keys-lawful by e2)

        module _ (c : Chained) (at3 : ℕ) (e3 : read_at (group chained) row at2 ≡ takes c at3) where
          after3 : Came (contact version) row 0 (after_chained p k c) at3
          after3 = part-yes chained chained_of (after_chained p k) after2 (took row at2 (group chained) chained-lawful by e3)

          on-numbers : (x : Field Numbers) → read_at (group numbers) row at3 ≡ x → Parted v
          on-numbers (takes n end) e4 =
              let after4 = part-yes numbers numbers_of (consistent p k c) after3 (took row at3 (group numbers) numbers-lawful by e4) in
              let is : v ≡ joined p k c n = ends_in (joined p k c n) (consistent p k c n) (λ u. refl) (drop end row) (ap (λ (x : Read Contact). answer x) (sym after4.same) ∙ granted) in
              subst Parted (sym is) (record { keys-at = at1; chained-at = at2; numbers-at = at3; end = end; paired-read = e1; keys-read = e2; chained-read = e3; numbers-read = e4 })
          on-numbers (refuses q) e4 = absurd (not-refused (part_no numbers numbers_of (consistent p k c) after3 (refused-at row at3 (group numbers) e4)))

        on-chained : (x : Field Chained) → read_at (group chained) row at2 ≡ x → Parted v
        on-chained (takes c at3) e3 = on-numbers c at3 e3 (read_at (group numbers) row at3) refl
        on-chained (refuses q) e3 = absurd (not-refused (part_no chained chained_of (after_chained p k) after2 (refused-at row at2 (group chained) e3)))

      on_keys : (x : Field Keys) → read_at (group keys) row at1 ≡ x → Parted v
      on_keys (takes k at2) e2 = on-chained k at2 e2 (read_at (group chained) row at2) refl
      on_keys (refuses q) e2 = absurd (not-refused (part_no keys keys_of (after_keys p) after1 (refused-at row at1 (group keys) e2)))

    on-paired : (x : Field Paired) → read_at (group paired) row 0 ≡ x → Parted v
    on-paired (takes p at1) e1 = on_keys p at1 e1 (read_at (group keys) row at1) refl
    on-paired (refuses q) e1 = absurd (not-refused (part_no paired paired_of after_paired (begun version row known) (refused-at row 0 (group paired) e1)))

    pub parted : Parted v
    parted = on-paired (read_at (group paired) row 0) refl

    -- ---- so the keys stand where the fields before them end, and the numbers where those behind the keys do
    pub keys-there : {at : ℕ} → EndsAt (group paired) row 0 (Ok at) → located (keys_at at) (read_at (group keys) row at) ≡ takes (keys_at at (keys_of v)) parted.chained-at
    keys-there {at} ends = ap (located (keys_at at)) (ap (read_at (group keys) row) (ok_is (ends _ _ parted.paired-read)) ∙ parted.keys-read)

    pub chained-there : {at : ℕ} → parted.chained-at ≡ at → {r : Result ℕ Question} → EndsAt (group chained) row at r → r ≡ Ok parted.numbers-at
    chained-there same ends = ends _ _ (ap (read_at (group chained) row) (sym same) ∙ parted.chained-read)

    numbers-begin : parted.numbers-at ≡ offset (contact version) 17 v
    numbers-begin =
        let first = took-next row 0 (group paired) paired-lawful by parted.paired-read (omega arith) in
        let second = took-next row parted.keys-at (group keys) keys-lawful by parted.keys-read (took row 0 (group paired) paired-lawful by parted.paired-read).inside in
        let third = took-next row parted.chained-at (group chained) chained-lawful by parted.chained-read (took row parted.keys-at (group keys) keys-lawful by parted.keys-read).inside in
        omega (arith, first, second, third, whole paired (paired_of v), whole keys (keys_of v), whole chained (chained_of v))

    pub unacked-there : {at : ℕ} → at ≡ parted.numbers-at → {r : Result ListAt Question} → UnackedAt row at r → r ≡ Ok (numbers_at (offset (contact version) 17 v) (numbers_of v)).unacked
    unacked-there {at} same unacked =
        unacked _ _ (ap (read_at (group numbers) row) same ∙ parted.numbers-read)
        ∙ ap (λ (i : ℕ). Ok (numbers_at i (numbers_of v)).unacked) (same ∙ numbers-begin)

-- A contact row, part by part: what the answers of the parts' readers say of the whole row, up to the questions 54 and 17 to 24. Every function that reads a row so cites this.
-- Assumes nothing.
use Prim.Native.Nat.{ℕ, ◌+◌, ◌<◌, ◌≤◌}
use mathlib.Core.List.{List}
use mathlib.Core.Bool.{true, false}
use mathlib.Core.Option.{Option}
use mathlib.Core.Path.{◌≡◌, sym, ap, ◌∙◌}
use native.Mathlib.Omega.{arith}
use lib.ListN.{length, drop}
use Rattle.layout.specs.Questions.{VERSION, ROW_END}
use Rattle.layout.specs.Read.{Read, refused, said}
use Rattle.layout.specs.Field.{Field, takes, refuses, read_at}
use Rattle.layout.specs.Layout.{parse, print, group, answer, read_row, refused_by}
use Rattle.layout.specs.RowLaws.{Bytes}
use Rattle.layout.proofs.At.{Took, took, took-next, refused-at}
use Rattle.layout.proofs.Steps.{Came, start, ask-no, end-no}
use Rattle.rows.specs.Values as value
use Rattle.rows.specs.Checks.{version_known}
use Rattle.rows.specs.Rows.{contact}
use Rattle.offsets.specs.Offset.{offset, located}
use Rattle.offsets.proofs.Offset.{Part}
use Rattle.contact_parts.specs.Parts.{paired, keys, chained, numbers, paired_of, keys_of, chained_of, numbers_of}
use Rattle.contact_parts.specs.Offsets.{paired_at, paired_from, keys_at, keys_from, CardOffsets}
use Rattle.contact_parts.specs.Offsets.{chained_at, chained_from, ChainedLists, numbers_at, numbers_from, NumbersLists}
use Rattle.contact_parts.specs.declared.PairedAt.{PairedAt}
use Rattle.contact_parts.specs.declared.KeysAt.{KeysAt}
use Rattle.contact_parts.specs.declared.ChainedAt.{ChainedAt}
use Rattle.contact_parts.specs.declared.NumbersAt.{NumbersAt}
use Rattle.contact_parts.proofs.Parts.{after_paired, after_keys, after_chained, consistent, begun, part-yes, part_no}
use Rattle.contact_parts.proofs.Placed.{paired-part, keys-part, chained-part, numbers-part}
use Rattle.contact_parts.proofs.Lawful.{paired-lawful, keys-lawful, chained-lawful, numbers-lawful}
use Rattle.contact.specs.Consistent.{inconsistency}
use Rattle.contact.specs.Check.{contact_at, contact_from}
use Rattle.contact.specs.declared.ContactAt.{ContactAt}
use Rattle.contact.proofs.Consistent.{all_asked}
use Rattle.contact.proofs.Placed.{keys-begin, chained-begin, numbers-begin}

-- ---- the parts that were read, each where the one before it ends
module _ (version : ℕ) (row : List ℕ) where
  pub record PairedRead (p : PairedAt) (end : ℕ) : Type 0 where
    pub by : Bytes row
    pub known : version_known version ≡ true
    pub found : takes p end ≡ located (paired_at 0) (read_at (group paired) row 0)

  pub record KeysRead (p : PairedAt) (k : KeysAt) (end : ℕ) : Type 0 where
    pub at : ℕ
    pub before : PairedRead p at
    pub found : takes k end ≡ located (keys_at at) (read_at (group keys) row at)

  pub record ChainedRead (p : PairedAt) (k : KeysAt) (c : ChainedAt) (end : ℕ) : Type 0 where
    pub at : ℕ
    pub before : KeysRead p k at
    pub found : takes c end ≡ located (chained_at at) (read_at (group chained) row at)

  pub record NumbersRead (p : PairedAt) (k : KeysAt) (c : ChainedAt) (n : NumbersAt) (end : ℕ) : Type 0 where
    pub at : ℕ
    pub before : ChainedRead p k c at
    pub found : takes n end ≡ located (numbers_at at) (read_at (group numbers) row at)

  -- all four were read, up to the row's end
  pub record Whole (at : ContactAt) : Type 0 where
    pub end : ℕ
    pub parts : NumbersRead at.paired at.keys at.chained at.numbers end
    pub placed : at ≡ contact_at version (contact_from row at)
    pub says : read_row (contact version) row ≡ answer (said (inconsistency (contact_from row at)) (contact_from row at) (drop end row))

  stopped : {q : ℕ} → parse (contact version) row ≡ refused q → read_row (contact version) row ≡ refused_by q
  stopped e = ap (λ (x : Read value.Contact). answer x) e

  pub version-stop : version_known version ≡ false → read_row (contact version) row ≡ refused_by VERSION
  version-stop e = stopped (ask-no (start {l = contact version} {row = row} {from = 0}).so e)

-- what is refused is refused wherever its parts stand
nowhere : {B P : Type 0} (f : B → P) (x : Field B) {q : ℕ} → refuses q ≡ located f x → x ≡ refuses q
nowhere f (takes b next) e = absurd (let z : ◌≡◌ {A = ℕ} 0 1 = cc in omega arith)
nowhere f (refuses p) e = cc

module _ (version : ℕ) (row : List ℕ) (known : version_known version ≡ true) where
  pub paired-stop : {q : ℕ} → refuses q ≡ located (paired_at 0) (read_at (group paired) row 0) → read_row (contact version) row ≡ refused_by q
  paired-stop told = stopped version row (part_no paired paired_of after_paired (begun version row known) (refused-at row 0 (group paired) (nowhere _ _ told)))

-- ---- what stands at a part's places, and where the reader came; and the next part's refusal, which is the row's
module _ {version : ℕ} {row : List ℕ} where
  module _ {p : PairedAt} {end : ℕ} (a : PairedRead version row p end) where
    paired-read : Part paired row 0 (paired_from row) (paired_at 0) (λ p. CardOffsets row p.card) p end
    paired-read = paired-part row a.by 0 a.found

    paired-took : Took (group paired) row 0 (paired_from row p) end
    paired-took = took row 0 (group paired) paired-lawful a.by paired-read.read

    after-paired : Came (contact version) row 0 (after_paired (paired_from row p)) end
    after-paired = part-yes paired paired_of after_paired (begun version row a.known) paired-took

    pub keys-stop : {q : ℕ} → refuses q ≡ located (keys_at end) (read_at (group keys) row end) → read_row (contact version) row ≡ refused_by q
    keys-stop told = stopped version row (part_no keys keys_of (after_keys (paired_from row p)) after-paired (refused-at row end (group keys) (nowhere _ _ told)))

  module _ {p : PairedAt} {k : KeysAt} {end : ℕ} (a : KeysRead version row p k end) where
    keys-read : Part keys row a.at (keys_from row) (keys_at a.at) (λ k. Unit {0}) k end
    keys-read = keys-part row a.before.by a.at a.found

    keys-took : Took (group keys) row a.at (keys_from row k) end
    keys-took = took row a.at (group keys) keys-lawful a.before.by keys-read.read

    after-keys : Came (contact version) row 0 (after_keys (paired_from row p) (keys_from row k)) end
    after-keys = part-yes keys keys_of (after_keys (paired_from row p)) (after-paired a.before) keys-took

    pub chained-stop : {q : ℕ} → refuses q ≡ located (chained_at end) (read_at (group chained) row end) → read_row (contact version) row ≡ refused_by q
    chained-stop told = stopped version row (part_no chained chained_of (after_chained (paired_from row p) (keys_from row k)) after-keys (refused-at row end (group chained) (nowhere _ _ told)))

  module _ {p : PairedAt} {k : KeysAt} {c : ChainedAt} {end : ℕ} (a : ChainedRead version row p k c end) where
    chained-read : Part chained row a.at (chained_from row) (chained_at a.at) (ChainedLists row) c end
    chained-read = chained-part row a.before.before.by a.at a.found

    after-chained : Came (contact version) row 0 (after_chained (paired_from row p) (keys_from row k) (chained_from row c)) end
    after-chained = part-yes chained chained_of (after_chained (paired_from row p) (keys_from row k)) (after-keys a.before) (took row a.at (group chained) chained-lawful a.before.before.by chained-read.read)

    pub numbers-stop : {q : ℕ} → refuses q ≡ located (numbers_at end) (read_at (group numbers) row end) → read_row (contact version) row ≡ refused_by q
    numbers-stop told =
        stopped version row (part_no numbers numbers_of (consistent (paired_from row p) (keys_from row k) (chained_from row c)) after-chained (refused-at row end (group numbers) (nowhere _ _ told)))

  -- all four: the places are those of the value that stands there
  module _ {p : PairedAt} {k : KeysAt} {c : ChainedAt} {n : NumbersAt} {end : ℕ} (a : NumbersRead version row p k c n end) where
    abbrev by : Bytes row
    by = a.before.before.before.by

    numbers-read : Part numbers row a.at (numbers_from row) (numbers_at a.at) (NumbersLists row) n end
    numbers-read = numbers-part row by a.at a.found

    after-numbers : Came (contact version) row 0 (consistent (paired_from row p) (keys_from row k) (chained_from row c) (numbers_from row n)) end
    after-numbers = part-yes numbers numbers_of (consistent (paired_from row p) (keys_from row k) (chained_from row c)) (after-chained a.before) (took row a.at (group numbers) numbers-lawful by numbers-read.read)

    abbrev here : ContactAt
    here = record { paired = p; keys = k; chained = c; numbers = n }

    abbrev v : value.Contact
    v = contact_from row here

    here-placed : here ≡ contact_at version v
    here-placed =
        let chained-at = a.before in
        let keys-at = chained-at.before in
        let paired-end : keys-at.at ≡ length (print paired (paired_of v)) = omega (arith, took-next row 0 (group paired) paired-lawful by (paired-read keys-at.before).read (omega arith)) in
        let keys-end : chained-at.at ≡ keys-at.at + length (print keys (keys_of v)) = took-next row keys-at.at (group keys) keys-lawful by (keys-read keys-at).read (paired-took keys-at.before).inside in
        let chained-end : a.at ≡ chained-at.at + length (print chained (chained_of v)) = took-next row chained-at.at (group chained) chained-lawful by (chained-read chained-at).read (keys-took keys-at).inside in
        let at-keys : keys-at.at ≡ offset (contact version) 7 v = omega (arith, paired-end, keys-begin version v) in
        let at-chained : chained-at.at ≡ offset (contact version) 13 v = omega (arith, paired-end, keys-end, chained-begin version v) in
        let at-numbers : a.at ≡ offset (contact version) 17 v = omega (arith, paired-end, keys-end, chained-end, numbers-begin version v) in
        let its-keys = (keys-read keys-at).place ∙ ap (λ (i : ℕ). keys_at i (keys_of v)) at-keys in
        let its-chained = (chained-read chained-at).place ∙ ap (λ (i : ℕ). chained_at i (chained_of v)) at-chained in
        let its-numbers = numbers-read.place ∙ ap (λ (i : ℕ). numbers_at i (numbers_of v)) at-numbers in
        λ i. record { paired = (paired-read keys-at.before).place i; keys = its-keys i; chained = its-chained i; numbers = its-numbers i }

    pub end-stop : end < length row → read_row (contact version) row ≡ refused_by ROW_END
    end-stop more = stopped version row (end-no after-numbers more)

    pub lists-inside : ChainedLists row c × NumbersLists row n
    lists-inside = ((chained-read a.before).inside, numbers-read.inside)

    pub all_read : length row ≤ end → Whole version row here
    all_read past = record {
      end = end;
      parts = a;
      placed = here-placed;
      says = ap (λ (x : Read value.Contact). answer x) (all_asked (paired_from row p) (keys_from row k) (chained_from row c) (numbers_from row n) after-numbers past);
    }

-- ---- the answer to 54 and 17 to 24 is the row's
module _ {version : ℕ} {row : List ℕ} {at : ContactAt} (w : Whole version row at) {o : Option ℕ} (asked : o ≡ inconsistency (contact_from row at)) where
  pub asked-last : read_row (contact version) row ≡ answer (said o (contact_from row at) (drop w.end row))
  asked-last = w.says ∙ ap (λ (o : Option ℕ). answer (said o (contact_from row at) (drop w.end row))) (sym asked)

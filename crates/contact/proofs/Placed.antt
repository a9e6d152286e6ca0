-- What stands at the places that `check_contact` answers: the contact that is read, part by part.
-- Assumes nothing.
use Prim.Native.Nat.{ℕ, ◌+◌, ◌≤◌}
use mathlib.Core.List.{List}
use mathlib.Core.Path.{◌≡◌, refl, sym, ap, subst, ◌∙◌}
use native.Mathlib.Omega.{arith}
use lib.ListN.{length}
use Rattle.layout.specs.Questions.{VERSION}
use Rattle.layout.specs.Read.{Read, value, refused}
use Rattle.layout.specs.Layout.{Layout, done, field, ask, parse, print, group, Answer, accepted, refused_by, answer, read_row}
use Rattle.layout.specs.Layout as layout
use Rattle.layout.specs.RowLaws.{Bytes}
use Rattle.layout.proofs.Lawful.{split, passed}
use Rattle.rows.specs.Values as value
use Rattle.rows.specs.Checks.{version_known}
use Rattle.rows.specs.Rows.{contact}
use Rattle.offsets.specs.Offset.{offset}
use Rattle.offsets.proofs.Offset.{Stands, behind, whole, offset-inside}
use Rattle.contact_parts.specs.Parts.{Paired, paired, Keys, keys, Chained, chained, Numbers, numbers, paired_of, keys_of, chained_of, numbers_of, joined}
use Rattle.contact_parts.proofs.Parts.{embed, embed-parse, in_parts, after_paired, after_keys, after_chained, consistent}
use Rattle.contact_parts.proofs.Lawful.{paired-lawful, keys-lawful, chained-lawful, numbers-lawful}
use Rattle.contact_parts.proofs.Placed.{paired_is, paired-inside, keys-is, chained-is, chained-inside, numbers-is, numbers-inside}
use Rattle.contact.specs.Check.{contact_at, contact_from, Offsets}
use Rattle.contact.specs.declared.ContactAt.{ContactAt}
use Rattle.layout.specs.Says.{made}
use Rattle.layout.proofs.Theorems.{accepted≢}

-- ---- where the parts begin
module _ (version : ℕ) (v : value.Contact) where
  pub keys-begin : offset (contact version) 7 v ≡ length (print paired (paired_of v))
  keys-begin = whole paired (paired_of v)

  pub chained-begin : offset (contact version) 13 v ≡ length (print paired (paired_of v)) + length (print keys (keys_of v))
  chained-begin = omega (arith, whole paired (paired_of v), whole keys (keys_of v))

  pub numbers-begin : offset (contact version) 17 v ≡ length (print paired (paired_of v)) + length (print keys (keys_of v)) + length (print chained (chained_of v))
  numbers-begin = omega (arith, whole paired (paired_of v), whole keys (keys_of v), whole chained (chained_of v))

-- ---- a contact whose parts stand one behind the other
module _ (version : ℕ) (row : List ℕ) (p : Paired) (k : Keys) (c : Chained) (n : Numbers) where
  abbrev v : value.Contact
  v = joined p k c n

  abbrev at1 : ℕ
  at1 = 0 + length (print paired p)

  abbrev at2 : ℕ
  at2 = at1 + length (print keys k)

  abbrev at3 : ℕ
  at3 = at2 + length (print chained c)

  module _ (sp : Stands (group paired) p row 0) (sk : Stands (group keys) k row at1) (sc : Stands (group chained) c row at2) (sn : Stands (group numbers) n row at3) where
    past1 : at1 ≤ length row
    past1 = omega (arith, whole paired p, offset-inside row paired 7 p sp (omega arith))

    past2 : at2 ≤ length row
    past2 = omega (arith, whole keys k, offset-inside row keys 6 k sk past1)

    past3 : at3 ≤ length row
    past3 = omega (arith, whole chained c, offset-inside row chained 4 c sc past2)

    sk' : Stands (group keys) k row (offset (contact version) 7 v)
    sk' = subst (Stands (group keys) k row) (omega (arith, keys-begin version v)) sk

    sc' : Stands (group chained) c row (offset (contact version) 13 v)
    sc' = subst (Stands (group chained) c row) (omega (arith, chained-begin version v)) sc

    sn' : Stands (group numbers) n row (offset (contact version) 17 v)
    sn' = subst (Stands (group numbers) n row) (omega (arith, numbers-begin version v)) sn

    past-chained : offset (contact version) 13 v ≤ length row
    past-chained = omega (arith, past2, chained-begin version v)

    past-numbers : offset (contact version) 17 v ≤ length row
    past-numbers = omega (arith, past3, numbers-begin version v)

    contact-is : contact_from row (contact_at version v) ≡ v
    contact-is = λ i. joined (paired_is row 0 (omega arith) p sp i) (keys-is row _ k sk' i) (chained-is row _ past-chained c sc' i) (numbers-is row _ past-numbers n sn' i)

    contact-inside : Offsets row (contact_at version v)
    contact-inside = record { card = paired-inside row 0 (omega arith) p sp; chained = chained-inside row _ past-chained c sc'; numbers = numbers-inside row _ past-numbers n sn' }

-- ---- ... as they do where it is read
module _ {A : Type 0} (P : A → Type 0) where
  -- of each value that a layout can end in
  abbrev Always : Layout A → Type 0
  Always (done a) = P a
  Always (field {B} f get k) = (b : B) → Always (k b)
  Always (ask q t k) = Always k

  always : (l : Layout A) → Always l → (row : List ℕ) {v : A} {rest : List ℕ} → parse l row ≡ value v rest → P v
  unfolding layout.parse
  always (done a) h row {v} e = let same : a ≡ v = cc in subst P same h
  always (field f get k) h row {v} {rest} e =
      let s = split (f.read row) (λ b rest. parse (k b) rest) v rest e in
      always (k s.got) (h s.got) s.mid s.second
  always (ask q t k) h row {v} {rest} e = always k h row (passed t (parse k row) q v rest e).then

module _ (row : List ℕ) (by : Bytes row) (version : ℕ) where
  abbrev Found : value.Contact → Type 0
  Found v = (contact_from row (contact_at version v) ≡ v) × Offsets row (contact_at version v)

  known : {v : value.Contact} {rest : List ℕ} → parse (contact version) row ≡ value v rest → parse (embed paired paired_of after_paired) row ≡ value v rest
  unfolding layout.parse
  known {v} {rest} e =
      let asked = sym (ap (λ (l : Layout value.Contact). parse l row) (in_parts version)) ∙ e in
      (passed (version_known version) (parse (embed paired paired_of after_paired) row) VERSION v rest asked).then

  found : (v : value.Contact) (rest : List ℕ) → parse (contact version) row ≡ value v rest → Found v
  found v rest e =
      let p = split (parse paired row) (λ p rest. parse (after_paired p) rest) v rest (sym (embed-parse paired paired_of after_paired row) ∙ known e) in
      let k = split (parse keys p.mid) (λ k rest. parse (after_keys p.got k) rest) v rest (sym (embed-parse keys keys_of (after_keys p.got) p.mid) ∙ p.second) in
      let c = split (parse chained k.mid) (λ c rest. parse (after_chained p.got k.got c) rest) v rest (sym (embed-parse chained chained_of (after_chained p.got k.got) k.mid) ∙ k.second) in
      let n = split (parse numbers c.mid) (λ n rest. parse (consistent p.got k.got c.got n) rest) v rest
      (sym (embed-parse numbers numbers_of (consistent p.got k.got c.got) c.mid) ∙ c.second) in
      let bp = behind paired paired-lawful row by 0 refl p.first in
      let bk = behind keys keys-lawful row by _ bp.rest-is k.first in
      let bc = behind chained chained-lawful row by _ bk.rest-is c.first in
      let bn = behind numbers numbers-lawful row by _ bc.rest-is n.first in
      let is = contact-is version row p.got k.got c.got n.got bp.here bk.here bc.here bn.here in
      let inside = contact-inside version row p.got k.got c.got n.got bp.here bk.here bc.here bn.here in
      always Found (consistent p.got k.got c.got n.got) (λ u. (is, inside)) n.mid n.second

  says : (x : Read value.Contact) → parse (contact version) row ≡ x → {at : ContactAt} → accepted at ≡ made (contact_at version) (answer x)
      → (answer x ≡ accepted (contact_from row at)) × Offsets row at
  says (value v rest) read {at} told =
      let f = found v rest read in
      let same : at ≡ contact_at version v = cc in
      (rw (same, f.0) refl, rw same f.1)
  says (refused q) read told = absurd (accepted≢ told)

  -- from what a check answers: the value at its places was read, and they lie in the row
  pub placed : {at : ContactAt} → accepted at ≡ made (contact_at version) (read_row (contact version) row) → (read_row (contact version) row ≡ accepted (contact_from row at)) × Offsets row at
  placed told = says (parse (contact version) row) refl told

  -- or its refusal is the row's
  pub unplaced : {q : ℕ} → refused_by q ≡ made (contact_at version) (read_row (contact version) row) → read_row (contact version) row ≡ refused_by q
  unplaced told = go (read_row (contact version) row) told
    where
      go : (x : Answer value.Contact) {q : ℕ} → refused_by q ≡ made (contact_at version) x → x ≡ refused_by q
      go (accepted v) e = absurd (accepted≢ (sym e))
      go (refused_by p) e = cc

-- The lines of a granted store, entry by entry, and their T line are the store's text; and so is the line of a refusal.
-- Assumes nothing.
use Prim.Native.Nat.{ℕ, ◌+◌}
use mathlib.Core.List.{List, [], ◌∷◌, ◌++◌}
use mathlib.Core.Bool.{Bool, true, false, cond}
use mathlib.Core.Path.{◌≡◌, refl, sym, ap, ap₂, subst, ◌∙◌}
use native.Mathlib.Omega.{arith}
use lib.ListN.{length}
use lib.Dec.{eqb}
use borrow.Author.Tests.{eqb-true, eqb-false, ne_eqb}
use Rattle.layout.specs.Layout.{Answer, accepted, refused_by, read_row}
use Rattle.rows.specs.Values.{Contact}
use Rattle.rows.specs.Rows as rows
use Rattle.numbers.specs.Decimal.{fields_text}
use Rattle.store.specs.Line.{queued_of}
use Rattle.store.specs.Rounds.{Asked, Going, Refused}
use Rattle.store.specs.declared.Entry.{Entry}
use Rattle.store.specs.Kinds.{CONTACT, Kind, device, contact, queued, courier, unknown, kind_of, ValueOf, layout_of}
use Rattle.store.specs.Store.{store_of, part_of, ContactRow, contacts_as, contacts_in, answer_of, Found, found, granted, refused, outcome, asked, restore}
use Rattle.statement_text.specs.Text as text
use Rattle.statement_text.specs.Text.{contact_lines, last_line, text_after, text_of, LETTER_R}
use Rattle.statement_text.specs.Lines as lines
use Rattle.statement_text.specs.Lines.{row_text, row_count, entry_text, entry_count, lines_from, count_from}

-- ---- only a contact's row is found
abbrev pub is_contact : Kind → Bool
is_contact device = false
is_contact contact = true
is_contact queued = false
is_contact courier = false
is_contact unknown = false

pub not_found : (k : Kind) (id : ℕ) (a : Answer (ValueOf k)) (rest : List ContactRow) → is_contact k ≡ false → contacts_as k id a rest ≡ rest
not_found device id a rest h = refl
not_found contact id a rest h = absurd (let z : ◌≡◌ {A = ℕ} 0 1 = ap (λ (t : Bool). cond t 0 1) h in omega arith)
not_found queued id a rest h = refl
not_found courier id a rest h = refl
not_found unknown id a rest h = refl

pub other-kind : (k : ℕ) → (k ≡ CONTACT → ⊥) → is_contact (kind_of k) ≡ false
other-kind k h = rw (ne_eqb k CONTACT h) (go (eqb k 0) (eqb k 2) (eqb k 3))
  where
    go : (a b c : Bool) → is_contact (cond a device (cond b queued (cond c courier unknown))) ≡ false
    go true b c = refl
    go false true c = refl
    go false false true = refl
    go false false false = refl

pub as-contact : (k version id : ℕ) (row : List ℕ) (rest : List ContactRow) → k ≡ CONTACT
    → contacts_as (kind_of k) id (read_row (layout_of (kind_of k) version) row) rest ≡ contacts_as contact id (read_row (rows.contact version) row) rest
as-contact k version id row rest e =
    subst (λ (k : ℕ). contacts_as (kind_of k) id (read_row (layout_of (kind_of k) version) row) rest ≡ contacts_as contact id (read_row (rows.contact version) row) rest) (sym e) refl

module _ (run : List ℕ) (all : List Entry) where
  -- ---- of one entry
  row-lines : (id : ℕ) (a : Answer Contact) (rest : List ContactRow) → contact_lines all (contacts_as contact id a rest) ≡ row_text id (queued_of id all) a ++ contact_lines all rest
  unfolding text.contact_lines
  row-lines id (accepted v) rest = refl
  row-lines id (refused_by q) rest = refl

  row-many : (id : ℕ) (a : Answer Contact) (rest : List ContactRow) → length (contacts_as contact id a rest) ≡ row_count a + length rest
  row-many id (accepted v) rest = omega arith
  row-many id (refused_by q) rest = omega arith

  entry-lines : (e : Entry) (rest : List ContactRow) → contact_lines all (contacts_as (kind_of e.kind) e.id (answer_of (store_of run all) e) rest) ≡ entry_text run (queued_of e.id all) e ++ contact_lines all rest
  unfolding lines.entry_text
  entry-lines e rest = go (eqb e.kind CONTACT) refl
    where
      go : (t : Bool) → eqb e.kind CONTACT ≡ t
          → contact_lines all (contacts_as (kind_of e.kind) e.id (answer_of (store_of run all) e) rest) ≡ cond t (row_text e.id (queued_of e.id all) (read_row (rows.contact e.version) (part_of run e))) [] ++ contact_lines all rest
      go true h = ap (contact_lines all) (as-contact e.kind e.version e.id (part_of run e) rest (eqb-true _ _ h)) ∙ row-lines e.id (read_row (rows.contact e.version) (part_of run e)) rest
      go false h = ap (contact_lines all) (not_found (kind_of e.kind) e.id (answer_of (store_of run all) e) rest (other-kind e.kind (eqb-false _ _ h)))

  entry-many : (e : Entry) (rest : List ContactRow) → length (contacts_as (kind_of e.kind) e.id (answer_of (store_of run all) e) rest) ≡ entry_count run e + length rest
  unfolding lines.entry_count
  entry-many e rest = go (eqb e.kind CONTACT) refl
    where
      go : (t : Bool) → eqb e.kind CONTACT ≡ t
          → length (contacts_as (kind_of e.kind) e.id (answer_of (store_of run all) e) rest) ≡ cond t (row_count (read_row (rows.contact e.version) (part_of run e))) 0 + length rest
      go true h = ap length (as-contact e.kind e.version e.id (part_of run e) rest (eqb-true _ _ h)) ∙ row-many e.id (read_row (rows.contact e.version) (part_of run e)) rest
      go false h = let d = ap length (not_found (kind_of e.kind) e.id (answer_of (store_of run all) e) rest (other-kind e.kind (eqb-false _ _ h))) in omega arith

  -- ---- of all
  pub lines_are : (es : List Entry) → contact_lines all (contacts_in (store_of run all) es) ≡ lines_from run all es
  unfolding text.contact_lines lines.lines_from
  lines_are [] = refl
  lines_are (e ∷ es) = entry-lines e (contacts_in (store_of run all) es) ∙ ap (λ (l : List ℕ). entry_text run (queued_of e.id all) e ++ l) (lines_are es)

  pub many-are : (es : List Entry) → length (contacts_in (store_of run all) es) ≡ count_from run es
  unfolding lines.count_from
  many-are [] = refl
  many-are (e ∷ es) = entry-many e (contacts_in (store_of run all) es) ∙ ap (λ (n : ℕ). entry_count run e + n) (many-are es)

-- ---- the text
pub text-granted : (run : List ℕ) (es : List Entry) {f : Found} → restore (store_of run es) ≡ granted f
    → text_of run es ≡ lines_from run es es ++ last_line (count_from run es) es f.next_slot
unfolding text.text_of
text-granted run es {f} e = go (asked (store_of run es)) e
  where
    go : (a : Asked) → outcome a (found (store_of run es)) ≡ granted f
        → text_after es (outcome a (found (store_of run es))) ≡ lines_from run es es ++ last_line (count_from run es) es f.next_slot
    go Going h =
        let same : found (store_of run es) ≡ f = cc in
        ap₂ (λ (l : List ℕ) (n : ℕ). l ++ last_line n es (found (store_of run es)).next_slot) (lines_are run es es) (many-are run es es)
        ∙ ap (λ (g : Found). lines_from run es es ++ last_line (count_from run es) es g.next_slot) same
    go (Refused n i) h = absurd (let z : ◌≡◌ {A = ℕ} 0 1 = cc in omega arith)

pub text-refused : (run : List ℕ) (es : List Entry) {number entry : ℕ} → restore (store_of run es) ≡ refused number entry → text_of run es ≡ LETTER_R ∷ fields_text (number ∷ entry ∷ [])
unfolding text.text_of
text-refused run es e = ap (text_after es) e

-- The line of an entry: of a contact's row that is read or refused, and of an entry of another kind.
-- Assumes nothing.
use Prim.Native.Nat.{ℕ, ◌+◌, ◌≤◌}
use mathlib.Core.List.{List, [], ◌∷◌}
use mathlib.Core.Bool.{Bool, true, false, cond}
use mathlib.Core.Path.{◌≡◌, refl, subst, ap, ◌∙◌}
use native.Mathlib.Omega.{arith}
use lib.ListN.{length, take, drop, length-take, length-drop}
use borrow.Author.Tests.{eq-eqb, ne_eqb}
use Rattle.std.specs.Prelude.{Result, Ok, Err, Option, Some, None}
use Rattle.layout.specs.declared.question.Question.{Question}
use Rattle.layout.specs.Says.{answers, made}
use Rattle.layout.specs.Layout.{accepted, read_row, group}
use Rattle.layout.specs.RowLaws.{Bytes}
use Rattle.rows.specs.Rows.{contact, range}
use Rattle.rows.specs.Values.{Range}
use Rattle.contact_lists.specs.declared.ListAt.{ListAt}
use Rattle.contact_lists.specs.Lists.{items}
use Rattle.numbers.specs.Sets.{size_from}
use Rattle.contact.specs.declared.ContactAt.{ContactAt}
use Rattle.contact.specs.Check.{contact_at}
use Rattle.contact.proofs.Placed.{placed, unplaced}
use Rattle.store.specs.declared.Entry.{Entry}
use Rattle.store.specs.Kinds.{CONTACT}
use Rattle.store.specs.Store.{part_of, within}
use Rattle.store.specs.Line.{queued_of}
use Rattle.statement_line.proofs.Text.{same_line}
use Rattle.statement_text.specs.Lines as lines
use Rattle.statement_text.specs.Lines.{row_text, row_count, entry_text, entry_count, Lined}

no-line : Lined [] 0 None
no-line = record { text-is = refl; count-is = refl }

-- ---- a contact's row
-- the ranges that stand in a list of it
abbrev pub ranges_in : (row : List ℕ) → ListAt → List Range
ranges_in row l = items (group range) l.count (drop l.first row)

module _ (row : List ℕ) (by : Bytes row) (version id queued : ℕ) where
  pub refused-line : (r : Result ContactAt Question) → answers r ≡ made (contact_at version) (read_row (contact version) row) → ((at : ContactAt) → r ≡ Ok at → ⊥)
      → Lined (row_text id queued (read_row (contact version) row)) (row_count (read_row (contact version) row)) None
  refused-line (Ok at) told other = absurd (other at refl)
  refused-line (Err q) told other = rw (unplaced row by version told) no-line

  pub read-line : {at : ContactAt} {s a c b x : ℕ} → accepted at ≡ made (contact_at version) (read_row (contact version) row)
      → s ≡ at.keys.sent_msgno → a ≡ at.numbers.peer_acked → c ≡ at.numbers.contiguous
      → b ≡ size_from 0 (ranges_in row at.numbers.above) → x ≡ size_from (a + 1) (ranges_in row at.numbers.expired)
      → Lined (row_text id queued (read_row (contact version) row)) (row_count (read_row (contact version) row)) (Some (id ∷ s ∷ a ∷ c ∷ b ∷ queued ∷ x ∷ []))
  read-line {at} told p q t u v =
      let expired = v ∙ ap (λ (acked : ℕ). size_from (acked + 1) (ranges_in row at.numbers.expired)) q in
      rw (placed row by version told).0 (record { text-is = same_line id queued p q t u expired; count-is = refl })

-- ---- an entry
pub part-short : (run : List ℕ) (e : Entry) → length (part_of run e) ≤ length run
part-short run e = go (within (length run) e)
  where
    go : (t : Bool) → length (cond t (take e.len (drop e.start run)) []) ≤ length run
    go true = simp (length-take, length-drop) (omega arith)
    go false = omega arith

module _ (run : List ℕ) (e : Entry) (queued : ℕ) where
  pub contact-entry : {l : Option (List ℕ)} {row : List ℕ} → e.kind ≡ CONTACT → row ≡ part_of run e
      → Lined (row_text e.id queued (read_row (contact e.version) row)) (row_count (read_row (contact e.version) row)) l → Lined (entry_text run queued e) (entry_count run e) l
  unfolding lines.entry_text lines.entry_count
  contact-entry k p w = rw (eq-eqb e.kind CONTACT k) (rw p at w)

  pub other-entry : (e.kind ≡ CONTACT → ⊥) → Lined (entry_text run queued e) (entry_count run e) None
  unfolding lines.entry_text lines.entry_count
  other-entry k = rw (ne_eqb e.kind CONTACT k) no-line

-- ---- the entry that was read
pub entry-is : (run : List ℕ) (es : List Entry) {e f : Entry} {q : ℕ} {l : Option (List ℕ)} → e ≡ f → q ≡ queued_of e.id es
    → Lined (entry_text run q e) (entry_count run e) l → Lined (entry_text run (queued_of f.id es) f) (entry_count run f) l
entry-is run es {e = e} {l = l} p h w =
    subst (λ (f : Entry). Lined (entry_text run (queued_of f.id es) f) (entry_count run f) l) p
    (subst (λ (q : ℕ). Lined (entry_text run q e) (entry_count run e) l) h w)

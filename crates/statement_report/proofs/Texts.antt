-- The text of a store, from what restore answers of a table with its entries; and the text of a sheet, from what its reader answers.
-- Assumes nothing.
use Prim.Native.Nat.{ℕ, ◌≤◌, min}
use mathlib.Core.List.{List, [], ◌∷◌, ◌++◌}
use mathlib.Core.Path.{◌≡◌, refl, sym, ap, ap₂, ◌∙◌, subst}
use native.Mathlib.Omega.{arith}
use native.Mathlib.Nat.{min-eq_left}
use lib.ListN.{length, take}
use Rattle.std.specs.Prelude.{Result, Ok, Err}
use Rattle.layout.specs.declared.question.Question.{Question}
use Rattle.layout.specs.Questions.{number_of}
use Rattle.layout.specs.Write.{Left, stored}
use Rattle.numbers.specs.Decimal.{fields_text}
use Rattle.store.specs.declared.Entry.{Entry}
use Rattle.store.specs.Store.{store_of, Outcome, granted, refused, restore}
use Rattle.store.specs.declared.Refusal as no
use Rattle.restore.specs.declared.Granted as yes
use Rattle.restore.specs.Restored.{Granted, Refused, restored_says, answered}
use Rattle.statement_text.specs.Text.{last_line, text_of, LETTER_R, LETTER_X}
use Rattle.sheet.specs.declared.Read.{Read}
use Rattle.sheet.specs.declared.Refusal.{Refusal}
use Rattle.sheet.specs.Machine.{bytes_in, lines_in, Answer}
use Rattle.sheet_entries.specs.Table.{ENTRIES, entries_from}
use Rattle.statement_text.specs.Lines.{lines_from, count_from, TEXT_BYTES}
use Rattle.statement_text.proofs.Text.{text-granted, text-refused}
use Rattle.statement_report.specs.Report as report
use Rattle.statement_report.specs.Report.{read_text, report_of}

module _ (run : List ℕ) (es : List Entry) where
  granted-text : {next slot : ℕ} → answered (restore (store_of run es)) ≡ Granted next slot → text_of run es ≡ lines_from run es es ++ last_line (count_from run es) es slot
  granted-text {next} {slot} e = go (restore (store_of run es)) refl e
    where
      go : (o : Outcome) → restore (store_of run es) ≡ o → answered o ≡ Granted next slot → text_of run es ≡ lines_from run es es ++ last_line (count_from run es) es slot
      go (granted f) r h =
          let same : f.next_slot ≡ slot = cc in
          text-granted run es r ∙ ap (λ (n : ℕ). lines_from run es es ++ last_line (count_from run es) es n) same
      go (refused n p) r h = absurd (let z : ◌≡◌ {A = ℕ} 0 1 = cc in omega arith)

  refused-text : {number place : ℕ} → answered (restore (store_of run es)) ≡ Refused number place → text_of run es ≡ LETTER_R ∷ fields_text (number ∷ place ∷ [])
  refused-text {number} {place} e = go (restore (store_of run es)) refl e
    where
      go : (o : Outcome) → restore (store_of run es) ≡ o → answered o ≡ Refused number place → text_of run es ≡ LETTER_R ∷ fields_text (number ∷ place ∷ [])
      go (granted f) r h = absurd (let z : ◌≡◌ {A = ℕ} 0 1 = cc in omega arith)
      go (refused n p) r h =
          let number_is : n ≡ number = cc in
          let place_is : p ≡ place = cc in
          text-refused run es r ∙ (λ i. LETTER_R ∷ fields_text (number_is i ∷ place_is i ∷ []))

-- ---- what restore answered of the entries of n lines
module _ (run records : List ℕ) (n : ℕ) (few : n ≤ ENTRIES) (r : Result yes.Granted (no.Refusal Question)) (is : restored_says r ≡ answered (restore (store_of run (entries_from (min n ENTRIES) records)))) where
  restored : restored_says r ≡ answered (restore (store_of run (entries_from n records)))
  restored = is ∙ ap (λ (m : ℕ). answered (restore (store_of run (entries_from m records)))) (min-eq_left few)

  pub table-granted : {g : yes.Granted} → r ≡ Ok g
      → text_of run (entries_from n records) ≡ lines_from run (entries_from n records) (entries_from n records) ++ last_line (count_from run (entries_from n records)) (entries_from n records) g.next_slot
  table-granted e = granted-text run (entries_from n records) (sym restored ∙ ap restored_says e)

  pub table-refused : {f : no.Refusal Question} {q m : ℕ} → r ≡ Err f → q ≡ number_of f.question → m ≡ q → text_of run (entries_from n records) ≡ LETTER_R ∷ fields_text (m ∷ f.place ∷ [])
  table-refused {f} e q m = refused-text run (entries_from n records) (sym restored ∙ ap restored_says e) ∙ (λ i. LETTER_R ∷ fields_text (sym (m ∙ q) i ∷ f.place ∷ []))

-- ---- what the reader answered
module _ (run records : List ℕ) where
  pub read-text : (r : Read) {b bytes n most : ℕ} → b ≡ min r.bytes bytes → bytes ≡ bytes_in run → n ≡ min r.lines most → most ≡ lines_in records
      → read_text r run records ≡ text_of (take b run) (entries_from n records)
  unfolding report.read_text
  read-text r p q s t = sym (ap₂ (λ (x y : ℕ). text_of (take x run) (entries_from y records)) (p ∙ ap (min r.bytes) q) (s ∙ ap (min r.lines) t))

  pub read-report : {a b : Answer} {r : Read} → b ≡ a → b ≡ Ok r → report_of a run records ≡ read_text r run records
  read-report p q = ap (λ (a : Answer). report_of a run records) (sym p ∙ q)

  pub refused-report : {a b : Answer} {f : Refusal} {m : ℕ} → b ≡ a → b ≡ Err f → m ≡ f.number → report_of a run records ≡ LETTER_X ∷ fields_text (m ∷ f.line ∷ [])
  refused-report {f = f} p q m = ap (λ (a : Answer). report_of a run records) (sym p ∙ q) ∙ (λ i. LETTER_X ∷ fields_text (sym m i ∷ f.line ∷ []))

-- ---- a writer that stored one text has stored another that is the same
pub as-text : (out : List ℕ) {a b : List ℕ} {l : Left} → a ≡ b → (l ≡ stored b out) × (length b ≤ TEXT_BYTES) → (l ≡ stored a out) × (length a ≤ TEXT_BYTES)
as-text out {l = l} e w = subst (λ (x : List ℕ). (l ≡ stored x out) × (length x ≤ TEXT_BYTES)) (sym e) w

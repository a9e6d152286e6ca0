-- What the machine leaves of a sheet says the sheet's text, where the lent lists have the full room.
-- Assumes nothing.
use Prim.Native.Nat.{ℕ, ◌*◌, ◌/◌, ◌≤◌, min}
use mathlib.Core.List.{List}
use mathlib.Core.Path.{◌≡◌, refl, sym, ap, ap₂, subst, ◌∙◌}
use native.Mathlib.Nat.{min-eq_left}
use lib.ListN.{length, take, drop}
use lib.Seq.{take_at}
use Rattle.store.specs.declared.Entry.{Entry}
use Rattle.sheet.specs.Sheet.{SheetSays, read, refused, sheet_in, entries_in, BLOB_BYTES, LINES}
use Rattle.sheet.specs.Machine.{Held, held, fed, at_line, room_for, bytes_in, lines_in, room_of, state_in, run_in, records_in, Answer, answer_of}
use Rattle.sheet.specs.Proved.{AllFit, Leaves, Kept, in_chunks, whole}
use Rattle.sheet.proofs.Proved.{said-laws, machine-laws}
use Rattle.sheet_entries.specs.Table.{entries_from}
use Rattle.sheet_entries.proofs.Filled.{as_read}
use Rattle.statement_text.specs.Text as text
use Rattle.statement_text.specs.Text.{said_text, text_of, sheet_text}
use Rattle.statement_report.specs.Report as report
use Rattle.statement_report.specs.Report.{report_of}

-- what the machine says
abbrev reported : Held → List ℕ
reported h = report_of (answer_of (state_in h)) (run_in h) (records_in h)

module _ (sheet run records : List ℕ) where
  abbrev begun : Held
  begun = held (at_line 0 0) run records

  says : (s : SheetSays) (h : Held) → sheet_in (room_of run records) sheet ≡ s → Kept begun h → Leaves run records s h → reported h ≡ said_text s
  unfolding report.read_text
  says (read es blob) h e k w =
      let fits = said-laws.fits (room_of run records) sheet es blob e in
      let bytes : min (length blob) (bytes_in (run_in h)) ≡ length blob = ap (λ (n : ℕ). min (length blob) (room_for BLOB_BYTES n)) k.run_long ∙ min-eq_left fits.few_bytes in
      let lines : min (length es) (lines_in (records_in h)) ≡ length es = ap (λ (n : ℕ). min (length es) (room_for LINES (n / 6))) k.records-long ∙ min-eq_left fits.few-lines in
      let front : take (length blob) (run_in h) ≡ blob = ap (take (length blob)) w.run_is ∙ take_at blob (drop (length blob) run) (length blob) refl in
      let fit : AllFit (length blob) (entries_in (length es) (records_in h)) = subst (AllFit (length blob)) (sym w.entries-are) fits.entries_fit in
      let same : entries_from (length es) (records_in h) ≡ es = as_read (length es) (length blob) (records_in h) fit ∙ w.entries-are in
      ap (λ (a : Answer). report_of a (run_in h) (records_in h)) w.answered
      ∙ ap₂ (λ (b n : ℕ). text_of (take b (run_in h)) (entries_from n (records_in h))) bytes lines
      ∙ ap₂ (λ (r : List ℕ) (es : List Entry). text_of r es) front same
  says (refused q line) h e k w = ap (λ (a : Answer). report_of a (run_in h) (records_in h)) w

  fed-text : BLOB_BYTES ≤ length run → 6 * LINES ≤ length records → reported (fed sheet begun) ≡ sheet_text sheet
  unfolding text.sheet_text
  fed-text long many =
      says (sheet_in (room_of run records) sheet) (fed sheet begun) refl (machine-laws.kept sheet begun) (machine-laws.reads sheet run records)
      ∙ ap said_text (machine-laws.full-room sheet run records long many)

pub chunks-text : (chunks : List (List ℕ)) (run records : List ℕ) → BLOB_BYTES ≤ length run → 6 * LINES ≤ length records
    → reported (in_chunks chunks (held (at_line 0 0) run records)) ≡ sheet_text (whole chunks)
chunks-text chunks run records long many = ap reported (machine-laws.chunked chunks (held (at_line 0 0) run records)) ∙ fed-text (whole chunks) run records long many

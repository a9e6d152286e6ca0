-- What is proved of the text of a sheet (proofs/Proved.antt): it is what is reported of a sheet that was fed to the machine in any chunks. That its S lines are what
-- the calls answer is proved in crate `statement_laws`.
-- Assumes nothing.
use Rattle.std.specs.Prelude.{ℕ, ◌*◌, ◌≤◌, List, ◌≡◌, length}
use Rattle.sheet.specs.Sheet.{BLOB_BYTES, LINES}
use Rattle.sheet.specs.Machine.{at_line, held, state_in, run_in, records_in, answer_of}
use Rattle.sheet.specs.Proved.{in_chunks, whole}
use Rattle.statement_text.specs.Text.{sheet_text}
use Rattle.statement_report.specs.Report.{report_of}

pub record ReportLaws : Type 0 where
  -- what is reported of a sheet, fed in any chunks over lists with the full room, is its text
  pub reports : (chunks : List (List ℕ)) (run records : List ℕ) → BLOB_BYTES ≤ length run → 6 * LINES ≤ length records
      → let h = in_chunks chunks (held (at_line 0 0) run records) in report_of (answer_of (state_in h)) (run_in h) (records_in h) ≡ sheet_text (whole chunks)

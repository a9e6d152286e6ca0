-- The text that is reported of the pieces that were read.
-- Assumes nothing.
use Prim.Native.Nat.{ℕ, ◌*◌, ◌≤◌}
use mathlib.Core.List.{List, map}
use mathlib.Core.Bool.{true, false}
use mathlib.Core.Path.{◌≡◌, sym, ap, ◌∙◌}
use native.Mathlib.Omega.{arith}
use lib.ListN.{length}
use borrow.Author.Tests.{le-leb}
use Rattle.std.specs.Prelude.{Result, Some, None}
use Rattle.layout.specs.declared.question.Question.{Question}
use Rattle.layout.specs.Says.{leaves}
use Rattle.layout.specs.Write.{stored}
use Rattle.sheet.specs.Sheet.{BLOB_BYTES, LINES}
use Rattle.sheet.specs.Machine.{Held, state_in, run_in, records_in, answer_of}
use Rattle.statement_report.specs.Report.{report_of}
use Rattle.statement_report.proofs.Proved.{proved}
use Rattle.statement.specs.declared.Reading.{Reading}
use Rattle.statement.specs.Pieces.{bytes_of, ReadAll, Reports}

module _ {run₀ records₀ run records : List ℕ} {r : Reading} (s : ReadAll run₀ records₀ r run records) (text₀ : List ℕ) where
  pub reports-none : r.failed ≡ true → Reports run₀ records₀ text₀ None run records text₀
  reports-none e = record {
    pieces = s.pieces;
    ended = s.ended;
    run_is = ap run_in s.fed-are;
    records-are = ap records_in s.fed-are;
    text-is = rw (sym s.failed-is ∙ e, le-leb 0 (length text₀) (omega arith));
    failed-is = sym e ∙ s.failed-is;
  }

  pub reports-text : {w : Result ℕ Question} {text : List ℕ} → r.failed ≡ false → BLOB_BYTES ≤ length run₀ → 6 * LINES ≤ length records₀
      → leaves w text ≡ stored (report_of (answer_of r.state) run records) text₀ → Reports run₀ records₀ text₀ (Some w) run records text
  reports-text {w} {text} e room lines left =
      let reported = ap (λ (h : Held). report_of (answer_of (state_in h)) (run_in h) (records_in h)) s.fed-are ∙ proved.reports (map bytes_of s.pieces) run₀ records₀ room lines in
      record {
        pieces = s.pieces;
        ended = s.ended;
        run_is = ap run_in s.fed-are;
        records-are = ap records_in s.fed-are;
        text-is = left ∙ ap (λ (t : List ℕ). stored t text₀) reported ∙ rw (sym s.failed-is ∙ e);
        failed-is = sym e ∙ s.failed-is;
      }

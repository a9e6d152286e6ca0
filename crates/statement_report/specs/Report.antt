-- The text of a sheet that was fed to the machine, from what the machine leaves. That it is the sheet's text is proved (Proved.antt), so this need not be
-- believed.
-- Assumes nothing.
use Rattle.std.specs.Prelude.{ℕ, min, List, [], ◌∷◌, take, Ok, Err}
use Rattle.numbers.specs.Decimal.{fields_text}
use Rattle.sheet.specs.declared.Read.{Read}
use Rattle.sheet.specs.Machine.{bytes_in, lines_in, Answer}
use Rattle.statement_text.specs.Text.{text_of, LETTER_X}
use Rattle.sheet_entries.specs.Table.{entries_from}

-- no more lines and blob bytes count than the lists have room for: the machine leaves no more
unfoldable pub read_text : Read → (run records : List ℕ) → List ℕ
read_text r run records = text_of (take (min r.bytes (bytes_in run)) run) (entries_from (min r.lines (lines_in records)) records)

abbrev pub report_of : Answer → (run records : List ℕ) → List ℕ
report_of (Ok r) run records = read_text r run records
report_of (Err r) run records = LETTER_X ∷ fields_text (r.number ∷ r.line ∷ [])

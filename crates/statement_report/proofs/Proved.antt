-- What is proved of the text of a sheet.
-- Assumes nothing.
use Rattle.statement_report.specs.Proved.{ReportLaws}
use Rattle.statement_report.proofs.Fed.{chunks-text}

pub proved : ReportLaws
proved = record { reports = chunks-text }

-- Why an upgrade has the report of its bundle: its histories under another format, what is read of its logs, and the report;
-- and what the code comes to.
mod SchemeLemmas
mod SpelledLemmas
mod WholeLemmas
mod LogLemmas
mod ReportLemmas
mod RewritingLemmas
mod AnswerLemmas

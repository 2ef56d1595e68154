-- How what the program answers is what its words ask for.
mod AuditLemmas
mod ReadLemmas
mod ServedLemmas
mod RunLemmas
mod SettingLemmas
mod LoadLemmas
mod WholeLemmas
mod AcceptLemmas
mod SignLemmas
mod AnswerLemmas
mod CompleteLemmas
mod ResumeLemmas
mod RollingLemmas
mod RulesLemmas

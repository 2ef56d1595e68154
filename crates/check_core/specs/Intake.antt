-- The logs of a bundle, as they come.
use Rattle.std.specs.Prelude.{ℕ, List, map}
use Rattle.bundle_frames.specs.Reading.{Reading, ahead}
use Rattle.bundle_report.specs.Logged.{Logged, behind}
use Rattle.check_core.specs.declared.intake.Intake.{Intake}

-- the bytes of logs that lie in memory
abbrev pub logs_in : Intake → List (List ℕ)
logs_in intake = map (λ log. log.items) intake.logs.items

-- what was read, without where it lies in memory
abbrev pub logged : Intake → Logged
logged intake = record { header = intake.header; logs = logs_in intake; bad = intake.bad }

-- logs so far, and what is left of their bundle where it was read so far
abbrev pub behind_at : List (List ℕ) → Reading → List ℕ → Logged
behind_at logs reading left = behind reading.progress.header logs (ahead reading left)

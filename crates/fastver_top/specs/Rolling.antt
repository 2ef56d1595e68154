-- A run of a script with one worker, and one of the same script whose epochs roll, as two calls of the program.
use Rattle.std.specs.Prelude.{◌≡◌, ℕ, true, false, List}
use Rattle.fv_outside.specs.Written.{Grows}
use Rattle.program_words.specs.declared.host_words.RunWords.{RunWords}
use Rattle.report_text.specs.Answer.{Writing}

-- The words of two runs with one worker say the same, but that the epochs of the second roll; how the vaults are named may differ.
pub record DifferInRolling (run rolled : RunWords) : Type 0 where
  pub one : run.numbers.verifiers ≡ 1
  pub plain : run.numbers.rolling ≡ false
  pub numbers : rolled.numbers ≡ record run.numbers { rolling = true }
  pub key : rolled.key ≡ run.key
  pub receipts : rolled.receipts ≡ run.receipts

-- Two calls wrote the same report.
pub record ReportTheSame (first second : Writing) : Type 0 where
  pub report : List ℕ
  pub first_wrote : Grows first.held first.held_after report
  pub second_wrote : Grows second.held second.held_after report

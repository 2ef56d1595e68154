-- Of what the program needs to come to its answer: that no object failed, that the input is within the limit, and that no
-- clock ends.
use Rattle.std.specs.Prelude.{◌≡◌, ◌⊎◌, ℕ, ◌≤◌, List, length, Some}
use Rattle.fv_outside.specs.Faults.{Rose}
use Rattle.record_hash.specs.Functions.{DigestFunctions}
use Rattle.report_text.specs.declared.status.Status.{Status}
use Rattle.report_text.specs.declared.status.Status.TheVariants as statuses
use Rattle.report_text.specs.Answer.{Reading, Writing}
use Rattle.script_text.specs.declared.task.Task.{Task}
use Rattle.host_world.specs.declared.fault.ClockEnd.{ClockEnd}
use Rattle.shipped_host.specs.declared.settings.Settings.{Settings}
use Rattle.verifier_threads.specs.InRounds.{Logs}
use Rattle.verifier_threads.specs.Serving.{AreOfRun}
use Rattle.check_core.specs.Sealing.{Keeping, Counting}

-- No object failed: no count of faults rose, and none stands at its last value.
pub record NoneFailed (reading : Reading) (writing : Writing) (keeping : Keeping) (counting : Counting) : Type 0 where
  pub source : Rose reading.faults reading.faults_after → ⊥
  pub sink : Rose writing.faults writing.faults_after → ⊥
  pub vault : Rose keeping.faults keeping.faults_after → ⊥
  pub counter : Rose counting.faults counting.faults_after → ⊥

-- the source had these bytes, which are no more than so many
pub record Had (most : ℕ) (bytes : List ℕ) (reading : Reading) : Type 0 where
  pub bytes_are : reading.left ≡ Some bytes
  pub few : length bytes ≤ most

-- No clock ends: no run of this script comes to a clock's end, in whatever order its workers serve it.
abbrev pub NoClockEnds : DigestFunctions → Settings → List (List Task) → Type 0
NoClockEnds functions settings script = (rounds : List Logs) (logs : Logs) (end : ClockEnd) → AreOfRun functions settings script rounds logs (Some end) → ⊥

-- this came, or memory was wanting
abbrev pub IsOrWantsMemory : Status → Status → Type 0
IsOrWantsMemory result due = (result ≡ due) ⊎ (result ≡ statuses.Memory)

-- The runs that go on from what was kept are like those that never stopped.
use Rattle.std.proofs.Common.{◌≡◌, ℕ, zero, suc, List, [], ◌∷◌, None}
use Rattle.lamport_clocks.specs.declared.header.Header.{Header}
use Rattle.merkle_records.specs.Scheme.{Scheme}
use Rattle.record_text.specs.declared.operation.Operation.{Operation}
use Rattle.seals.specs.State.{KeptRun}
use Rattle.verifier_commands.specs.Machine.{opening_machine}
use Rattle.verifier_run.specs.Kept.{keeps_operations}
use Rattle.verifier_run.specs.Progress.{Progress, opening_progress, fed}
use Rattle.verifier_run.specs.Likeness.{IsLike, AreLike}
use Rattle.verifier_run.specs.Sealed.{IsKeptOf, run_from}
use Rattle.verifier_run.specs.Under.{IsUnder}
use Rattle.bundle_report.specs.SoFar.{left_from, runs_from, HaveRead}
use Rattle.bundle_report.specs.declared.judged.Judged.{Judged}
use Rattle.resumed_runs.specs.Kept.{runs_from_kept, AreKeptOf}

-- of one run: it is like the one that never stopped, and each run of a log is under its header
pub record OneGoesOn (scheme : Scheme) (header : Header) : Type 0 where
  pub like : (number : ℕ) (run : Progress Operation) (kept : KeptRun) → run.held ≡ [] → run.course.refused ≡ None → IsUnder number header run.course.machine
      → IsKeptOf run.course kept → IsLike run (run_from number header kept)
  pub opening : (number : ℕ) → IsUnder number header (opening_machine number header)
  pub fed : (number : ℕ) (run : Progress Operation) (piece : List ℕ) → IsUnder number header run.course.machine
      → IsUnder number header (fed keeps_operations scheme run piece).course.machine

left_under : (number first count : ℕ) (header : Header) (run : Progress Operation) → IsUnder number header run.course.machine
    → IsUnder number header (left_from first count run).course.machine
left_under number first zero header run under = under
left_under number first (suc count) header run under = under

module _ (scheme : Scheme) (header : Header) (one : OneGoesOn scheme header) (count : ℕ) where
  under : (number : ℕ) (log : List ℕ) → IsUnder number header (left_from header.first count (fed keeps_operations scheme (opening_progress number header) log)).course.machine
  under number log =
      left_under number header.first count header (fed keeps_operations scheme (opening_progress number header) log)
      (one.fed number (opening_progress number header) log (one.opening number))

  -- So are all.
  pub all-like : (number : ℕ) (logs : List (List ℕ)) (kept : List KeptRun) → AreKeptOf (runs_from scheme header count number logs) kept
      → AreLike (runs_from scheme header count number logs) (runs_from_kept header number kept)
  all-like number [] [] are = tt
  all-like number [] (kept ∷ more) are = absurd are
  all-like number (log ∷ logs) [] are = absurd are
  all-like number (log ∷ logs) (kept ∷ more) are = (
    one.like number (left_from header.first count (fed keeps_operations scheme (opening_progress number header) log)) kept are.1.uncut are.1.unrefused (under number log) are.0,
    all-like (suc number) logs more are.2,
  )

-- Runs that are like those that have read logs have read them, too.
pub like-read : (scheme : Scheme) (header : Header) (logs : List (List ℕ)) (so_far : Judged) (runs others : List (Progress Operation))
    → HaveRead scheme header logs so_far runs → AreLike (runs_from scheme header so_far.count 0 logs) others → HaveRead scheme header logs so_far others
like-read scheme header logs so_far runs others read like = record {
  header_good = read.header_good;
  whole = read.whole;
  runs_are = like;
  balanced = read.balanced;
  uneven = read.uneven;
}

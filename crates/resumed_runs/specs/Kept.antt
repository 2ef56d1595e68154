-- What is kept of runs where a bundle is sealed, and the runs that go on from it.
use Rattle.std.specs.Prelude.{◌≡◌, ℕ, suc, List, [], ◌∷◌, length, Some, None, false}
use Rattle.lamport_clocks.specs.declared.header.Header.{Header}
use Rattle.record_hash.specs.Functions.{DigestFunctions}
use Rattle.record_text.specs.declared.operation.Operation.{Operation}
use Rattle.merkle_records.specs.Scheme.{scheme_of}
use Rattle.report_text.specs.declared.status.Status.TheVariants.{Done}
use Rattle.seals.specs.State.{KeptRun, Seal}
use Rattle.verifier_run.specs.Progress.{Progress}
use Rattle.verifier_run.specs.Sealed.{run_from, IsKeptOf}
use Rattle.bundle_report.specs.Logged.{logged_of}
use Rattle.bundle_report.specs.SoFar.{runs_from}
use Rattle.bundle_report.specs.Answer.{check_answer}

-- the runs of verifiers, the first of which has this number, that go on from what was kept of each
abbrev pub runs_from_kept : Header → ℕ → List KeptRun → List (Progress Operation)
runs_from_kept header number [] = []
runs_from_kept header number (kept ∷ more) = run_from number header kept ∷ runs_from_kept header (suc number) more

-- no command of it is cut, and none is refused
pub record IsUnbroken (run : Progress Operation) : Type 0 where
  pub uncut : run.held ≡ []
  pub unrefused : run.course.refused ≡ None

-- this is what is kept of runs that are unbroken, one by one
abbrev pub AreKeptOf : List (Progress Operation) → List KeptRun → Type 0
AreKeptOf [] [] = Unit {0}
AreKeptOf [] (kept ∷ more) = ⊥
AreKeptOf (run ∷ runs) [] = ⊥
AreKeptOf (run ∷ runs) (kept ∷ more) = IsKeptOf run.course kept × IsUnbroken run × AreKeptOf runs more

-- This is what a seal of a bundle has that is whole, with nothing bad, nothing refused and nothing unbalanced: how many bytes were taken, the
-- bundle's header, how many epochs are certified, and what is kept of the runs once these are taken out of them.
pub record IsSealOf (functions : DigestFunctions) (bytes : List ℕ) (seal : Seal) : Type 0 where
  pub taken : seal.taken ≡ length bytes
  pub header : (logged_of bytes).header ≡ Some seal.header
  pub done : (check_answer false functions bytes).status ≡ Done seal.certified
  pub runs : AreKeptOf (runs_from (scheme_of functions seal.header) seal.header seal.certified 0 (logged_of bytes).logs) seal.runs

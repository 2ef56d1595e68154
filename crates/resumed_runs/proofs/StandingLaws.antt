-- What is kept of a bundle has a text: each verifier has stood where one may, and so passes the tests of a seal.
use Rattle.std.proofs.Common.{◌≡◌, ℕ, zero, suc, ◌+◌, ◌^◌, ◌<◌, ◌≤◌, List, [], ◌∷◌, length, None, refl, sym, ap, subst, ◌∙◌, arith}
use Rattle.std.specs.List.{AllByRecursion}
use Rattle.lamport_clocks.specs.declared.header.Header.{Header}
use Rattle.lamport_clocks.specs.Header.{IsHeader}
use Rattle.lamport_clocks.specs.Reading.{Reading}
use Rattle.record_hash.specs.Functions.{DigestFunctions}
use Rattle.record_hash.specs.Digests.{AreLanes}
use Rattle.record_text.specs.declared.operation.Operation.{Operation}
use Rattle.record_text.proofs.FieldLaws.{AreBytes}
use Rattle.merkle_records.specs.Merkle.{GivesDigests}
use Rattle.merkle_records.specs.Scheme.{Scheme, scheme_of}
use Rattle.verifier_run.specs.Progress.{Progress}
use Rattle.verifier_run.specs.Order.{sealed_next, clock_of}
use Rattle.verifier_run.specs.Sealed.{IsKeptOf}
use Rattle.bundle_report.specs.Logged.{logged_of}
use Rattle.bundle_report.specs.SoFar.{left_from, runs_from}
use Rattle.bundle_report.proofs.LeftLaws.{run_of, runs-length}
use Rattle.seals.specs.State.{KeptRun, Seal}
use Rattle.seals.specs.Run.{IsGoodRun}
use Rattle.seals.specs.Seal.{AreGoodRuns, IsGoodSeal, most_taken}
use Rattle.seals.specs.Meaning.{IsClock, HasStood}
use Rattle.resumed_runs.specs.Base.{AllCanBeCertified}
use Rattle.resumed_runs.specs.Kept.{AreKeptOf, IsSealOf}
use Rattle.resumed_runs.proofs.EachLemmas.{each-count}
use Rattle.resumed_runs.proofs.BaseLaws.{can-read}
use Rattle.resumed_runs.proofs.WholeLemmas.{header-good, logs-whole, bundle-read}
use Rattle.resumed_runs.proofs.CourseLemmas.{left_stands}
use Rattle.resumed_runs.proofs.StoodLemmas.{kept_stood}
use Rattle.resumed_runs.proofs.LoggedLemmas.{IsLogWithin, logs_within, header_first}

-- the clock of a run stays where epochs are taken out of it
same_clock : (first count : ℕ) (run : Progress Operation) → clock_of (left_from first count run).course ≡ clock_of run.course
same_clock first zero run = refl
same_clock first (suc count) run = refl

module _ (functions : DigestFunctions) (header : Header) (certified taken : ℕ) (good : IsHeader header) (small : header.first < 2 ^ 32) (digests : GivesDigests functions.digest)
    (lanes : (text : List ℕ) → AreLanes (functions.lanes text)) (few : taken < 2 ^ 64) where
  abbrev scheme : Scheme
  scheme = scheme_of functions header

  -- What is kept of a verifier's run over a log, with so many epochs taken out, all of which it had sealed, has stood.
  pub run_stood : (number : ℕ) (log : List ℕ) (kept : KeptRun) → IsLogWithin taken log → header.first + certified ≤ sealed_next (clock_of (run_of scheme header number log).course)
      → IsKeptOf (left_from header.first certified (run_of scheme header number log)).course kept → HasStood header certified taken number kept
  run_stood number log kept within sealed is =
      kept_stood header certified taken number (length log) (left_from header.first certified (run_of scheme header number log)).course kept good
      (left_stands functions header number good small digests lanes log within.bytes certified sealed) is within.few few

  -- So it is with all verifiers: each passes the tests.
  pub runs_good : ((number : ℕ) (kept : KeptRun) → HasStood header certified taken number kept → IsGoodRun header certified taken number kept) → (number : ℕ) (logs : List (List ℕ)) (kept : List KeptRun)
      → AllByRecursion (IsLogWithin taken) logs → AllCanBeCertified (header.first + certified) number (runs_from scheme header certified number logs)
      → AreKeptOf (runs_from scheme header certified number logs) kept → AreGoodRuns header certified taken number kept
  runs_good passes number [] [] within can are = tt
  runs_good passes number [] (one ∷ more) within can are = absurd are
  runs_good passes number (log ∷ logs) [] within can are = absurd are
  runs_good passes number (log ∷ logs) (one ∷ more) within can are =
      let run = run_of scheme header number log in
      let left = left_from header.first certified run in
      let count = each-count (header.first + certified) (sealed_next (clock_of left.course)) left.course.parts can.0.each in
      let sealed : header.first + certified ≤ sealed_next (clock_of left.course) = omega (arith, count) in (
        passes number one (run_stood number log one within.0 (subst (λ (clock : Reading). header.first + certified ≤ sealed_next clock) (same_clock header.first certified run) sealed) are.0),
        runs_good passes (suc number) logs more within.1 can.1 are.2,
      )

-- there is one of each run
kept_count : (runs : List (Progress Operation)) (kept : List KeptRun) → AreKeptOf runs kept → length kept ≡ length runs
kept_count [] [] are = refl
kept_count [] (one ∷ more) are = absurd are
kept_count (run ∷ runs) [] are = absurd are
kept_count (run ∷ runs) (one ∷ more) are = ap suc (kept_count runs more are.2)

-- no more epochs are certified than clocks have
few_certified : (header : Header) (certified taken : ℕ) (runs : List KeptRun) → 1 ≤ length runs → AreGoodRuns header certified taken 0 runs
    → ((run : KeptRun) → IsGoodRun header certified taken 0 run → IsClock header certified taken run.at run.accepted) → certified < 2 ^ 32
few_certified header certified taken [] some good clock = absurd (omega (arith, some))
few_certified header certified taken (run ∷ runs) some good clock = go certified refl
  where
    go : (n : ℕ) → certified ≡ n → n < 2 ^ 32
    go zero is = omega arith
    go (suc n) is = omega (arith, (clock run good.0).sealed (omega (arith, is)), good.0.at.epoch, is)

-- What a seal of a whole bundle keeps is within the bounds.
pub seal_good : (functions : DigestFunctions) (bytes : List ℕ) (seal : Seal) → GivesDigests functions.digest → ((text : List ℕ) → AreLanes (functions.lanes text)) → AreBytes bytes
    → IsSealOf functions bytes seal → seal.counter < 2 ^ 64 → length bytes ≤ most_taken
    → ((number : ℕ) (kept : KeptRun) → IsHeader seal.header → HasStood seal.header seal.certified seal.taken number kept → IsGoodRun seal.header seal.certified seal.taken number kept)
    → ((run : KeptRun) → IsGoodRun seal.header seal.certified seal.taken 0 run → IsClock seal.header seal.certified seal.taken run.at run.accepted) → IsGoodSeal seal
seal_good functions bytes seal digests lanes fits is counter few passes clock =
    let header = seal.header in
    let scheme = scheme_of functions header in
    let logs = (logged_of bytes).logs in
    let runs = runs_from scheme header seal.certified 0 logs in
    let good = header-good bytes header is.header in
    let small = header_first bytes header fits is.header in
    let read = bundle-read functions bytes header seal.certified is.header is.done in
    let can = can-read scheme header logs (record { count = seal.certified; unbalanced = None }) runs read in
    let within : AllByRecursion (IsLogWithin seal.taken) logs = subst (λ (n : ℕ). AllByRecursion (IsLogWithin n) logs) (sym is.taken) (logs_within bytes fits) in
    let all = runs_good functions header seal.certified seal.taken good small digests lanes (omega (arith, is.taken, few)) (λ number kept. passes number kept good) 0 logs seal.runs within can is.runs in
    let count : length seal.runs ≡ header.verifiers = kept_count runs seal.runs is.runs ∙ (runs-length scheme header seal.certified 0 logs ∙ logs-whole bytes header is.header) in
    record {
      counter = counter;
      taken = omega (arith, is.taken, few);
      header = good;
      first = small;
      certified = few_certified header seal.certified seal.taken seal.runs (omega (arith, count, good.some_verifiers)) all clock;
      verifiers = count;
      runs = all;
    }

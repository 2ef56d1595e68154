use Rattle.std.specs.Prelude.{◌<◌, ◌≤◌, ◌^◌, ℕ, List, length, All}
use Rattle.record_hash.specs.Functions.{DigestFunctions}
use Rattle.record_hash.specs.Digests.{AreLanes}
use Rattle.merkle_records.specs.Merkle.{GivesDigests}
use Rattle.seals.specs.State.{Seal}
use Rattle.seals.specs.Seal.{most_taken, IsGoodSeal}
use Rattle.resumed_runs.specs.Kept.{IsSealOf}
use Rattle.std.proofs.Common.{arith}
use Rattle.merkle_records.specs.Scheme.{scheme_of}
use Rattle.verifier_run.specs.Order.{sealed_next, clock_of}
use Rattle.log_codec.proofs.LogLaws.{AreBytes-from_all}
use Rattle.bundle_report.proofs.LeftLaws.{run_of, each_of}
use Rattle.resumed_runs.proofs.EachLemmas.{each-count}
use Rattle.resumed_runs.proofs.StandingLaws.{run_stood, seal_good}
use Rattle.resumed_runs.proofs.standing.what_is_kept_has_stood.Goals as goal

pub returns : goal.returns
returns c = record {
  run = λ functions header certified taken number log kept digests lanes good small fits within few sealed is.
      let scheme = scheme_of functions header in
      let run = run_of scheme header number log in
      let count = each-count header.first (sealed_next (clock_of run.course)) run.course.parts (each_of scheme header number log) in
      run_stood functions header certified taken good small digests lanes (omega (arith, few)) number log kept (record { few = within; bytes = AreBytes-from_all log fits })
      (omega (arith, count, sealed)) is;
  seal = good;
  read_back = λ functions bytes tag rest seal digests lanes fits few is counter tagged.
      c.seals_are_read_back.ensures.read seal tag rest (good functions bytes seal digests lanes fits few is counter) tagged;
}
  where
    good : (functions : DigestFunctions) (bytes : List ℕ) (seal : Seal) → GivesDigests functions.digest → ((text : List ℕ) → AreLanes (functions.lanes text))
        → All (λ byte. byte < 256) bytes → length bytes ≤ most_taken → IsSealOf functions bytes seal → seal.counter < 2 ^ 64 → IsGoodSeal seal
    good functions bytes seal digests lanes fits few is counter =
        seal_good functions bytes seal digests lanes (AreBytes-from_all bytes fits) is counter few
        (λ number kept ranges stood. c.what_stands_is_good.ensures.run seal.header seal.certified seal.taken number kept ranges stood)
        (λ run stands. c.bounds_say_more.ensures.clock seal.header seal.certified seal.taken 0 run stands)

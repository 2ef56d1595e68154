use Rattle.std.specs.Prelude.{None}
use Rattle.merkle_records.specs.Scheme.{scheme_of}
use Rattle.verifier_run.specs.Kept.{keeps_operations}
use Rattle.verifier_run.proofs.KeptRunLaws.{opening-under, fed-under}
use Rattle.bundle_report.specs.Logged.{logged_of}
use Rattle.bundle_report.specs.SoFar.{runs_from}
use Rattle.resumed_runs.specs.Kept.{runs_from_kept}
use Rattle.resumed_runs.proofs.WholeLemmas.{header-good, bundle-done, bundle-unbroken, bundle-read}
use Rattle.resumed_runs.proofs.GoingOnLemmas.{OneGoesOn, all-like, like-read}
use Rattle.resumed_runs.proofs.kept.seals_keep_what_was_read.Goals as goal

pub returns : goal.returns
returns c = record {
  whole = λ functions bytes header count header_is done. (bundle-done functions bytes header count header_is done).none_bad;
  judged = λ functions bytes header count header_is done. (bundle-done functions bytes header count header_is done).counted;
  unbroken = bundle-unbroken;
  read = λ functions bytes seal is.
      let header = seal.header in
      let scheme = scheme_of functions header in
      let logs = (logged_of bytes).logs in
      let one : OneGoesOn scheme header = record {
        like = λ number run kept uncut unrefused under are. c.runs_go_on_from_what_was_kept.ensures.like number header run kept uncut unrefused under are;
        opening = λ number. opening-under number header (header-good bytes header is.header);
        fed = λ number run piece under. fed-under keeps_operations scheme number header run piece under;
      } in
      like-read scheme header logs (record { count = seal.certified; unbalanced = None }) (runs_from scheme header seal.certified 0 logs) (runs_from_kept header 0 seal.runs)
      (bundle-read functions bytes header seal.certified is.header is.done)
      (all-like scheme header one seal.certified 0 logs seal.runs is.runs);
}

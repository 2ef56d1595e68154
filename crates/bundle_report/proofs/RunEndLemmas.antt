-- How the report ends, as the runs of all verifiers tell it, is how it ends by their histories.
use Rattle.std.proofs.Common.{◌≡◌, ℕ, ◌+◌, ◌<◌, ◌≤◌, nat_lt, Bool, true, false, if◌then◌else◌, List, map, Option, sym, ◌∙◌, ap, arith}
use Rattle.merkle_records.specs.Scheme.{Scheme}
use Rattle.std.proofs.lemmas.Bool.Decides.{nat_tests}
use Rattle.lamport_clocks.specs.declared.header.Header.{Header}
use Rattle.log_codec.specs.Log.{Log, read_log}
use Rattle.report_text.specs.declared.ending.BundleEnd.{BundleEnd}
use Rattle.soundness.specs.History.{Event}
use Rattle.soundness.specs.Certified.{order_of, sealed_by_all, certified_count}
use Rattle.bundle_report.specs.BundleReport.{done_or_bad, end_or, unbalanced_end, end_of, histories_in}
use Rattle.bundle_report.specs.RunReport.{courses_of, first_refused}
use Rattle.bundle_report.proofs.RunReportLemmas.{refused-courses}

module _ (scheme : Scheme) (header : Header) (logs : List (List ℕ)) where
  -- the logs that were read
  abbrev read : List Log
  read = map (read_log scheme.format) logs

  abbrev histories : List (List Event)
  histories = histories_in scheme header read

  -- how a report ends where so many epochs are certified, by the runs
  abbrev exit_by_courses : Option ℕ → ℕ → BundleEnd
  exit_by_courses bad count =
      if nat_lt count (sealed_by_all histories)
      then unbalanced_end scheme (order_of histories) (header.first + count)
      else end_or (first_refused 0 (courses_of scheme header logs)) (done_or_bad count bad)

  exit-courses : (bad : Option ℕ)
      → end_of scheme header read histories bad
      ≡ exit_by_courses bad (certified_count scheme header.first histories)
  exit-courses bad =
      let count = certified_count scheme header.first histories in
      ap (λ (refused : Option BundleEnd).
      if nat_lt count (sealed_by_all histories)
      then unbalanced_end scheme (order_of histories) (header.first + count)
      else end_or refused (done_or_bad count bad))
      (sym (refused-courses scheme header 0 logs))

  -- Where an epoch that all have sealed is not certified, that is told.
  pub exit-unbalanced : (bad : Option ℕ) (count : ℕ) → count ≡ certified_count scheme header.first histories
      → count < sealed_by_all histories
      → unbalanced_end scheme (order_of histories) (header.first + count)
      ≡ end_of scheme header read histories bad
  exit-unbalanced bad count is below =
      let test : nat_lt count (sealed_by_all histories) ≡ true = grind (arith, nat_tests) in
      sym (exit-courses bad ∙ ap (exit_by_courses bad) (sym is)
      ∙ ap (λ (b : Bool).
      if b
      then unbalanced_end scheme (order_of histories) (header.first + count)
      else end_or (first_refused 0 (courses_of scheme header logs)) (done_or_bad count bad)) test)

  -- Where all of them are certified, the first refusal is told, or what is bad, or that all is read.
  pub exit-whole : (bad : Option ℕ) (count : ℕ) → count ≡ certified_count scheme header.first histories
      → sealed_by_all histories ≤ count
      → end_or (first_refused 0 (courses_of scheme header logs)) (done_or_bad count bad)
      ≡ end_of scheme header read histories bad
  exit-whole bad count is past =
      let test : nat_lt count (sealed_by_all histories) ≡ false = grind (arith, nat_tests) in
      sym (exit-courses bad ∙ ap (exit_by_courses bad) (sym is)
      ∙ ap (λ (b : Bool).
      if b
      then unbalanced_end scheme (order_of histories) (header.first + count)
      else end_or (first_refused 0 (courses_of scheme header logs)) (done_or_bad count bad)) test)

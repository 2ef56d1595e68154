use Rattle.std.proofs.Common.{◌<◌, List, map, sym, ◌∙◌, ap, subst}
use Rattle.record_text.specs.declared.operation.Operation.{Operation}
use Rattle.merkle_records.specs.Scheme.{scheme_of}
use Rattle.verifier_run.specs.Progress.{Progress}
use Rattle.bundle_report.specs.declared.judged.Judged.{Judged}
use Rattle.bundle_report.specs.Judged.{none_judged}
use Rattle.bundle_report.specs.Logs.{empty_logs}
use Rattle.bundle_report.specs.Report.{operations_told}
use Rattle.bundle_report.specs.RunReport.{courses_of}
use Rattle.bundle_report.specs.SoFar.{HaveRead, lines_from}
use Rattle.load_summary.specs.Counting.{counted_of}
use Rattle.bundle_report.proofs.DueLaws.{taken-none}
use Rattle.bundle_frames.specs.Bundle.{header_text}
use Rattle.host_rounds.proofs.RunLemmas.{ok_holds, opening-few}
use Rattle.host_rounds.proofs.rounds.Rounds.new.Goals as goal

pub returns-clause-keeps : goal.returns-clause-keeps
returns-clause-keeps g c = λ functions.
    let header = c.args.header.now in
    let scheme = scheme_of functions header in
    let first : header.first < 4294967296 = c.a_number_of_32_bits_is_below.ensures.below in
    record {
      vault = record {
        bytes = header_text header;
        is_bundle = c.rounds_make_a_bundle.ensures.opened header c.requires.header first;
        grown = ok_holds _ c.write_header.result (sym c.is_err.ensures.value ∙ c.if-is_err.false) c.write_header.ensures.whole;
      };
      runs = record {
        fed = c.in_ok-runs.ensures.fed;
        taken =
            subst (λ (judged : Judged). HaveRead scheme header (empty_logs header.verifiers) judged (map (λ fed. fed.run) c.in_ok-runs.runs.items))
            (sym c.new-2.ensures.none)
            (subst (λ (runs : List (Progress Operation)). HaveRead scheme header (empty_logs header.verifiers) none_judged runs) (sym c.in_ok-runs.ensures.opening)
            (taken-none scheme header c.requires.header));
        few = opening-few header 0 header.verifiers c.in_ok-runs.runs.items c.in_ok-runs.ensures.opening;
        summed =
            c.in_ok-summary.ensures.none
            ∙ ap (counted_of header.verifiers)
            (sym (ap (λ (j : Judged). lines_from operations_told (courses_of scheme header (empty_logs header.verifiers)) header.first j.count) c.new-2.ensures.none));
      };
    }

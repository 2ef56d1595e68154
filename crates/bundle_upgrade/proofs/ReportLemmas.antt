-- An upgraded bundle has the report of the one that it was made of.
use Rattle.std.proofs.Common.{◌≡◌, ℕ, zero, suc, ◌==◌, ◌<◌, nat_lt, Bool, true, false, List, [], ◌∷◌, ◌++◌, length, map, Option, Some, None, if◌then◌else◌, refl, sym, ◌∙◌, ap, arith}
use Rattle.std.specs.List.{AllByRecursion, flat_map}
use Rattle.lamport_clocks.specs.declared.header.Header.{Header}
use Rattle.lamport_clocks.specs.Header.{IsHeader}
use Rattle.record_hash.specs.Functions.{DigestFunctions}
use Rattle.record_text.specs.Format.{format_of}
use Rattle.record_text.proofs.FieldLaws.{AreBytes}
use Rattle.log_codec.specs.declared.log_command.LogCommand.{LogCommand}
use Rattle.log_codec.specs.Log.{Log, read_log}
use Rattle.merkle_records.specs.Scheme.{Scheme, scheme_of}
use Rattle.report_text.specs.declared.ending.BundleEnd.{BundleEnd}
use Rattle.report_text.specs.declared.ending.BundleEnd.TheVariants.{Done}
use Rattle.report_text.specs.Answer.{Answer}
use Rattle.report_text.specs.Ending.{status_of}
use Rattle.report_text.specs.Status.{status_number, last_line}
use Rattle.bundle_frames.specs.Bundle.{header_text}
use Rattle.soundness.specs.History.{Event, log_events, histories_from}
use Rattle.soundness.specs.Certified.{order_of, order_within, operations_in, sealed_by_all, certified_count, epochs_from}
use Rattle.bundle_report.specs.Logs.{empty_logs}
use Rattle.bundle_report.specs.Logged.{logged_of}
use Rattle.bundle_report.specs.Report.{EpochText, plain_text, tagged_text}
use Rattle.bundle_report.specs.BundleReport.{epoch_lines, certified_lines, end_of, histories_in}
use Rattle.bundle_report.specs.Answer.{answer_on, answer_at, answer_by}
use Rattle.host_rounds.specs.Round.{logs_with, round_text}
use Rattle.host_rounds.specs.Bundle.{IsBundle, logged_whole}
use Rattle.bundle_upgrade.specs.Upgraded.{upgraded_header, upgraded_from, upgraded_logs, upgraded_text}
use Rattle.bundle_upgrade.specs.Answer.{KeepsReportBy}
use Rattle.bundle_upgrade.proofs.SchemeLemmas.{balanced_same}
use Rattle.bundle_upgrade.proofs.WholeLemmas.{AreAllAccepted, all_accepted, none_refused, EndsWell, ends_well, done_well}
use Rattle.bundle_upgrade.proofs.LogLemmas.{IsUpgraded, log_upgraded, upgraded_good}

-- ---- all logs

-- logs as they are read under a header
abbrev pub read_logs : Header → List (List ℕ) → List Log
read_logs header logs = map (read_log (format_of header)) logs

-- the commands of logs
abbrev pub commands_in : List Log → List (List LogCommand)
commands_in logs = map (λ log. log.commands) logs

module _ (functions : DigestFunctions) (header : Header) (good : IsHeader header) where
  abbrev newer : Header
  newer = upgraded_header header

  abbrev old_scheme : Scheme
  old_scheme = scheme_of functions header

  abbrev new_scheme : Scheme
  new_scheme = scheme_of functions newer

  -- all are accepted behind the upgrade too, and have their histories
  record AreUpgraded (number : ℕ) (logs : List (List ℕ)) : Type 0 where
    accepted : AreAllAccepted new_scheme newer number (read_logs newer (upgraded_from header number logs))
    histories : histories_from new_scheme newer number (commands_in (read_logs newer (upgraded_from header number logs)))
        ≡ histories_from old_scheme header number (commands_in (read_logs header logs))

  logs_upgraded : (number : ℕ) (logs : List (List ℕ)) → AllByRecursion AreBytes logs → AreAllAccepted old_scheme header number (read_logs header logs) → AreUpgraded number logs
  logs_upgraded number [] fits all = record { accepted = tt; histories = refl }
  logs_upgraded number (log ∷ logs) fits all =
      let one : IsUpgraded functions header number log = log_upgraded functions header number good log fits.0 all.0 in
      let more : AreUpgraded (suc number) logs = logs_upgraded (suc number) logs fits.1 all.1 in
      record {
        accepted = (one.accepted, more.accepted);
        histories =
            ap (λ (events : List Event). events ∷ histories_from new_scheme newer (suc number) (commands_in (read_logs newer (upgraded_from header (suc number) logs)))) one.events
            ∙ ap (λ (rest : List (List Event)). log_events old_scheme header number (read_log (format_of header) log).commands ∷ rest) more.histories;
      }

  -- ---- the report

  -- an answer by its lines and its end
  abbrev answer_of : List ℕ → BundleEnd → Answer
  answer_of lines end = record { text = lines ++ last_line (status_of end); due = lines; status = status_of end }

  module _ (logs : List (List ℕ)) (fits : AllByRecursion AreBytes logs) (bad : Option ℕ)
      (well : EndsWell old_scheme header (read_logs header logs) (histories_in old_scheme header (read_logs header logs)) bad) where
    abbrev histories : List (List Event)
    histories = histories_in old_scheme header (read_logs header logs)

    abbrev newer_logs : List Log
    newer_logs = read_logs newer (upgraded_logs header logs)

    upgraded : AreUpgraded 0 logs
    upgraded = logs_upgraded 0 logs fits (all_accepted old_scheme header 0 (read_logs header logs) well.accepted)

    histories_same : histories_in new_scheme newer newer_logs ≡ histories
    histories_same = upgraded.histories

    count_same : certified_count new_scheme header.first histories ≡ certified_count old_scheme header.first histories
    count_same = sym (balanced_same functions.digest functions.lanes (format_of header) (format_of newer) (order_of histories) header.first (sealed_by_all histories))

    lines_same : (tell : EpochText) → certified_lines tell new_scheme newer histories ≡ certified_lines tell old_scheme header histories
    lines_same tell =
        ap (λ (count : ℕ). flat_map (epoch_lines tell (operations_in (order_within header.first count histories))) (epochs_from header.first count)) count_same

    newer_well : EndsWell new_scheme newer newer_logs histories None
    newer_well = record {
      even = ap (λ (count : ℕ). nat_lt count (sealed_by_all histories)) count_same ∙ well.even;
      accepted = none_refused new_scheme newer 0 newer_logs upgraded.accepted;
      good = refl;
    }

    end_same : end_of new_scheme newer newer_logs histories None ≡ end_of old_scheme header (read_logs header logs) histories bad
    end_same =
        done_well new_scheme newer newer_logs histories None newer_well
        ∙ ap Done count_same
        ∙ sym (done_well old_scheme header (read_logs header logs) histories bad well)

    answer_same : (tell : EpochText) → answer_on tell new_scheme newer newer_logs None ≡ answer_on tell old_scheme header (read_logs header logs) bad
    answer_same tell =
        ap (λ (all : List (List Event)). answer_of (certified_lines tell new_scheme newer all) (end_of new_scheme newer newer_logs all None)) histories_same
        ∙ ap (λ (lines : List ℕ). answer_of lines (end_of new_scheme newer newer_logs histories None)) (lines_same tell)
        ∙ ap (answer_of (certified_lines tell old_scheme header histories)) end_same

    answers_same : (receipts : Bool) → answer_at receipts functions (Some newer) (upgraded_logs header logs) None ≡ answer_at receipts functions (Some header) logs bad
    answers_same false = answer_same plain_text
    answers_same true = answer_same (tagged_text functions header.first)

-- ---- what is written

-- a header and a round of logs are a bundle
abbrev pub OpensBundle : Type 0
OpensBundle = (header : Header) → IsHeader header → header.first < 4294967296 → IsBundle header (empty_logs header.verifiers) [] (header_text header)

abbrev pub GoesOnBundle : Type 0
GoesOnBundle = (header : Header) (logs round : List (List ℕ)) (rounds : List (List (List ℕ))) (bytes : List ℕ) → IsBundle header logs rounds bytes
    → length round ≡ header.verifiers
    → IsBundle header (logs_with logs round) (rounds ++ (round ∷ [])) (bytes ++ round_text round)

-- behind no bytes a log is its round's
with_empty : (count : ℕ) (round : List (List ℕ)) → length round ≡ count → logs_with (empty_logs count) round ≡ round
with_empty zero [] is = refl
with_empty zero (log ∷ round) is = absurd (omega (arith, is))
with_empty (suc count) [] is = absurd (omega (arith, is))
with_empty (suc count) (log ∷ round) is = ap (λ (rest : List (List ℕ)). log ∷ rest) (with_empty count round (omega (arith, is)))

length_upgraded : (header : Header) (number : ℕ) (logs : List (List ℕ)) → length (upgraded_from header number logs) ≡ length logs
length_upgraded header number [] = refl
length_upgraded header number (log ∷ logs) = ap suc (length_upgraded header (suc number) logs)

-- it is read as the header and the logs that were written
reads_back : OpensBundle → GoesOnBundle → (header : Header) → IsHeader header → header.first < 4294967296 → (logs : List (List ℕ)) → length logs ≡ header.verifiers
    → logged_of (header_text header ++ round_text logs) ≡ logged_whole header logs
reads_back opens goes_on header good first logs count =
    (goes_on header (empty_logs header.verifiers) logs [] (header_text header) (opens header good first) count).means
    ∙ ap (logged_whole header) (with_empty header.verifiers logs count)

-- What is written where a report ends with `done` has that report.
pub keeps_report : OpensBundle → GoesOnBundle → (functions : DigestFunctions) (header : Header) → IsHeader header → header.first < 4294967296
    → (logs : List (List ℕ)) → length logs ≡ header.verifiers → AllByRecursion AreBytes logs → (bad : Option ℕ)
    → status_number (answer_at false functions (Some header) logs bad).status ≡ 0
    → KeepsReportBy functions (record { header = Some header; logs = logs; bad = bad })
keeps_report opens goes_on functions header good first logs count fits bad done receipts =
    ap (λ (text : List ℕ). answer_by receipts functions (logged_of text)) (ap (λ (number : ℕ). if number == 0 then upgraded_text (Some header) logs else []) done)
    ∙ ap (answer_by receipts functions)
    (reads_back opens goes_on (upgraded_header header) (upgraded_good header good) first (upgraded_logs header logs) (length_upgraded header 0 logs ∙ count))
    ∙ answers_same functions header good logs fits bad (ends_well (scheme_of functions header) header (read_logs header logs) _ bad done) receipts

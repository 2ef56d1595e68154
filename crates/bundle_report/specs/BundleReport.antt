-- The report of a bundle and how it ends, by the histories of its logs.
use Rattle.std.specs.Prelude.{ℕ, suc, ◌+◌, nat_lt, List, [], ◌∷◌, ◌++◌, length, map, Option, Some, None, if◌then◌else◌}
use Rattle.merkle_records.specs.Scheme.{Scheme}
use Rattle.std.specs.List.{flat_map}
use Rattle.std.specs.Option.{option_map, option_or}
use Rattle.lamport_clocks.specs.declared.header.Header.{Header}
use Rattle.record_text.specs.declared.operation.Operation.{Operation}
use Rattle.record_text.specs.declared.refusal.Refusal.{Refusal}
use Rattle.log_codec.specs.Log.{Log, read_log}
use Rattle.verifier_run.specs.LogCourse.{refusal_by}
use Rattle.report_text.specs.declared.ending.BundleEnd.{BundleEnd}
use Rattle.report_text.specs.declared.ending.BundleEnd.TheVariants.{Done, BadBundle, Refused, Unbalanced}
use Rattle.report_text.specs.Status.{last_line}
use Rattle.report_text.specs.Ending.{status_of}
use Rattle.soundness.specs.History.{Event, log_events, log_refusal, histories_of}
use Rattle.soundness.specs.Certified.{order_of, operations_of, added_in, evicted_in, sum_over, sealed_by_all, epochs_from, certified_count, certified_operations}
use Rattle.bundle_report.specs.Report.{EpochTold, EpochText}

-- ---- the lines, or what else is told of epochs

-- those of an epoch, by the operations of all epochs
abbrev pub epoch_lines : {A : Type 0} → EpochTold A → List Operation → ℕ → List A
epoch_lines tell operations epoch = tell epoch (operations_of epoch operations)

-- those of all certified epochs
abbrev pub certified_lines : {A : Type 0} → EpochTold A → Scheme → Header → List (List Event) → List A
certified_lines tell scheme header histories =
    flat_map (epoch_lines tell (certified_operations scheme header.first histories))
    (epochs_from header.first (certified_count scheme header.first histories))

-- ---- how it ends

-- the command that is refused in a log and why, if one is: its number is how many were accepted
abbrev pub refused_in : Scheme → Header → ℕ → Log → Option (ℕ × Refusal)
refused_in scheme header number log =
    option_map (λ refusal. (length (log_events scheme header number log.commands), refusal))
    (refusal_by (log_refusal scheme header number log.commands) log.end)

-- the status of a refused log
abbrev pub refused_end : ℕ → ℕ × Refusal → BundleEnd
refused_end number refused = Refused number refused.0 refused.1

-- the status of the first of the logs that is refused, if one is
abbrev pub refused_among : Scheme → Header → ℕ → List Log → Option BundleEnd
refused_among scheme header number [] = None
refused_among scheme header number (log ∷ logs) =
    option_or (option_map (refused_end number) (refused_in scheme header number log))
    (refused_among scheme header (suc number) logs)

-- where no log is refused: a bad frame, or so many epochs are certified and all is read
abbrev pub done_or_bad : ℕ → Option ℕ → BundleEnd
done_or_bad certified None = Done certified
done_or_bad certified (Some offset) = BadBundle offset

-- the first status, if there is one, and else the other
abbrev pub end_or : Option BundleEnd → BundleEnd → BundleEnd
end_or None status = status
end_or (Some status) other = status

-- the sums of an epoch that is not balanced
abbrev pub unbalanced_end : Scheme → List Event → ℕ → BundleEnd
unbalanced_end scheme events epoch =
    Unbalanced epoch (sum_over scheme (added_in epoch events)) (sum_over scheme (evicted_in epoch events))

-- How a report ends: the first epoch that all have sealed and that is not balanced goes before a refused log, and
-- that before a bad frame.
abbrev pub end_of : Scheme → Header → List Log → List (List Event) → Option ℕ → BundleEnd
end_of scheme header logs histories bad =
    let certified = certified_count scheme header.first histories in
    if nat_lt certified (sealed_by_all histories)
    then unbalanced_end scheme (order_of histories) (header.first + certified)
    else end_or (refused_among scheme header 0 logs) (done_or_bad certified bad)

-- The report: the lines of the certified epochs, and the last line.
abbrev pub report_of_logs : EpochText → Scheme → Header → List Log → List (List Event) → Option ℕ → List ℕ
report_of_logs tell scheme header logs histories bad =
    certified_lines tell scheme header histories ++ last_line (status_of (end_of scheme header logs histories bad))

-- the histories of logs that were read
abbrev pub histories_in : Scheme → Header → List Log → List (List Event)
histories_in scheme header logs = histories_of scheme header (map (λ log. log.commands) logs)

-- the histories of logs of which these are the bytes
abbrev pub histories_at : Scheme → Header → List (List ℕ) → List (List Event)
histories_at scheme header logs = histories_in scheme header (map (read_log scheme.format) logs)

-- Logs whose commands have texts are read back, in any version, and none of them is refused.
use Rattle.std.proofs.Common.{◌≡◌, ℕ, zero, suc, ◌+◌, Bool, true, false, List, [], ◌∷◌, map, length, replicate, min, Option, None, refl, sym, ◌∙◌, ap, nat_lt, if◌then◌else◌, arith}
use Rattle.record_text.specs.Longest.{longest_of}
use Rattle.record_text.specs.Format.{LogFormat, format_of}
use Rattle.base_words.specs.Traced.{traced}
use Rattle.std.specs.List.{flat_map, AllByRecursion}
use Rattle.std.specs.Option.{option_map, option_or}
use Rattle.std.proofs.lemmas.Bool.Decides.{nat_tests}
use Rattle.lamport_clocks.specs.declared.header.Header.{Header}
use Rattle.lamport_clocks.specs.Header.{IsHeader, names_paths}
use Rattle.record_hash.specs.Functions.{DigestFunctions}
use Rattle.record_text.specs.declared.refusal.Refusal.{Refusal}
use Rattle.record_text.specs.Tree.{wide_of}
use Rattle.log_codec.specs.declared.command.Command.{Command}
use Rattle.log_codec.specs.declared.command.Command.TheVariants.{AddM, EvictM, AddB, EvictB, EvictBM, Get, Put, NextEpoch, Absent}
use Rattle.log_codec.specs.declared.log_command.LogCommand.{LogCommand}
use Rattle.log_codec.specs.declared.log_command.LogCommand.TheVariants.{ByPath, BySlot}
use Rattle.log_codec.specs.Command.{IsPathCommand, IsCommandIn}
use Rattle.log_codec.specs.Log.{Log, whole, read_log}
use Rattle.log_codec.proofs.LogLaws.{read_log-path_text, read_log-empty}
use Rattle.slot_rewriting.specs.Writing.{written_log, logs_written_from, written_logs}
use Rattle.slot_rewriting.proofs.WritingLaws.{written_by_path}
use Rattle.slot_rewriting.proofs.RangeLaws.{read_written}
use Rattle.merkle_records.specs.Scheme.{Scheme, scheme_of}
use Rattle.report_text.specs.declared.ending.BundleEnd.{BundleEnd}
use Rattle.report_text.specs.declared.ending.BundleEnd.TheVariants.{Done}
use Rattle.verifier_run.specs.LogCourse.{refusal_by}
use Rattle.soundness.specs.History.{Event, log_events, log_refusal, histories_from}
use Rattle.soundness.specs.PathHistory.{path_log_events, path_log_refusal, path_histories_from}
use Rattle.soundness.proofs.VersionLaws.{log_events-by_path, log_refusal-by_path, log_events-by_slot, log_refusal-by_slot}
use Rattle.soundness.specs.Certified.{order_of, sealed_by_all, balanced_from, certified_count, certified_operations, epochs_from}
use Rattle.rewriting_laws.specs.RewrittenLog.{IsOfKind, rewritten_log, AreAccepted}
use Rattle.rewriting_laws.proofs.RewritingLaws.{log_can, log_events_same, log_accepted_too}
use Rattle.bundle_report.specs.Report.{EpochTold}
use Rattle.bundle_report.specs.BundleReport.{refused_end, refused_among, unbalanced_end, done_or_bad, end_or, end_of, histories_in, histories_at, epoch_lines}
use Rattle.host_rounds.specs.SoFar.{end_due, lines_due}

-- ---- one log

-- The bytes of a log are read as whole commands: these have the events that the log has by path, and none is refused.
pub record IsReadBack (scheme : Scheme) (header : Header) (number : ℕ) (log : List Command) : Type 0 where
  pub commands : List LogCommand
  pub read : read_log (format_of header) (written_log header number log) ≡ record { commands = commands; end = whole }
  pub events : log_events scheme header number commands ≡ path_log_events scheme header number log
  pub accepted : log_refusal scheme header number commands ≡ None

-- what has a text by path has a value of its path's kind
of_kind : (longest : ℕ) (command : Command) → IsPathCommand longest command → IsOfKind longest command
of_kind longest (AddM path value parent) is = is.0
of_kind longest (EvictM path parent) is = tt
of_kind longest (AddB path value stamp verifier) is = is.0
of_kind longest (EvictB path stamp) is = tt
of_kind longest (EvictBM path parent stamp) is = tt
of_kind longest (Get path value) is = is
of_kind longest (Put path value) is = is
of_kind longest NextEpoch is = tt
of_kind longest (Absent path parent) is = tt

are_of_kind : (longest : ℕ) (commands : List Command) → AllByRecursion (IsPathCommand longest) commands → AllByRecursion (IsOfKind longest) commands
are_of_kind longest [] is = tt
are_of_kind longest (command ∷ commands) is = (of_kind longest command is.0, are_of_kind longest commands is.1)

pub all_of_kind : (longest : ℕ) (logs : List (List Command)) → AllByRecursion (AllByRecursion (IsPathCommand longest)) logs
    → AllByRecursion (AllByRecursion (IsOfKind longest)) logs
all_of_kind longest [] is = tt
all_of_kind longest (log ∷ logs) is = (are_of_kind longest log is.0, all_of_kind longest logs is.1)

module _ (functions : DigestFunctions) (header : Header) (in_range : IsHeader header) where
  abbrev own : Scheme
  own = scheme_of functions header

  -- A log that is accepted by path is read back, where its commands have texts.
  read_back : (number : ℕ) (log : List Command) → AllByRecursion (IsCommandIn (wide_of header)) log → AllByRecursion (IsPathCommand (longest_of header)) log
      → path_log_refusal own header number log ≡ None → IsReadBack own header number log
  read_back number log within spelled none = go (names_paths header) refl
    where
      kinds : AllByRecursion (IsOfKind (longest_of header)) log
      kinds = are_of_kind (longest_of header) log spelled

      go : (b : Bool) → names_paths header ≡ b → IsReadBack own header number log
      go true version = record {
        commands = map ByPath log;
        read = ap (read_log (format_of header)) (written_by_path header number log version)
            ∙ read_log-path_text (format_of header) log version within spelled;
        events = log_events-by_path own header number log version;
        accepted = log_refusal-by_path own header number log version ∙ none;
      }
      go false version = record {
        commands = map BySlot (rewritten_log header number log);
        read = read_written header number log in_range version (log_can own header number log in_range kinds none) within spelled;
        events = log_events-by_slot own header number (rewritten_log header number log) version
            ∙ log_events_same own header number log in_range kinds none;
        accepted = log_refusal-by_slot own header number (rewritten_log header number log) version
            ∙ log_accepted_too own header number log in_range kinds none;
      }

-- ---- all logs

-- the same of logs, the first of which is of the verifier of this number
abbrev pub AreReadBack : Scheme → Header → ℕ → List (List Command) → Type 0
AreReadBack scheme header number [] = Unit {0}
AreReadBack scheme header number (log ∷ logs) = IsReadBack scheme header number log × AreReadBack scheme header (suc number) logs

pub all_read_back : (functions : DigestFunctions) (header : Header) (number : ℕ) (logs : List (List Command)) → IsHeader header
    → AllByRecursion (AllByRecursion (IsCommandIn (wide_of header))) logs → AllByRecursion (AllByRecursion (IsPathCommand (longest_of header))) logs
    → AreAccepted (scheme_of functions header) header number logs → AreReadBack (scheme_of functions header) header number logs
all_read_back functions header number [] in_range within spelled accepted = tt
all_read_back functions header number (log ∷ logs) in_range within spelled accepted = (
  read_back functions header in_range number log within.0 spelled.0 accepted.0,
  all_read_back functions header (suc number) logs in_range within.1 spelled.1 accepted.1,
)

histories_from_texts : (scheme : Scheme) (header : Header) (number : ℕ) (logs : List (List Command)) → AreReadBack scheme header number logs
    → histories_from scheme header number (map (λ (log : Log). log.commands) (map (read_log (format_of header)) (logs_written_from header number logs)))
    ≡ path_histories_from scheme header number logs
histories_from_texts scheme header number [] back = refl
histories_from_texts scheme header number (log ∷ logs) back =
    ap (λ (l : Log). log_events scheme header number l.commands ∷ histories_from scheme header (suc number) rest) back.0.read
    ∙ (ap (λ (events : List Event). events ∷ histories_from scheme header (suc number) rest) back.0.events
    ∙ ap (λ (histories : List (List Event)). path_log_events scheme header number log ∷ histories) (histories_from_texts scheme header (suc number) logs back.1))
  where
    rest : List (List LogCommand)
    rest = map (λ (l : Log). l.commands) (map (read_log (format_of header)) (logs_written_from header (suc number) logs))

-- So the histories of the bytes are those of the commands.
pub histories_read_back : (functions : DigestFunctions) (header : Header) (logs : List (List Command)) → AreReadBack (scheme_of functions header) header 0 logs
    → histories_at (scheme_of functions header) header (written_logs header logs) ≡ path_histories_from (scheme_of functions header) header 0 logs
histories_read_back functions header logs back = histories_from_texts (scheme_of functions header) header 0 logs back

-- ---- how a report ends

-- whole logs that no verifier refuses
pub none_among : (scheme : Scheme) (header : Header) (number : ℕ) (logs : List (List Command)) → AreReadBack scheme header number logs
    → refused_among scheme header number (map (read_log (format_of header)) (logs_written_from header number logs)) ≡ None
none_among scheme header number [] back = refl
none_among scheme header number (log ∷ logs) back =
    ap (λ (l : Log). option_or (option_map (refused_end number)
    (option_map (λ refusal. (length (log_events scheme header number l.commands), refusal)) (refusal_by (log_refusal scheme header number l.commands) l.end))) more) back.0.read
    ∙ (ap (λ (o : Option Refusal). option_or (option_map (refused_end number)
    (option_map (λ refusal. (length (log_events scheme header number back.0.commands), refusal)) (refusal_by o whole))) more) back.0.accepted
    ∙ none_among scheme header (suc number) logs back.1)
  where
    more : Option BundleEnd
    more = refused_among scheme header (suc number) (map (read_log (format_of header)) (logs_written_from header (suc number) logs))

-- Where all that is sealed is certified, and no log is refused, a check of whole logs comes to the end.
pub end_done : (scheme : Scheme) (header : Header) (logs : List Log) (hs : List (List Event))
    → certified_count scheme header.first hs ≡ sealed_by_all hs → refused_among scheme header 0 logs ≡ None
    → end_of scheme header logs hs None ≡ Done (certified_count scheme header.first hs)
end_done scheme header logs hs certified none =
    ap (λ b. if b then unbalanced_end scheme (order_of hs) (header.first + certified_count scheme header.first hs)
    else end_or (refused_among scheme header 0 logs) (done_or_bad (certified_count scheme header.first hs) None))
    (not_below (certified_count scheme header.first hs) (sealed_by_all hs) certified)
    ∙ ap (λ (o : Option BundleEnd). end_or o (done_or_bad (certified_count scheme header.first hs) None)) none
  where
    not_below : (m n : ℕ) → m ≡ n → nat_lt m n ≡ false
    not_below m n same = grind (arith, nat_tests)

-- ---- logs of no bytes

-- a log of no commands
abbrev empty_log : Log
empty_log = record { commands = []; end = whole }

-- nothing is read of them
empty_texts : (format : LogFormat) (n : ℕ) → map (read_log format) (replicate n []) ≡ replicate n empty_log
empty_texts format zero = refl
empty_texts format (suc n) =
    ap (λ (l : Log). l ∷ map (read_log format) (replicate n [])) (read_log-empty format)
    ∙ ap (λ (ls : List Log). empty_log ∷ ls) (empty_texts format n)

-- logs with no commands have no bytes
texts_from_none : (header : Header) (number n : ℕ) → logs_written_from header number (replicate n []) ≡ replicate n []
texts_from_none header number zero = refl
texts_from_none header number (suc n) = ap (λ (texts : List (List ℕ)). [] ∷ texts) (texts_from_none header (suc number) n)

pub texts_of_none : (header : Header) (n : ℕ) → written_logs header (replicate n []) ≡ replicate n []
texts_of_none header n = texts_from_none header 0 n

none_sealed : (scheme : Scheme) (header : Header) (number n : ℕ)
    → sealed_by_all (histories_from scheme header number (map (λ (log : Log). log.commands) (replicate n empty_log))) ≡ 0
unfolding traced
none_sealed scheme header number zero = refl
none_sealed scheme header number (suc zero) = refl
none_sealed scheme header number (suc (suc n)) = ap (λ (sealed : ℕ). min 0 sealed) (none_sealed scheme header (suc number) (suc n))

none_refused : (scheme : Scheme) (header : Header) (number n : ℕ) → refused_among scheme header number (replicate n empty_log) ≡ None
unfolding traced
none_refused scheme header number zero = refl
none_refused scheme header number (suc n) = none_refused scheme header (suc number) n

module _ (functions : DigestFunctions) (header : Header) (n : ℕ) where
  abbrev scheme : Scheme
  scheme = scheme_of functions header

  abbrev hs : List (List Event)
  hs = histories_at scheme header (replicate n [])

  seals_none : sealed_by_all hs ≡ 0
  seals_none =
      ap (λ (logs : List Log). sealed_by_all (histories_in scheme header logs)) (empty_texts (format_of header) n)
      ∙ none_sealed scheme header 0 n

  pub certifies_none : certified_count scheme header.first hs ≡ 0
  certifies_none = ap (balanced_from scheme (order_of hs) header.first) seals_none

  -- A check of them comes to the end, with no epoch.
  pub empty_end : end_due functions header (replicate n []) ≡ Done 0
  empty_end =
      end_done scheme header (map (read_log (format_of header)) (replicate n [])) hs (certifies_none ∙ sym seals_none)
      (ap (refused_among scheme header 0) (empty_texts (format_of header) n) ∙ none_refused scheme header 0 n)
      ∙ ap (λ (certified : ℕ). Done certified) certifies_none

  -- No line is due.
  pub empty_lines : {A : Type 0} (tell : EpochTold A) → lines_due tell functions header (replicate n []) ≡ []
  empty_lines tell =
      ap (λ (certified : ℕ). flat_map (epoch_lines tell (certified_operations scheme header.first hs)) (epochs_from header.first certified)) certifies_none

-- A log that is accepted whole is so behind an upgrade too, with the same events.
use Rattle.std.proofs.Common.{◌≡◌, ℕ, ◌≤◌, ◌++◌, nat_lt, Bool, true, false, List, [], ◌∷◌, map, inl, inr, None, if◌then◌else◌, refl, sym, ◌∙◌, ap, subst, append-nil, arith}
use Rattle.std.specs.List.{AllByRecursion}
use Rattle.lamport_clocks.specs.declared.header.Header.{Header}
use Rattle.lamport_clocks.specs.Header.{IsHeader, names_paths}
use Rattle.record_hash.specs.Functions.{DigestFunctions}
use Rattle.record_text.specs.Format.{format_of}
use Rattle.record_text.specs.Longest.{longest_blob, longest_of}
use Rattle.record_text.specs.Tree.{wide_of}
use Rattle.record_text.proofs.FieldLaws.{AreBytes}
use Rattle.log_codec.specs.declared.command.Command.{Command}
use Rattle.log_codec.specs.declared.log_command.LogCommand.{LogCommand}
use Rattle.log_codec.specs.declared.log_command.LogCommand.TheVariants.{ByPath, BySlot}
use Rattle.log_codec.specs.Command.{IsPathCommand}
use Rattle.log_codec.specs.LogCommand.{IsCommandBy, IsCommand}
use Rattle.log_codec.specs.Log.{LogEnd, whole, Log, log_text, read_log, IsLeft, IsLog}
use Rattle.log_codec.proofs.LogLaws.{read_is_log, read_log-text}
use Rattle.merkle_records.specs.Scheme.{Scheme, scheme_of}
use Rattle.verifier_commands.specs.State.{opening}
use Rattle.verifier_commands.specs.SlotTransition.{slot_opening}
use Rattle.slot_rewriting.specs.Rewriting.{opening_paths, rewritten_from}
use Rattle.slot_rewriting.specs.Writing.{written_log}
use Rattle.slot_rewriting.proofs.RangeLaws.{read_written}
use Rattle.soundness.specs.History.{log_events, log_refusal}
use Rattle.soundness.specs.PathHistory.{path_log_refusal}
use Rattle.soundness.proofs.VersionLaws.{log_events-by_path, log_refusal-by_path, log_events-by_slot, log_refusal-by_slot}
use Rattle.rewriting_laws.specs.RewrittenLog.{IsOfKind, rewritten_log}
use Rattle.rewriting_laws.proofs.RewritingLaws.{log_can, log_events_same, log_accepted_too}
use Rattle.bundle_upgrade.specs.Upgraded.{upgraded_header, path_commands, upgraded_log}
use Rattle.bundle_upgrade.proofs.SchemeLemmas.{path_events_same, path_refusal_same, slot_events_same, slot_refusal_same}
use Rattle.bundle_upgrade.proofs.SpelledLemmas.{slots_fit, paths_fit, kinds_of, all_by_path, paths_in, slot_commands, all_by_slot}
use Rattle.bundle_upgrade.proofs.WholeLemmas.{IsAccepted}

-- ---- the header

-- it is in its ranges still
pub upgraded_good : (header : Header) → IsHeader header → IsHeader (upgraded_header header)
upgraded_good header good = record {
  some_version = omega arith;
  version = omega arith;
  some_verifiers = good.some_verifiers;
  verifiers = good.verifiers;
  some_cache = good.some_cache;
  cache = good.cache;
  some_end = good.some_end;
  end = good.end;
  bits =
      elim good.bits [
        | inl short ↦ inl short
        | inr long ↦ inr (refl, long.1)
      ];
}

-- no version has longer values
longer_by : (short : Bool) → (if short then 64 else longest_blob) ≤ longest_blob
longer_by true = omega arith
longer_by false = omega arith

longer : (header : Header) → longest_of header ≤ longest_of (upgraded_header header)
longer header = longer_by (nat_lt header.version 3)

-- ---- the kind of a log's commands

of_kind : (header : Header) (b : Bool) → names_paths header ≡ b → (commands : List LogCommand) → AllByRecursion (IsCommand (format_of header)) commands
    → AllByRecursion (IsCommandBy b (wide_of header) (longest_of header)) commands
of_kind header b is [] all = tt
of_kind header b is (command ∷ commands) all = (
  subst (λ (by_path : Bool). IsCommandBy by_path (wide_of header) (longest_of header) command) is all.0,
  of_kind header b is commands all.1,
)

in_newer : (header : Header) (commands : List LogCommand)
    → AllByRecursion (IsCommandBy false (wide_of header) (longest_of (upgraded_header header))) commands → AllByRecursion (IsCommand (format_of (upgraded_header header))) commands
in_newer header [] all = tt
in_newer header (command ∷ commands) all = (all.0, in_newer header commands all.1)

-- ---- a log

-- the log behind an upgrade is accepted, and has the events that it had
pub record IsUpgraded (functions : DigestFunctions) (header : Header) (number : ℕ) (log : List ℕ) : Type 0 where
  pub accepted : IsAccepted (scheme_of functions (upgraded_header header)) (upgraded_header header) number (read_log (format_of (upgraded_header header)) (upgraded_log header number log))
  pub events : log_events (scheme_of functions (upgraded_header header)) (upgraded_header header) number (read_log (format_of (upgraded_header header)) (upgraded_log header number log)).commands
      ≡ log_events (scheme_of functions header) header number (read_log (format_of header) log).commands

module _ (functions : DigestFunctions) (header : Header) (number : ℕ) (good : IsHeader header) (log : List ℕ) (fits : AreBytes log)
    (accepted : IsAccepted (scheme_of functions header) header number (read_log (format_of header) log)) where
  abbrev newer : Header
  newer = upgraded_header header

  abbrev old_scheme : Scheme
  old_scheme = scheme_of functions header

  abbrev new_scheme : Scheme
  new_scheme = scheme_of functions newer

  abbrev commands : List LogCommand
  commands = (read_log (format_of header) log).commands

  spelled : IsLog (format_of header) log (read_log (format_of header) log)
  spelled = read_is_log (format_of header) log fits

  -- what is read of the upgraded log is this
  by_reading : (bytes : List ℕ) (found : Log) → upgraded_log header number log ≡ bytes → read_log (format_of newer) bytes ≡ found
      → log_refusal new_scheme newer number found.commands ≡ None → found.end ≡ whole
      → log_events new_scheme newer number found.commands ≡ log_events old_scheme header number commands → IsUpgraded functions header number log
  by_reading bytes found is reads none end same =
      let read : read_log (format_of newer) (upgraded_log header number log) ≡ found = ap (read_log (format_of newer)) is ∙ reads in
      record {
        accepted = (
          ap (λ (l : Log). log_refusal new_scheme newer number l.commands) read ∙ none,
          ap (λ (l : Log). l.end) read ∙ end,
        );
        events = ap (λ (l : Log). log_events new_scheme newer number l.commands) read ∙ same;
      }

  -- where its commands name paths
  module _ (by_path : names_paths header ≡ true) where
    all : AllByRecursion (IsCommandBy true (wide_of header) (longest_of header)) commands
    all = of_kind header true by_path commands spelled.in_range

    abbrev named : List Command
    named = path_commands commands

    named_all : map ByPath named ≡ commands
    named_all = all_by_path (wide_of header) (longest_of header) commands all

    in_range : AllByRecursion (IsPathCommand (longest_of newer)) named
    in_range = paths_fit (longest_of header) (longest_of newer) (longer header) (wide_of header) commands all

    kinds : AllByRecursion (IsOfKind (longest_of newer)) named
    kinds = kinds_of (longest_of newer) named in_range

    accepted_old : path_log_refusal old_scheme header number named ≡ None
    accepted_old =
        sym (log_refusal-by_path old_scheme header number named by_path)
        ∙ ap (log_refusal old_scheme header number) named_all
        ∙ accepted.0

    accepted_new : path_log_refusal new_scheme newer number named ≡ None
    accepted_new =
        sym (path_refusal_same functions.digest functions.lanes (format_of header) (format_of newer) number header.verifiers (opening number header) named)
        ∙ accepted_old

    pub upgraded_by_path : IsUpgraded functions header number log
    upgraded_by_path =
        by_reading (written_log newer number named) (record { commands = map BySlot (rewritten_from (opening_paths number newer) named); end = whole })
        (ap (λ (b : Bool). if b then written_log newer number named else log) by_path)
        (read_written newer number named (upgraded_good header good) refl
        (log_can new_scheme newer number named (upgraded_good header good) kinds accepted_new)
        (paths_in (wide_of header) (longest_of header) commands all) in_range)
        (log_refusal-by_slot new_scheme newer number (rewritten_log newer number named) refl
        ∙ log_accepted_too new_scheme newer number named (upgraded_good header good) kinds accepted_new)
        refl
        (log_events-by_slot new_scheme newer number (rewritten_log newer number named) refl
        ∙ log_events_same new_scheme newer number named (upgraded_good header good) kinds accepted_new
        ∙ sym (path_events_same functions.digest functions.lanes (format_of header) (format_of newer) number header.verifiers (opening number header) named)
        ∙ sym (log_events-by_path old_scheme header number named by_path)
        ∙ ap (log_events old_scheme header number) named_all)

  -- and where they name slots
  module _ (by_slot : names_paths header ≡ false) where
    all_slots : AllByRecursion (IsCommandBy false (wide_of header) (longest_of header)) commands
    all_slots = of_kind header false by_slot commands spelled.in_range

    slotted : map BySlot (slot_commands commands) ≡ commands
    slotted = all_by_slot (wide_of header) (longest_of header) commands all_slots

    nothing_left : spelled.rest ≡ []
    nothing_left = subst (λ (end : LogEnd). IsLeft (format_of header) end spelled.rest) accepted.1 spelled.left

    log_is : log ≡ log_text commands
    log_is = spelled.parts ∙ ap (λ (rest : List ℕ). log_text commands ++ rest) nothing_left ∙ append-nil (log_text commands)

    pub upgraded_by_slot : IsUpgraded functions header number log
    upgraded_by_slot =
        by_reading log (record { commands = commands; end = whole })
        (ap (λ (b : Bool). if b then written_log newer number (path_commands commands) else log) by_slot)
        (ap (read_log (format_of newer)) log_is
        ∙ read_log-text (format_of newer) commands
        (in_newer header commands (slots_fit (longest_of header) (longest_of newer) (longer header) (wide_of header) commands all_slots)))
        (ap (log_refusal new_scheme newer number) (sym slotted)
        ∙ log_refusal-by_slot new_scheme newer number (slot_commands commands) refl
        ∙ sym (slot_refusal_same functions.digest functions.lanes (format_of header) (format_of newer) number header.verifiers (slot_opening number header) (slot_commands commands))
        ∙ sym (log_refusal-by_slot old_scheme header number (slot_commands commands) by_slot)
        ∙ ap (log_refusal old_scheme header number) slotted
        ∙ accepted.0)
        refl
        (ap (log_events new_scheme newer number) (sym slotted)
        ∙ log_events-by_slot new_scheme newer number (slot_commands commands) refl
        ∙ sym (slot_events_same functions.digest functions.lanes (format_of header) (format_of newer) number header.verifiers (slot_opening number header) (slot_commands commands))
        ∙ sym (log_events-by_slot old_scheme header number (slot_commands commands) by_slot)
        ∙ ap (log_events old_scheme header number) slotted)

  log_upgraded_by : (b : Bool) → names_paths header ≡ b → IsUpgraded functions header number log
  log_upgraded_by true is = upgraded_by_path is
  log_upgraded_by false is = upgraded_by_slot is

  pub log_upgraded : IsUpgraded functions header number log
  log_upgraded = log_upgraded_by (names_paths header) refl

-- What holds of a log that is accepted by path, once it is rewritten by slots.
use Rattle.std.proofs.Common.{◌≡◌, ℕ, ◌≤◌, List, length, None, arith}
use Rattle.std.specs.List.{AllByRecursion}
use Rattle.lamport_clocks.specs.declared.header.Header.{Header}
use Rattle.lamport_clocks.specs.Header.{IsHeader}
use Rattle.log_codec.specs.declared.command.Command.{Command}
use Rattle.merkle_records.specs.Scheme.{Scheme}
use Rattle.slot_rewriting.specs.Rewriting.{opening_paths, paths_behind, CanRewriteFrom}
use Rattle.verifier_commands.specs.declared.state.State.{State}
use Rattle.verifier_commands.specs.State.{opening}
use Rattle.soundness.specs.StateHistory.{rules_under}
use Rattle.soundness.specs.PathHistory.{path_log_events, path_log_refusal}
use Rattle.soundness.specs.SlotHistory.{slot_log_events, slot_log_refusal}
use Rattle.rewriting_laws.specs.RewrittenLog.{IsOfKind, Leads, rewritten_log}
use Rattle.rewriting_laws.proofs.LogLemmas.{whole_log}
use Rattle.rewriting_laws.proofs.RestLemmas.{slots_rest}

module _ (scheme : Scheme) (header : Header) (number : ℕ) (commands : List Command) (is : IsHeader header) (kinds : AllByRecursion (IsOfKind scheme.format.longest) commands) where
  some_cache : 1 ≤ header.cache
  some_cache = omega (arith, is.some_cache)

  module _ (accepted : path_log_refusal scheme header number commands ≡ None) where
    -- each of its commands can be rewritten
    pub log_can : CanRewriteFrom (opening_paths number header) commands
    log_can = (whole_log scheme header number commands some_cache kinds accepted).can

    -- it has the same events
    pub log_events_same : slot_log_events scheme header number (rewritten_log header number commands) ≡ path_log_events scheme header number commands
    log_events_same = (whole_log scheme header number commands some_cache kinds accepted).events

    -- and is accepted too
    pub log_accepted_too : slot_log_refusal scheme header number (rewritten_log header number commands) ≡ None
    log_accepted_too = (whole_log scheme header number commands some_cache kinds accepted).refusal

  -- its slots come to rest where it leaves as many entries as its verifier began with
  pub log_rests : (last : State) → Leads (rules_under scheme header number) (opening number header) commands last
      → length last.cache.entries ≡ length (opening number header).cache.entries
      → paths_behind (opening_paths number header) commands ≡ opening_paths number header
  log_rests last leads few = slots_rest scheme header number commands last some_cache kinds leads few

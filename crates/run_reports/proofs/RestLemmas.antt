-- Logs that leave each verifier as it rests are such that what is written behind them is written as logs of their own.
use Rattle.std.proofs.Common.{◌≡◌, ℕ, suc, ◌+◌, ◌<◌, ◌==◌, Bool, true, false, List, [], ◌∷◌, map, length, get_or, Ok, Err, None, refl, sym, subst, if◌then◌else◌, arith}
use Rattle.std.specs.List.{AllByRecursion}
use Rattle.std.proofs.lemmas.Option.{none-some}
use Rattle.lamport_clocks.specs.Header.{IsHeader, names_paths}
use Rattle.lamport_clocks.specs.Reading.{Reading}
use Rattle.record_hash.specs.Functions.{DigestFunctions}
use Rattle.log_codec.specs.declared.command.Command.{Command}
use Rattle.slot_rewriting.specs.Writing.{ComesToRest, ComeToRestFrom}
use Rattle.slot_rewriting.proofs.WritingLaws.{rests_by_path, rests_by_slot}
use Rattle.script_text.specs.declared.task.Task.{Task}
use Rattle.verifier_cache.specs.declared.entry.Entry.{Entry}
use Rattle.verifier_commands.specs.declared.state.State.{State}
use Rattle.verifier_commands.specs.State.{opening}
use Rattle.verifier_commands.specs.Transition.{Rules, Step, transition}
use Rattle.soundness.specs.StateHistory.{refusal_from, refusal_behind, rules_under}
use Rattle.soundness.specs.PathHistory.{path_machinery_under}
use Rattle.rewriting_laws.specs.RewrittenLog.{IsOfKind, Leads}
use Rattle.rewriting_laws.proofs.RewritingLaws.{log_can, log_rests}
use Rattle.host_core.specs.Accepted.{IsAccepted, state_from, state_behind}
use Rattle.host_core.specs.Host.{Host, scheme, machinery, resting}
use Rattle.host_core.specs.World.{Worker}
use Rattle.shipped_host.specs.declared.settings.Settings.{Settings}
use Rattle.shipped_host.specs.ShippedHost.{shipped_host}

-- accepted commands lead to the state that they leave
leads : (rules : Rules) (state : State) (commands : List Command) → IsAccepted (path_machinery_under rules) state commands
    → Leads rules state commands (state_from (path_machinery_under rules) state commands)
unfolding refusal_from state_from
leads rules state [] accepted = refl
leads rules state (command ∷ commands) accepted =
    go (transition rules state command) refl (λ after none. leads rules after commands none) accepted
  where
    go : (step : Step) → transition rules state command ≡ step
        → ((after : State) → IsAccepted (path_machinery_under rules) after commands → Leads rules after commands (state_from (path_machinery_under rules) after commands))
        → refusal_behind step (λ after. refusal_from (path_machinery_under rules) after commands) ≡ None
        → Leads rules state (command ∷ commands) (state_behind state step (λ after. state_from (path_machinery_under rules) after commands))
    go (Ok done) is further none = (done.0, done.1, is, further done.1 none)
    go (Err refusal) is further none = absurd (none-some refusal (sym none))

-- between requests a verifier caches as many entries as at the start
abbrev pub IsBare : {C R : Type 0} → Host C R → Type 0
IsBare host = (i : ℕ) → length (host.cache i).entries ≡ length (opening i host.header).cache.entries

-- the log of the worker of this number is accepted, and its verifier rests with the worker's clock
abbrev pub LeftAtRest : {C R : Type 0} → Host C R → ℕ → Worker → Type 0
LeftAtRest host number worker =
    IsAccepted (machinery host number) (opening number host.header) worker.log
    × (state_from (machinery host number) (opening number host.header) worker.log ≡ resting host number worker.clock)

module _ {C R : Type 0} (host : Host C R) (bare : IsBare host) (in_range : IsHeader host.header) where
  -- So a log that is accepted and leaves its verifier as it rests comes to rest.
  log_comes_to_rest : (number : ℕ) (log : List Command) (clock : Reading) → AllByRecursion (IsOfKind (scheme host).format.longest) log
      → IsAccepted (machinery host number) (opening number host.header) log
      → state_from (machinery host number) (opening number host.header) log ≡ resting host number clock
      → ComesToRest host.header number log
  log_comes_to_rest number log clock kinds accepted rests = go (names_paths host.header) refl
    where
      go : (b : Bool) → names_paths host.header ≡ b → ComesToRest host.header number log
      go true version = rests_by_path host.header number log version
      go false version =
          rests_by_slot host.header number log version (log_can (scheme host) host.header number log in_range kinds accepted)
          (log_rests (scheme host) host.header number log in_range kinds (resting host number clock)
          (subst (λ (last : State). Leads (rules_under (scheme host) host.header number) (opening number host.header) log last) rests
          (leads (rules_under (scheme host) host.header number) (opening number host.header) log accepted))
          (bare number))

  -- All logs do.
  pub logs_rest : (number : ℕ) (workers : List Worker) (d : Worker)
      → AllByRecursion (AllByRecursion (IsOfKind (scheme host).format.longest)) (map (λ worker. worker.log) workers)
      → ((i : ℕ) → i < length workers → LeftAtRest host (number + i) (get_or workers i d))
      → ComeToRestFrom host.header number (map (λ worker. worker.log) workers)
  logs_rest number [] d kinds accepted = tt
  logs_rest number (worker ∷ workers) d kinds accepted =
      let own : LeftAtRest host number worker = subst (λ (n : ℕ). LeftAtRest host n worker) (omega arith) (accepted 0 (omega arith)) in (
        log_comes_to_rest number worker.log worker.clock kinds.0 own.0 own.1,
        logs_rest (suc number) workers d kinds.1
            (λ i within. subst (λ (n : ℕ). LeftAtRest host n (get_or workers i d)) (omega arith) (accepted (suc i) (omega (arith, within)))),
      )

-- ---- the shipped host

-- it caches the root alone, or nothing
pub shipped_is_bare : (functions : DigestFunctions) (settings : Settings) (script : List (List Task)) → IsBare (shipped_host functions settings script)
shipped_is_bare functions settings script i = go (i == 0) _ _
  where
    go : (b : Bool) (one other : Entry) → length (if b then one ∷ [] else []) ≡ length (if b then other ∷ [] else [])
    go true one other = refl
    go false one other = refl

-- What a check makes of the logs of the shipped host.
use Rattle.std.proofs.Common.{◌≡◌, ℕ, zero, suc, ◌+◌, ◌<◌, ◌≤◌, ◌^◌, ◌==◌, true, false, List, [], ◌∷◌, ◌++◌, map, length, get_or, take, Some, None, refl, sym, ◌∙◌, ap, subst, arith, Bool}
use Rattle.std.specs.List.{AllByRecursion}
use Rattle.std.proofs.lemmas.Bool.{cond_both}
use Rattle.std.proofs.lemmas.Grind.{flat_map-append}
use Rattle.std.proofs.lemmas.List.{length-map}
use Rattle.tree_keys.specs.Path.{key_bits}
use Rattle.lamport_clocks.specs.Header.{IsHeader}
use Rattle.record_hash.specs.Functions.{DigestFunctions}
use Rattle.record_text.specs.declared.exhibit.Exhibit.TheVariants.{Clean}
use Rattle.record_text.specs.declared.request.Request.{Request}
use Rattle.record_text.specs.Longest.{longest_of}
use Rattle.record_text.specs.Format.{format_of}
use Rattle.record_text.specs.Tree.{wide_of}
use Rattle.log_codec.specs.Command.{IsPathCommand, IsCommandIn}
use Rattle.log_codec.specs.Log.{read_log}
use Rattle.log_codec.specs.declared.command.Command.{Command}
use Rattle.slot_rewriting.specs.Writing.{written_logs, ComeToRestFrom}
use Rattle.merkle_records.specs.Merkle.{GivesDigests}
use Rattle.report_text.specs.declared.ending.BundleEnd.TheVariants.{Done}
use Rattle.script_text.specs.declared.task.Task.{Task}
use Rattle.stamp_order.specs.Serial.{IsSerial, none_everywhere}
use Rattle.verifier_commands.specs.State.{opening, root_entry}
use Rattle.soundness.specs.History.{Event}
use Rattle.soundness.specs.PathHistory.{path_log_events, path_histories_from}
use Rattle.soundness.specs.StateHistory.{rules_under}
use Rattle.soundness.specs.Certified.{all_events, added_by, certified_count, certified_operations}
use Rattle.soundness.specs.Typed.{ArePathsTyped, IsPathTypedIn, ArePathsTypedIn}
use Rattle.soundness.specs.Timed.{added_among}
use Rattle.soundness.specs.World.{stored_behind}
use Rattle.soundness.proofs.TypedLaws.{paths_typed}
use Rattle.rewriting_laws.specs.RewrittenLog as rewritten
use Rattle.bundle_report.specs.BundleReport.{histories_at, refused_among, end_of}
use Rattle.bundle_report.specs.Headline.{certified_exhibit, exhibit_at}
use Rattle.host_rounds.specs.SoFar.{end_due}
use Rattle.host_shard.specs.Content.{Content}
use Rattle.host_core.specs.Accepted.{IsAccepted}
use Rattle.host_core.specs.Host.{Host, scheme, machinery, asked, script_of}
use Rattle.host_core.specs.World.{Worker, World, fresh, worker_at, logs_of, set_up}
use Rattle.host_core.specs.WorldEvent.{WorldEvent, HasAdvanced, IsPhaseOver, AreEnabled, run_events}
use Rattle.host_core.specs.Deeds.{answers_in, IsAnswering}
use Rattle.host_core.specs.Core.{histories, pending_in}
use Rattle.shipped_host.specs.declared.settings.Settings.{Settings}
use Rattle.shipped_host.specs.ShippedHost.{shipped_host}
use Rattle.host_fits.specs.Promise.{CanRun, IsPromised}
use Rattle.host_fits.specs.Holds.{ContentsHold}
use Rattle.host_fits.proofs.TypedLaws.{logs_typed}
use Rattle.run_reports.specs.Runs.{HoldsOfRuns, map_certified}
use Rattle.run_reports.proofs.StampLemmas.{IsStamped, opening_narrow, logs_evict, logs_add, every-first, every-second}
use Rattle.run_reports.proofs.CommandLemmas.{IsKind, IsGood, accepted_spelled}
use Rattle.run_reports.proofs.TextLemmas.{all_of_kind, AreReadBack, all_read_back, histories_read_back, none_among, end_done}
use Rattle.run_reports.proofs.RestLemmas.{LeftAtRest, logs_rest, shipped_is_bare}

-- keys of either tree have bits
some_bits : (wide : Bool) → 0 < key_bits wide
some_bits true = omega arith
some_bits false = omega arith

module _ {C R : Type 0} (host : Host C R) where
  -- a verifier begins with nothing, or with the root
  opening_good : (number : ℕ) → host.header.first < 2 ^ 32 → IsHeader host.header → IsGood (longest_of host.header) (opening number host.header)
  opening_good number first is = record {
    kinds = cond_both (number == 0) (root_entry (wide_of host.header) ∷ []) [] (AllByRecursion (IsKind (longest_of host.header)))
        (λ here. ((some_bits (wide_of host.header), tt, tt), tt)) (λ here. tt);
    narrow = opening_narrow number host.header first (omega (arith, is.end));
  }

  -- Logs that are accepted have texts, where their commands are typed and the stamps of what they add are in their ranges.
  logs_spelled : (number : ℕ) (workers : List Worker) (d : Worker) → GivesDigests host.functions.digest → host.header.first < 2 ^ 32 → IsHeader host.header
      → ((i : ℕ) → i < length workers → IsAccepted (machinery host (number + i)) (opening (number + i) host.header) (get_or workers i d).log)
      → ArePathsTyped (longest_of host.header) (map (λ worker. worker.log) workers)
      → AllByRecursion IsStamped (added_among (all_events (path_histories_from (scheme host) host.header number (map (λ worker. worker.log) workers))))
      → AllByRecursion (AllByRecursion (IsPathCommand (longest_of host.header))) (map (λ worker. worker.log) workers)
  logs_spelled number [] d digests first is accepted typed stamped = tt
  logs_spelled number (worker ∷ workers) d digests first is accepted typed stamped = (
    accepted_spelled (rules_under (scheme host) host.header number) digests (omega (arith, is.verifiers)) number 0 (opening number host.header) worker.log
        (opening_good number first is) typed.0
        (subst (λ (n : ℕ). IsAccepted (machinery host n) (opening n host.header) worker.log) (omega arith) (accepted 0 (omega arith)))
        (every-first IsStamped (added_among here) (added_among rest) split),
    logs_spelled (suc number) workers d digests first is
        (λ i within. subst (λ (n : ℕ). IsAccepted (machinery host n) (opening n host.header) (get_or workers i d).log) (omega arith) (accepted (suc i) (omega (arith, within))))
        typed.1 (every-second IsStamped (added_among here) (added_among rest) split),
  )
    where
      here : List Event
      here = path_log_events (scheme host) host.header number worker.log

      rest : List Event
      rest = all_events (path_histories_from (scheme host) host.header (suc number) (map (λ worker. worker.log) workers))

      split : AllByRecursion IsStamped (added_among here ++ added_among rest)
      split = subst (AllByRecursion IsStamped) (flat_map-append (λ (event : Event). added_by event.change) here rest) stamped

  -- the history of a worker
  history_at : (number : ℕ) (workers : List Worker) (i : ℕ) (d : Worker) → i < length workers
      → get_or (path_histories_from (scheme host) host.header number (map (λ worker. worker.log) workers)) i []
      ≡ path_log_events (scheme host) host.header (number + i) (get_or workers i d).log
  history_at number [] i d within = absurd (omega (arith, within))
  history_at number (worker ∷ workers) zero d within =
      ap (λ (n : ℕ). path_log_events (scheme host) host.header n worker.log) (omega arith)
  history_at number (worker ∷ workers) (suc i) d within =
      history_at (suc number) workers i d (omega (arith, within))
      ∙ ap (λ (n : ℕ). path_log_events (scheme host) host.header n (get_or workers i d).log) (omega arith)

  -- no verifier refuses a log
  logs_accepted : (number : ℕ) (workers : List Worker) (d : Worker)
      → ((i : ℕ) → i < length workers → IsAccepted (machinery host (number + i)) (opening (number + i) host.header) (get_or workers i d).log)
      → rewritten.AreAccepted (scheme host) host.header number (map (λ worker. worker.log) workers)
  logs_accepted number [] d accepted = tt
  logs_accepted number (worker ∷ workers) d accepted = (
    subst (λ (n : ℕ). IsAccepted (machinery host n) (opening n host.header) worker.log) (omega arith) (accepted 0 (omega arith)),
    logs_accepted (suc number) workers d
        (λ i within. subst (λ (n : ℕ). IsAccepted (machinery host n) (opening n host.header) (get_or workers i d).log) (omega arith) (accepted (suc i) (omega (arith, within)))),
  )

-- ---- the shipped host

-- the shipped host keeps its promise, as `host_fits` says
abbrev pub KeepsPromise : Type 0
KeepsPromise =
    (functions : DigestFunctions) (settings : Settings) (script : List (List Task)) (events : List (WorldEvent Request))
    → CanRun functions settings script
    → AreEnabled (shipped_host functions settings script) (set_up (shipped_host functions settings script)) events
    → IsPromised (shipped_host functions settings script) (run_events (shipped_host functions settings script) (set_up (shipped_host functions settings script)) events)

-- Commands that are typed within a tree name its paths.
within_tree : (wide : Bool) (longest : ℕ) (commands : List Command) → AllByRecursion (IsPathTypedIn wide longest) commands
    → AllByRecursion (IsCommandIn wide) commands
within_tree wide longest [] typed = tt
within_tree wide longest (command ∷ commands) typed = (typed.0.0, within_tree wide longest commands typed.1)

all_within : (wide : Bool) (longest : ℕ) (logs : List (List Command)) → ArePathsTypedIn wide longest logs
    → AllByRecursion (AllByRecursion (IsCommandIn wide)) logs
all_within wide longest [] typed = tt
all_within wide longest (log ∷ logs) typed = (within_tree wide longest log typed.0, all_within wide longest logs typed.1)

module _ (keeps : KeepsPromise) (functions : DigestFunctions) (settings : Settings) (script : List (List Task)) (events : List (WorldEvent Request)) where
  abbrev host : Host Content Request
  host = shipped_host functions settings script

  abbrev world : World Content
  world = run_events host (set_up host) events

  abbrev texts : List (List ℕ)
  texts = written_logs host.header (logs_of world)

  module _ (can : CanRun functions settings script) (first : settings.header.first < 2 ^ 32) (enabled : AreEnabled host (set_up host) events) where
    promise : IsPromised host world
    promise = keeps functions settings script events can enabled

    typed : ArePathsTypedIn (wide_of settings.header) (longest_of settings.header) (logs_of world)
    typed = logs_typed functions settings script events can enabled

    within : AllByRecursion (AllByRecursion (IsCommandIn (wide_of settings.header))) (logs_of world)
    within = all_within (wide_of settings.header) (longest_of settings.header) (logs_of world) typed

    accepted : (i : ℕ) → i < length world.workers → IsAccepted (machinery host (0 + i)) (opening (0 + i) host.header) (worker_at host world i).log
    accepted i within = subst (λ (n : ℕ). IsAccepted (machinery host n) (opening n host.header) (worker_at host world i).log) (omega arith) (promise.accepted i within).0

    spelled : AllByRecursion (AllByRecursion (IsPathCommand (longest_of settings.header))) (logs_of world)
    spelled =
        logs_spelled host 0 world.workers (fresh host.header) can.digests first can.in_range.header accepted
        (paths_typed (wide_of settings.header) (longest_of settings.header) (logs_of world) typed)
        (logs_add (all_events (histories host world)) (pending_in host world)
        (logs_evict (scheme host) host.header 0 (logs_of world) first (omega (arith, can.in_range.header.end)))
        promise.even)

    back : AreReadBack (scheme host) host.header 0 (logs_of world)
    back =
        all_read_back functions host.header 0 (logs_of world) can.in_range.header within spelled
        (logs_accepted host 0 world.workers (fresh host.header) accepted)

    read : histories_at (scheme host) host.header texts ≡ histories host world
    read = histories_read_back functions host.header (logs_of world) back

    refused : refused_among (scheme host) host.header 0 (map (read_log (format_of host.header)) texts) ≡ None
    refused = none_among (scheme host) host.header 0 (logs_of world) back

    rest : ComeToRestFrom host.header 0 (logs_of world)
    rest =
        logs_rest host (shipped_is_bare functions settings script) can.in_range.header 0 world.workers (fresh host.header)
        (all_of_kind (longest_of settings.header) (logs_of world) spelled)
        (λ i within. subst (λ (n : ℕ). LeftAtRest host n (worker_at host world i)) (omega arith) (promise.accepted i within))

    ends : end_due functions settings.header texts ≡ Done (certified_count (scheme host) host.header.first (histories host world))
    ends =
        ap (λ (hs : List (List Event)). end_of (scheme host) host.header (map (read_log (format_of host.header)) texts) hs None) read
        ∙ end_done (scheme host) host.header (map (read_log (format_of host.header)) texts) (histories host world) promise.certified refused

    clean : exhibit_at functions (Some settings.header) texts ≡ Clean
    clean = ap (certified_exhibit (scheme host) host.header.first) read ∙ promise.nothing_to_show

    serial : IsSerial (certified_operations (scheme host) host.header.first (histories_at (scheme host) host.header texts))
    serial =
        subst (λ (hs : List (List Event)). IsSerial (certified_operations (scheme host) host.header.first hs)) (sym read)
        (promise.serially can.digests)

    -- what a check reads of a worker's log
    history_read : (i : ℕ) → i < length world.workers
        → get_or (histories_at (scheme host) host.header texts) i [] ≡ path_log_events (scheme host) host.header i (worker_at host world i).log
    history_read i within =
        ap (λ (hs : List (List Event)). get_or hs i []) read
        ∙ history_at host 0 world.workers i (fresh host.header) within
        ∙ ap (λ (n : ℕ). path_log_events (scheme host) host.header n (worker_at host world i).log) (omega arith)

-- what is answered of the front of what is asked is answered of all of it, where it is as many
all_answered : {C R : Type 0} (host : Host C R) (answers : List (ℕ × Request)) (asks : List (ℕ × R)) (n : ℕ)
    → IsAnswering host answers (take n asks) → length answers ≡ length asks → IsAnswering host answers asks
all_answered host [] [] n are same = tt
all_answered host [] (ask ∷ asks) n are same = absurd (omega (arith, same))
all_answered host (answer ∷ answers) [] n are same = absurd (omega (arith, same))
all_answered host (answer ∷ answers) (ask ∷ asks) zero are same = absurd are
all_answered host (answer ∷ answers) (ask ∷ asks) (suc n) are same = (are.0, are.1, all_answered host answers asks n are.2 (omega (arith, same)))

-- ---- the laws

module _ (keeps : KeepsPromise) where
  pub reads : HoldsOfRuns (λ host world. histories_at (scheme host) host.header (written_logs host.header (logs_of world)) ≡ histories host world)
  reads = read keeps

  pub refuses_none : HoldsOfRuns (λ host world. refused_among (scheme host) host.header 0 (map (read_log (format_of host.header)) (written_logs host.header (logs_of world))) ≡ None)
  refuses_none = refused keeps

  pub come_to_rest : HoldsOfRuns (λ host world. ComeToRestFrom host.header 0 (logs_of world))
  come_to_rest = rest keeps

  pub comes_to_end : HoldsOfRuns (λ host world.
      end_due host.functions host.header (written_logs host.header (logs_of world)) ≡ Done (certified_count (scheme host) host.header.first (histories host world)))
  comes_to_end = ends keeps

  pub comes_to_whole : HoldsOfRuns (λ host world. ((i : ℕ) → i < length world.workers → HasAdvanced host world i 2)
      → end_due host.functions host.header (written_logs host.header (logs_of world)) ≡ Done (suc world.phase))
  comes_to_whole functions settings script events can first enabled turned =
      ends keeps functions settings script events can first enabled
      ∙ ap (λ (n : ℕ). Done n) ((promise keeps functions settings script events can first enabled).whole turned)

  pub shows_nothing : HoldsOfRuns (λ host world. exhibit_at host.functions (Some host.header) (written_logs host.header (logs_of world)) ≡ Clean)
  shows_nothing = clean keeps

  pub certifies_serial : HoldsOfRuns (λ host world.
      IsSerial (certified_operations (scheme host) host.header.first (histories_at (scheme host) host.header (written_logs host.header (logs_of world)))))
  certifies_serial = serial keeps

  pub finds_answers : HoldsOfRuns (λ host world. host.rolling ≡ false → (i : ℕ) → i < length world.workers
      → answers_in (get_or (histories_at (scheme host) host.header (written_logs host.header (logs_of world))) i []) ≡ take (worker_at host world i).served (script_of host i))
  finds_answers functions settings script events can first enabled plain i within =
      ap answers_in (history_read keeps functions settings script events can first enabled i within)
      ∙ (promise keeps functions settings script events can first enabled).answered plain i within

  pub finds_answers_in_time : HoldsOfRuns (λ host world. (i : ℕ) → i < length world.workers
      → IsAnswering host (answers_in (get_or (histories_at (scheme host) host.header (written_logs host.header (logs_of world))) i []))
      (take (worker_at host world i).served (asked host i)))
  finds_answers_in_time functions settings script events can first enabled i within =
      let host = shipped_host functions settings script in
      subst (λ (log : List Event). IsAnswering host (answers_in log)
      (take (worker_at host (run_events host (set_up host) events) i).served (asked host i)))
      (sym (history_read keeps functions settings script events can first enabled i within))
      ((promise keeps functions settings script events can first enabled).in_time i within)

  pub finds_all_answers : HoldsOfRuns (λ host world. host.rolling ≡ false → length host.script ≤ suc world.phase → IsPhaseOver host world
      → ((i : ℕ) → i < length world.workers → (worker_at host world i).stopped ≡ false)
      → (i : ℕ) → i < length world.workers
      → answers_in (get_or (histories_at (scheme host) host.header (written_logs host.header (logs_of world))) i []) ≡ script_of host i)
  finds_all_answers functions settings script events can first enabled plain last over going i within =
      ap answers_in (history_read keeps functions settings script events can first enabled i within)
      ∙ (promise keeps functions settings script events can first enabled).done plain last over going i within

  pub finds_all_in_time : HoldsOfRuns (λ host world. length host.script ≤ suc world.phase → IsPhaseOver host world
      → ((i : ℕ) → i < length world.workers → (worker_at host world i).stopped ≡ false)
      → ((i : ℕ) → i < length world.workers → HasAdvanced host world i 2)
      → (i : ℕ) → i < length world.workers
      → IsAnswering host (answers_in (get_or (histories_at (scheme host) host.header (written_logs host.header (logs_of world))) i [])) (asked host i))
  finds_all_in_time functions settings script events can first enabled last over going advanced i within =
      subst (λ (log : List Event). IsAnswering host (answers_in log) (asked host i))
      (sym (history_read keeps functions settings script events can first enabled i within))
      (go settings.rolling refl)
    where
      host : Host Content Request
      host = shipped_host functions settings script

      world : World Content
      world = run_events host (set_up host) events

      promised : IsPromised host world
      promised = promise keeps functions settings script events can first enabled

      -- behind the round of a rolling host no clock is past the epoch of its last phase
      closes : settings.rolling ≡ true → (b : Bool) → world.closing ≡ b → world.closing ≡ true
      closes rolling true closing = closing
      closes rolling false phase =
          let bounded = (promised.in_round rolling phase).0 in
          let most = bounded.within in
          let own = (bounded.scanned i within).2 in
          let twice = advanced i within in
          absurd (omega (arith, most, own, twice))

      go : (b : Bool) → settings.rolling ≡ b → IsAnswering host (answers_in (path_log_events (scheme host) host.header i (worker_at host world i).log)) (asked host i)
      go true rolling = promised.round_done rolling (closes rolling world.closing refl) i within
      go false plain =
          all_answered host (answers_in (path_log_events (scheme host) host.header i (worker_at host world i).log)) (asked host i) (worker_at host world i).served
          (promised.in_time i within)
          (ap length (promised.done plain last over going i within)
          ∙ length-map (asked host i) (λ ask. (host.header.first + ask.0, host.telling ask.1)))

-- ---- what the contents hold

-- they hold the plain map, as `host_fits` says
abbrev pub HoldPlainMap : Type 0
HoldPlainMap =
    (functions : DigestFunctions) (settings : Settings) (script : List (List Task)) (events : List (WorldEvent Request))
    → CanRun functions settings script
    → let host = shipped_host functions settings script in
    AreEnabled host (set_up host) events
    → ((i : ℕ) → i < length (run_events host (set_up host) events).workers → HasAdvanced host (run_events host (set_up host) events) i 2)
    → ContentsHold settings (run_events host (set_up host) events)
    (stored_behind none_everywhere (certified_operations (scheme host) settings.header.first (histories host (run_events host (set_up host) events))))

-- it is that behind what a check certifies
pub holds_certified : KeepsPromise → HoldPlainMap → (functions : DigestFunctions) (settings : Settings) (script : List (List Task)) (events : List (WorldEvent Request))
    → CanRun functions settings script → settings.header.first < 2 ^ 32
    → let host = shipped_host functions settings script in
    AreEnabled host (set_up host) events
    → ((i : ℕ) → i < length (run_events host (set_up host) events).workers → HasAdvanced host (run_events host (set_up host) events) i 2)
    → ContentsHold settings (run_events host (set_up host) events)
    (map_certified functions settings.header (logs_of (run_events host (set_up host) events)))
holds_certified keeps hold functions settings script events can first enabled advanced key in_range =
    hold functions settings script events can enabled advanced key in_range
    ∙ ap (λ (hs : List (List Event)). stored_behind none_everywhere (certified_operations (scheme (shipped_host functions settings script)) settings.header.first hs) key)
    (sym (read keeps functions settings script events can first enabled))

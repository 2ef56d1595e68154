-- Each worker has served what is asked of it before the round: at the setup nothing is, and no event changes it. No event takes a
-- phase back.
use Rattle.std.proofs.Common.{◌≡◌, ◌⊎◌, inl, inr, ℕ, zero, suc, ◌+◌, ◌-◌, ◌<◌, ◌≤◌, ◌==◌, Bool, true, false, List, [], ◌∷◌, ◌++◌, map, filter, length, take, drop, take_all, get_or, set, slice_get, Option, Some, None, if◌then◌else◌, refl, sym, ◌∙◌, ap, subst, arith}
use Rattle.std.proofs.lemmas.Bool.{cases_lt}
use Rattle.std.proofs.lemmas.List.{length-map}
use Rattle.log_codec.specs.declared.command.Command.TheVariants.{NextEpoch}
use Rattle.lamport_clocks.specs.Clock.{last_epoch}
use Rattle.host_core.specs.Host.{Host, Done, asked, asked_in, asked_from}
use Rattle.host_core.specs.World.{Place, Worker, Seats, World, fresh, worker_at, shard_at, first_phase, set_up}
use Rattle.host_core.specs.WorldEvent.{WorldEvent, takes, loses, serves, gives, advances, moves, opens, raises, enters, scans, finishes, stops, logging, after_serve, after_move, after_scan, with_worker, next_clock, step, IsNext, IsEnabled, AreEnabled, run_events}
use Rattle.host_world.proofs.FrontLaws.{length-step}
use Rattle.host_serving.specs.Standing.{turns_of, asked_by, first_of_round, HaveServedBefore}
use Rattle.host_serving.proofs.TurnLaws.{slice_get-behind, asked-around}
use Rattle.host_serving.proofs.CloseLemmas.{asked_next}

-- ---- what is asked up to a phase

-- whatever is there is asked in the phase
found : {R : Type 0} (phase k : ℕ) (turns : List (ℕ × R)) (more : List (ℕ × R)) → k < length turns
    → (request : R) × (slice_get (map (λ turn. (phase, turn.1)) turns ++ more) k ≡ Some (phase, request))
found phase k [] more there = absurd (omega (arith, there))
found phase zero (turn ∷ turns) more there = (turn.1, refl)
found phase (suc k) (turn ∷ turns) more there = found phase k turns more (omega (arith, there))

module _ {C R : Type 0} (host : Host C R) where
  -- Where what is asked before a phase is served and nothing of it is next, all that is asked in it is served too.
  served_past : (i phase k : ℕ) → phase < length host.script → asked_by host i phase 0 ≤ k
      → ((request : R) → slice_get (asked host i) k ≡ Some (phase, request) → ⊥) → asked_by host i (suc phase) 0 ≤ k
  served_past i phase k there before none' = go (cases_lt k (asked_by host i (suc phase) 0))
    where
      turns : List (ℕ × R)
      turns = turns_of host phase

      own : List (ℕ × R)
      own = filter (λ turn. turn.0 == i) turns

      front : List (ℕ × R)
      front = asked_from i 0 (take phase host.script)

      more : List (ℕ × R)
      more = asked_from i (suc phase) (drop (suc phase) host.script)

      all : asked_by host i (suc phase) 0 ≡ length front + length own
      all = sym (asked_next host i phase there)
          ∙ ap (λ (ts : List (ℕ × R)). length front + length (asked_in i phase ts)) (take_all (length turns) turns (omega arith))
          ∙ ap (λ (n : ℕ). length front + n) (length-map own (λ (turn : ℕ × R). (phase, turn.1)))

      at : ℕ
      at = k - length front

      go : (k < asked_by host i (suc phase) 0) ⊎ (asked_by host i (suc phase) 0 ≤ k) → asked_by host i (suc phase) 0 ≤ k
      go (inl less) =
          let is : k ≡ length front + at = omega (arith, before) in
          let some = found phase at own more (omega (arith, is, less, all)) in
          absurd (none' some.0
          (ap (λ (asks : List (ℕ × R)). slice_get asks k) (asked-around i 0 phase phase host.script (omega arith) there)
          ∙ slice_get-behind front (asked_in i phase turns ++ more) at k is
          ∙ some.1))
      go (inr above) = above

  -- ---- how many are served

  -- what a change of one element doesn't lower of it, it doesn't lower of any
  pub rises-set : (workers : List Worker) (i : ℕ) (worker d : Worker) → (get_or workers i d).served ≤ worker.served
      → (j : ℕ) → (get_or workers j d).served ≤ (get_or (set workers i worker) j d).served
  rises-set [] i worker d more j = omega arith
  rises-set (w ∷ workers) zero worker d more zero = more
  rises-set (w ∷ workers) zero worker d more (suc j) = omega arith
  rises-set (w ∷ workers) (suc i) worker d more zero = omega arith
  rises-set (w ∷ workers) (suc i) worker d more (suc j) = rises-set workers i worker d more j

  serve-rises : (world : World C) (i : ℕ) (place : Place) (shard : Seats C) (done : Option (Done C)) (j : ℕ)
      → (worker_at host world j).served ≤ (worker_at host (after_serve world i (worker_at host world i) place shard done) j).served
  serve-rises world i place shard None j = rises-set world.workers i _ (fresh host.header) (omega arith) j
  serve-rises world i place shard (Some done) j = rises-set world.workers i _ (fresh host.header) (omega arith) j

  -- turns lower nothing
  step-rises : (world : World C) (event : WorldEvent R) (j : ℕ) → (worker_at host world j).served ≤ (worker_at host (step host world event) j).served
  step-rises world (takes i place) j = rises-set world.workers i _ (fresh host.header) (omega arith) j
  step-rises world (loses i place) j = omega arith
  step-rises world (serves i place request) j = serve-rises world i place (shard_at world place.shard) _ j
  step-rises world (gives i place) j = rises-set world.workers i _ (fresh host.header) (omega arith) j
  step-rises world (advances i) j = go ((worker_at host world i).clock.at.epoch == last_epoch)
    where
      go : (b : Bool) → (worker_at host world j).served ≤ (worker_at host (if b then record world { over = true }
          else record (with_worker world i (logging (worker_at host world i) (NextEpoch ∷ []) (next_clock (worker_at host world i).clock))) { closing = true }) j).served
      go true = omega arith
      go false = rises-set world.workers i _ (fresh host.header) (omega arith) j
  step-rises world (moves i s) j = go (host.move i (worker_at host world i).clock s (shard_at world s).contents)
    where
      go : (done : Option (Done (List C))) → (worker_at host world j).served ≤ (worker_at host (after_move world i (worker_at host world i) s done) j).served
      go None = rises-set world.workers i _ (fresh host.header) (omega arith) j
      go (Some done) = rises-set world.workers i _ (fresh host.header) (omega arith) j
  step-rises world opens j = omega arith
  step-rises world (raises i) j = omega arith
  step-rises world (enters i) j = rises-set world.workers i _ (fresh host.header) (omega arith) j
  step-rises world (scans i place) j =
      go (host.move i (worker_at host world i).clock place.shard (shard_at world place.shard).contents)
    where
      go : (done : Option (Done (List C)))
          → (worker_at host world j).served ≤ (worker_at host (after_scan world i (worker_at host world i) place (shard_at world place.shard) done) j).served
      go None = rises-set world.workers i _ (fresh host.header) (omega arith) j
      go (Some done) = rises-set world.workers i _ (fresh host.header) (omega arith) j
  step-rises world (finishes i) j = omega arith
  step-rises world (stops i found) j = rises-set world.workers i _ (fresh host.header) (omega arith) j

  pub run-rises : (world : World C) (events : List (WorldEvent R)) (j : ℕ) → (worker_at host world j).served ≤ (worker_at host (run_events host world events) j).served
  run-rises world [] j = omega arith
  run-rises world (event ∷ events) j =
      let one = step-rises world event j in
      let rest = run-rises (step host world event) events j in
      omega (arith, one, rest)

  pub run-count : (world : World C) (events : List (WorldEvent R)) → length (run_events host world events).workers ≡ length world.workers
  run-count world [] = refl
  run-count world (event ∷ events) = run-count (step host world event) events ∙ length-step host world event

  -- ---- which phase it is

  -- the phase behind an event
  abbrev later_phase : WorldEvent R → ℕ → ℕ
  later_phase (takes i place) phase = phase
  later_phase (loses i place) phase = phase
  later_phase (serves i place request) phase = phase
  later_phase (gives i place) phase = phase
  later_phase (advances i) phase = phase
  later_phase (moves i s) phase = phase
  later_phase opens phase = suc phase
  later_phase (raises i) phase = phase
  later_phase (enters i) phase = phase
  later_phase (scans i place) phase = phase
  later_phase (finishes i) phase = phase
  later_phase (stops i found) phase = phase

  pub serve-phase : (world : World C) (i : ℕ) (worker : Worker) (place : Place) (shard : Seats C) (done : Option (Done C))
      → (after_serve world i worker place shard done).phase ≡ world.phase
  serve-phase world i worker place shard None = refl
  serve-phase world i worker place shard (Some done) = refl

  step-phase : (world : World C) (event : WorldEvent R) → (step host world event).phase ≡ later_phase event world.phase
  step-phase world (takes i place) = refl
  step-phase world (loses i place) = refl
  step-phase world (serves i place request) = serve-phase world i (worker_at host world i) place (shard_at world place.shard) _
  step-phase world (gives i place) = refl
  step-phase world (advances i) = go ((worker_at host world i).clock.at.epoch == last_epoch)
    where
      go : (b : Bool) → (if b then record world { over = true }
          else record (with_worker world i (logging (worker_at host world i) (NextEpoch ∷ []) (next_clock (worker_at host world i).clock))) { closing = true }).phase ≡ world.phase
      go true = refl
      go false = refl
  step-phase world (moves i s) = go (host.move i (worker_at host world i).clock s (shard_at world s).contents)
    where
      go : (done : Option (Done (List C))) → (after_move world i (worker_at host world i) s done).phase ≡ world.phase
      go None = refl
      go (Some done) = refl
  step-phase world opens = refl
  step-phase world (raises i) = refl
  step-phase world (enters i) = refl
  step-phase world (scans i place) = go (host.move i (worker_at host world i).clock place.shard (shard_at world place.shard).contents)
    where
      go : (done : Option (Done (List C))) → (after_scan world i (worker_at host world i) place (shard_at world place.shard) done).phase ≡ world.phase
      go None = refl
      go (Some done) = refl
  step-phase world (finishes i) = refl
  step-phase world (stops i found) = refl

  phase_rises : (event : WorldEvent R) (phase : ℕ) → phase ≤ later_phase event phase
  phase_rises (takes i place) phase = omega arith
  phase_rises (loses i place) phase = omega arith
  phase_rises (serves i place request) phase = omega arith
  phase_rises (gives i place) phase = omega arith
  phase_rises (advances i) phase = omega arith
  phase_rises (moves i s) phase = omega arith
  phase_rises opens phase = omega arith
  phase_rises (raises i) phase = omega arith
  phase_rises (enters i) phase = omega arith
  phase_rises (scans i place) phase = omega arith
  phase_rises (finishes i) phase = omega arith
  phase_rises (stops i found) phase = omega arith

  -- so the last phase stays the last
  still_last : (world : World C) (events : List (WorldEvent R)) → length host.script ≤ suc world.phase → length host.script ≤ suc (run_events host world events).phase
  still_last world [] last = last
  still_last world (event ∷ events) last =
      still_last (step host world event) events (omega (arith, last, phase_rises event world.phase, step-phase world event))

  -- behind the setup of a rolling host it is the last
  pub rolling_last : host.rolling ≡ true → (events : List (WorldEvent R)) → length host.script ≤ suc (run_events host (set_up host) events).phase
  rolling_last rolling events =
      let first : first_phase host ≡ length host.script - 1 = ap (λ (b : Bool). if b then length host.script - 1 else 0) rolling in
      still_last (set_up host) events (omega (arith, first))

  -- ---- what is asked before the round is served

  -- the round of a host that is not rolling is its phase
  pub first_plain : host.rolling ≡ false → (world : World C) → first_of_round host world ≡ world.phase
  first_plain plain world = ap (λ (b : Bool). if b then 0 else world.phase) plain

  still_before : (world later : World C) → later.phase ≡ world.phase → length later.workers ≡ length world.workers
      → ((j : ℕ) → (worker_at host world j).served ≤ (worker_at host later j).served) → HaveServedBefore host world → HaveServedBefore host later
  still_before world later phase count rises before i within =
      let was = before i (subst (λ (n : ℕ). i < n) count within) in
      let more = rises i in
      let same : asked_by host i (first_of_round host later) 0 ≡ asked_by host i (first_of_round host world) 0 =
      ap (λ (n : ℕ). asked_by host i (if host.rolling then 0 else n) 0) phase in
      omega (arith, was, more, same)

  still_step : (world : World C) (event : WorldEvent R) → (step host world event).phase ≡ world.phase → HaveServedBefore host world
      → HaveServedBefore host (step host world event)
  still_step world event phase = still_before world (step host world event) phase (length-step host world event) (step-rises world event)

  step_before : (world : World C) (event : WorldEvent R) → IsEnabled host world event → HaveServedBefore host world
      → HaveServedBefore host (step host world event)
  step_before world (takes i place) may = still_step world (takes i place) (step-phase world (takes i place))
  step_before world (loses i place) may = still_step world (loses i place) (step-phase world (loses i place))
  step_before world (serves i place request) may = still_step world (serves i place request) (step-phase world (serves i place request))
  step_before world (gives i place) may = still_step world (gives i place) (step-phase world (gives i place))
  step_before world (advances i) may = still_step world (advances i) (step-phase world (advances i))
  step_before world (moves i s) may = still_step world (moves i s) (step-phase world (moves i s))
  step_before world opens may = λ before i within. go host.rolling i within (before i within)
    where
      some : world.phase < length host.script
      some = by_size (cases_lt world.phase (length host.script))
        where
          by_size : (world.phase < length host.script) ⊎ (length host.script ≤ world.phase) → world.phase < length host.script
          by_size (inl less) = less
          by_size (inr end) = absurd (may.more (inl (omega (arith, end))))

      none' : (i : ℕ) → i < length world.workers → ((worker_at host world i).stopped ≡ true) ⊎ ((request : R) → IsNext host world i request → ⊥)
          → (request : R) → IsNext host world i request → ⊥
      none' i there (inl stopped) request next = may.more (inr (i, there, stopped))
      none' i there (inr none) request next = none request next

      go : (b : Bool) (i : ℕ) → i < length world.workers → asked_by host i (if b then 0 else world.phase) 0 ≤ (worker_at host world i).served
          → asked_by host i (if b then 0 else suc world.phase) 0 ≤ (worker_at host world i).served
      go true i there before = before
      go false i there before = served_past i world.phase (worker_at host world i).served some before (none' i there (may.through i there).1)
  step_before world (raises i) may = still_step world (raises i) (step-phase world (raises i))
  step_before world (enters i) may = still_step world (enters i) (step-phase world (enters i))
  step_before world (scans i place) may = still_step world (scans i place) (step-phase world (scans i place))
  step_before world (finishes i) may = still_step world (finishes i) (step-phase world (finishes i))
  step_before world (stops i found) may = still_step world (stops i found) (step-phase world (stops i found))

  -- behind whatever events
  run_before : (world : World C) (events : List (WorldEvent R)) → AreEnabled host world events → HaveServedBefore host world
      → HaveServedBefore host (run_events host world events)
  run_before world [] enabled before = before
  run_before world (event ∷ events) enabled before = run_before (step host world event) events enabled.1 (step_before world event enabled.0 before)

  -- at the setup nothing is asked before it
  set_up_before : HaveServedBefore host (set_up host)
  set_up_before i within = go host.rolling
    where
      go : (b : Bool) → asked_by host i (if b then 0 else (if b then length host.script - 1 else 0)) 0 ≤ (worker_at host (set_up host) i).served
      go true = omega arith
      go false = omega arith

  -- so it is behind the setup
  pub served_before : (events : List (WorldEvent R)) → AreEnabled host (set_up host) events → HaveServedBefore host (run_events host (set_up host) events)
  served_before events enabled = run_before (set_up host) events enabled set_up_before

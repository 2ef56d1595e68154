-- The one order of a phase: its servings by their moments, as the turns of a round of one epoch, and then its stops.
use Rattle.std.proofs.Common.{◌≡◌, ◌⊎◌, ℕ, zero, suc, ◌+◌, ◌<◌, ◌≤◌, ◌||◌, Bool, List, [], ◌∷◌, ◌++◌, length, get_or, slice_get, Option, Some, None, refl, sym, ◌∙◌, ap, subst, inl, inr, append-nil, arith}
use Rattle.std.specs.List.{AllByRecursion}
use Rattle.std.proofs.lemmas.Bool.{cases_lt}
use Rattle.stamp_order.specs.Merged.{comes_before}
use Rattle.stamp_order.proofs.InOrderLaws.{every-weaker, every-in_order}
use Rattle.lamport_clocks.specs.Reading.{Reading}
use Rattle.lamport_clocks.specs.declared.stamp.Stamp.{Stamp}
use Rattle.record_text.specs.declared.element.Element.{Element}
use Rattle.host_core.specs.Host.{Host, Done, asked}
use Rattle.host_core.specs.World.{Place, Worker, Seats, World, fresh, worker_at, shard_at, epoch_of}
use Rattle.host_core.specs.WorldEvent.{AreUpTo, AreEnabled, after_serve, run_events}
use Rattle.host_core.proofs.EventLaws.{enabled-append, run-append}
use Rattle.round_order.specs.Turn.{Turn, on_to, logged}
use Rattle.round_order.specs.Turn as turn
use Rattle.round_order.specs.Told as round
use Rattle.round_order.specs.Phase as phase
use Rattle.round_order.specs.Told.{IsLevel}
use Rattle.round_order.specs.Phase.{ArePhaseTold}
use Rattle.round_order.proofs.GoingLaws.{on_to-there}
use Rattle.round_order.proofs.TurnLaws.{IsIdle}
use Rattle.round_order.proofs.ChainLaws.{Found}
use Rattle.round_order.proofs.PhaseLaws.{IsPlayed, played, content_of, list_of_epoch, past_of_epoch}
use Rattle.round_order.proofs.PhaseLaws as turns
use Rattle.host_order.specs.Serving.{Serving, serving_moment, content_behind, clock_behind, commands_in, content_at, in_one_order, replay}
use Rattle.host_order.specs.Steady.{IsUpFrom, IsSteady}
use Rattle.host_order.specs.Told.{IsOpenTo, IsServed, IsAtRest, AreTold, joined, list_of, past_of, Stop, IsNoted, AreOfOthers, AreDone, AreEnded, replay_stops, stops_by, EndsWith, HasOneOrder, OrdersPhase}
use Rattle.host_order.proofs.TurnLemmas.{turn_of, turns_of, lists_of, pasts_of, list_is, past_is, turns_are, replay_is, content_is, clock_is, served_is, IsOf, logged_is, end_is, turns_steady, rest_level, turns_told, found_done}
use Rattle.host_order.proofs.HadLemmas.{Waits, had-up_to}
use Rattle.host_order.proofs.StopLemmas.{IsStop, Stops, stops_enabled, stops_ended, stops_leave}

-- there is nothing past the end
past-end : {X : Type 0} (xs : List X) (i : ℕ) (d : X) → length xs ≤ i → get_or xs i d ≡ d
past-end [] i d past = refl
past-end (x ∷ xs) zero d past = absurd (omega (arith, past))
past-end (x ∷ xs) (suc i) d past = past-end xs i d (omega (arith, past))

module _ {C R : Type 0} (host : Host C R) (steady : IsSteady host) (world : World C) (rest : IsAtRest host world)
    (lists : List (List (Serving C R))) (pasts : List (List (List (Serving C R)))) (told : AreTold host world lists pasts) where
  abbrev epoch : ℕ
  epoch = epoch_of host world

  abbrev servings : List (Serving C R)
  servings = in_one_order (joined lists)

  level : IsLevel host world epoch
  level = rest_level host world rest

  as_turns : ArePhaseTold host world (lists_of lists) (pasts_of pasts)
  as_turns = turns_told host world lists pasts told

  whole : IsPlayed host (turns_steady host steady) world level (lists_of lists) (pasts_of pasts) as_turns
  whole = played host (turns_steady host steady) world level (lists_of lists) (pasts_of pasts) as_turns

  abbrev behind : World C
  behind = whole.later

  -- ---- the servings as events

  events_are : phase.replay (turn.in_one_order (round.joined (lists_of lists))) ≡ replay servings
  events_are = ap phase.replay (turns_are lists) ∙ replay_is servings

  enabled : AreEnabled host world (replay servings)
  enabled = subst (AreEnabled host world) events_are whole.enabled

  run_is : run_events host world (replay servings) ≡ behind
  run_is = ap (run_events host world) (sym events_are) ∙ whole.is

  done : AreDone host world servings
  done =
      found_done host servings world
      (every-in_order (comes_before serving_moment) (λ serving. host.serve serving.worker serving.clock serving.before serving.request ≡ Some serving.done) (joined lists)
      (every-weaker (IsServed host world) (λ serving. host.serve serving.worker serving.clock serving.before serving.request ≡ Some serving.done) (λ serving is. is.serves)
      (joined lists) told.served))
      (subst (Found host world) (turns_are lists) whole.found)

  -- ---- each serving is of the epoch

  to_of : (servings : List (Serving C R)) → AllByRecursion (turns.IsOf host (turns_steady host steady) world level (lists_of lists) (pasts_of pasts) as_turns) (turns_of servings)
      → AllByRecursion (IsOf host epoch) servings
  to_of [] all = tt
  to_of (serving ∷ servings) all = (
    record {
      moves = turns.moves host (turns_steady host steady) world level (lists_of lists) (pasts_of pasts) as_turns (turn_of serving) all.0.at;
      of_epoch = all.0.of_epoch;
    },
    to_of servings all.1,
  )

  list_of_one : (i : ℕ) → AllByRecursion (IsOf host epoch) (list_of lists i)
  list_of_one i =
      to_of (list_of lists i)
      (subst (AllByRecursion (turns.IsOf host (turns_steady host steady) world level (lists_of lists) (pasts_of pasts) as_turns)) (list_is lists i)
      (list_of_epoch host (turns_steady host steady) world level (lists_of lists) (pasts_of pasts) as_turns i))

  past_of_one : (place : Place) → AllByRecursion (IsOf host epoch) (past_of pasts place)
  past_of_one place =
      to_of (past_of pasts place)
      (subst (AllByRecursion (turns.IsOf host (turns_steady host steady) world level (lists_of lists) (pasts_of pasts) as_turns)) (past_is pasts place)
      (past_of_epoch host (turns_steady host steady) world level (lists_of lists) (pasts_of pasts) as_turns place))

  -- ---- where they lead

  contents : (place : Place) → content_at host behind place ≡ content_behind (content_at host world place) (past_of pasts place)
  contents place =
      whole.ends.contents place ∙ ap (turn.content_behind (content_at host world place)) (past_is pasts place) ∙ content_is (content_at host world place) (past_of pasts place)

  -- there is no list of a worker that isn't there
  no_list : (i : ℕ) → length world.workers ≤ i → list_of lists i ≡ []
  no_list i past =
      none (list_of lists i) (told.own_worker i)
      (subst (AllByRecursion (turns.IsOf host (turns_steady host steady) world level (lists_of lists) (pasts_of pasts) as_turns)) (list_is lists i)
      (list_of_epoch host (turns_steady host steady) world level (lists_of lists) (pasts_of pasts) as_turns i))
    where
      none : (servings : List (Serving C R)) → AllByRecursion (λ serving. serving.worker ≡ i) servings
          → AllByRecursion (turns.IsOf host (turns_steady host steady) world level (lists_of lists) (pasts_of pasts) as_turns) (turns_of servings) → servings ≡ []
      none [] own all = refl
      none (serving ∷ servings) own all = absurd (omega (arith, own.0, all.0.at.served.there, past))

  same_past : (i : ℕ) → length world.workers ≤ i → worker_at host behind i ≡ worker_at host world i
  same_past i past =
      past-end behind.workers i (fresh host.header) (omega (arith, past, whole.leads.count))
      ∙ sym (past-end world.workers i (fresh host.header) past)

  logs : (i : ℕ) → (worker_at host behind i).log ≡ (worker_at host world i).log ++ commands_in (list_of lists i)
  logs i = go (cases_lt i (length world.workers))
    where
      go : (i < length world.workers) ⊎ (length world.workers ≤ i) → (worker_at host behind i).log ≡ (worker_at host world i).log ++ commands_in (list_of lists i)
      go (inl there) =
          whole.ends.logs i there
          ∙ ap (λ (zs : List (Turn C R)). (worker_at host world i).log ++ logged epoch (worker_at host world i).clock zs) (list_is lists i)
          ∙ ap (λ commands. (worker_at host world i).log ++ commands) (logged_is host epoch (worker_at host world i).clock (list_of lists i) (level.clocks i there) (list_of_one i))
      go (inr past) =
          ap (λ (w : Worker). w.log) (same_past i past)
          ∙ sym (append-nil (worker_at host world i).log)
          ∙ ap (λ (zs : List (Serving C R)). (worker_at host world i).log ++ commands_in zs) (sym (no_list i past))

  clocks : (i : ℕ) → (worker_at host behind i).clock ≡ clock_behind (worker_at host world i).clock (list_of lists i)
  clocks i = go (cases_lt i (length world.workers))
    where
      go : (i < length world.workers) ⊎ (length world.workers ≤ i) → (worker_at host behind i).clock ≡ clock_behind (worker_at host world i).clock (list_of lists i)
      go (inl there) =
          whole.ends.clocks i there
          ∙ ap (λ (zs : List (Turn C R)). on_to epoch (turn.clock_behind (worker_at host world i).clock zs)) (list_is lists i)
          ∙ ap (on_to epoch) (clock_is (worker_at host world i).clock (list_of lists i))
          ∙ on_to-there epoch (clock_behind (worker_at host world i).clock (list_of lists i))
          (omega (arith, end_is host epoch (worker_at host world i).clock (list_of lists i) (level.clocks i there) (list_of_one i)))
      go (inr past) =
          ap (λ (w : Worker). w.clock) (same_past i past)
          ∙ ap (clock_behind (worker_at host world i).clock) (sym (no_list i past))

  served : (i : ℕ) → (worker_at host behind i).served ≡ (worker_at host world i).served + length (list_of lists i)
  served i =
      whole.ends.served i ∙ ap (turn.served_behind (worker_at host world i).served) (list_is lists i)
      ∙ served_is (worker_at host world i).served (list_of lists i)

  idle : IsIdle host behind
  idle = record {
    going = whole.ends.phase.2;
    phase = whole.ends.phase.1;
    idle = λ i within. whole.ends.idle i (omega (arith, within, whole.leads.count));
  }

  -- no epoch is raised or noted as scanned
  serve-words : (w : World C) (i : ℕ) (worker : Worker) (place : Place) (shard : Seats C) (what : Option (Done C))
      → ((after_serve w i worker place shard what).newest ≡ w.newest) × ((after_serve w i worker place shard what).scanned ≡ w.scanned)
  serve-words w i worker place shard None = (refl, refl)
  serve-words w i worker place shard (Some deed) = (refl, refl)

  run-words : (servings : List (Serving C R)) (w : World C)
      → ((run_events host w (replay servings)).newest ≡ w.newest) × ((run_events host w (replay servings)).scanned ≡ w.scanned)
  run-words [] w = (refl, refl)
  run-words (serving ∷ servings) w =
      let later = run-words servings (run_events host w (replay (serving ∷ []))) in
      let one = serve-words _ serving.worker _ serving.place _ _ in
      (later.0 ∙ one.0, later.1 ∙ one.1)

  words : (behind.newest ≡ world.newest) × (behind.scanned ≡ world.scanned)
  words = subst (λ (w : World C). (w.newest ≡ world.newest) × (w.scanned ≡ world.scanned)) run_is (run-words servings world)

  -- what was open to a worker is so still
  still_open : (i : ℕ) (place : Place) (request : R) → IsOpenTo host world i place request → IsOpenTo host behind i place request
  still_open i place request is = record {
    there = omega (arith, is.there, whole.leads.count);
    at = (omega (arith, is.at.0, whole.leads.shards), omega (arith, is.at.1, whole.leads.seats place.shard));
    running = whole.leads.stopped i ∙ is.running;
    owns = whole.leads.owns place.shard place.seat request ∙ is.owns;
  }

  -- ---- the stops, behind the servings

  -- the content of an open place waits with one element of the epoch
  content_waits : (i : ℕ) (place : Place) (request : R) → IsOpenTo host world i place request
      → (stamp : Stamp) × (stamp.epoch ≡ epoch) × Waits host epoch (content_at host world place) stamp
  content_waits i place request is =
      let waits = steady.waits place.shard place.seat (shard_at world place.shard).contents request is.owns in
      let all = content_of host (turns_steady host steady) world level (lists_of lists) (pasts_of pasts) as_turns place is.at in
      let one = subst (AllByRecursion (λ (element : Element). element.stamp.epoch ≡ epoch)) waits.1 all in
      (waits.0.stamp, one.0, (waits.0, waits.1, refl))

  -- A noted stop is one behind the servings.
  noted_stop : (stop : Stop R) → IsNoted host world lists pasts stop → IsStop host behind stop
  noted_stop stop noted = record {
    may = still_open stop.worker stop.place stop.request noted.may;
    next = ap (slice_get (asked host stop.worker)) (served stop.worker) ∙ noted.next ∙ ap (λ (n : ℕ). Some (n, stop.request)) (sym whole.ends.phase.0);
    begun = omega (arith, ap (λ (c : Reading). c.at.epoch) (clocks stop.worker), clock_of, whole.ends.phase.0);
    reached =
        subst (λ (c : Reading). AreUpTo c.at.epoch (host.pending (content_at host behind stop.place))) (sym (clocks stop.worker))
        (subst (λ (c : C). AreUpTo clock.at.epoch (host.pending c)) (sym (contents stop.place))
        (subst (AreUpTo clock.at.epoch) (sym up.now_there) (omega (arith, up.now_of), tt)));
    ends =
        ap (λ (c : Reading). host.serve stop.worker c (content_at host behind stop.place) stop.request) (clocks stop.worker)
        ∙ ap (λ (c : C). host.serve stop.worker clock c stop.request) (contents stop.place)
        ∙ steady.ends stop.worker clock noted.noted (content_behind (content_at host world stop.place) (past_of pasts stop.place)) stop.request up noted.ends;
  }
    where
      clock : Reading
      clock = clock_behind (worker_at host world stop.worker).clock (list_of lists stop.worker)

      clock_of : clock.at.epoch ≡ epoch
      clock_of = end_is host epoch (worker_at host world stop.worker).clock (list_of lists stop.worker) (level.clocks stop.worker noted.may.there) (list_of_one stop.worker)

      up : IsUpFrom host clock.at.epoch noted.noted (content_behind (content_at host world stop.place) (past_of pasts stop.place))
      up =
          let waits = content_waits stop.worker stop.place stop.request noted.may in
          subst (λ (e : ℕ). IsUpFrom host e noted.noted (content_behind (content_at host world stop.place) (past_of pasts stop.place))) (sym clock_of)
          (had-up_to host epoch (content_at host world stop.place) waits.0 (past_of pasts stop.place) noted.noted
          waits.2 waits.1 (told.places stop.place) (past_of_one stop.place) noted.had)

  -- ---- the whole

  pub one_order : (stops : List (Stop R)) → AllByRecursion (IsNoted host world lists pasts) stops → AreOfOthers stops
      → HasOneOrder host world lists pasts stops
  one_order stops noted others = record {
    enabled = enabled-append host world (replay servings) (replay_stops stops) enabled
        (subst (λ (w : World C). AreEnabled host w (replay_stops stops)) (sym run_is) (stops_enabled host behind stops idle are_stops others));
    done = done;
    ended = subst (λ (w : World C). AreEnded host w stops) (sym run_is) (stops_ended host behind stops idle are_stops others);
    ends = subst (λ (later : World C). EndsWith host world later lists pasts stops)
        (sym (run-append host world (replay servings) (replay_stops stops) ∙ ap (λ (w : World C). run_events host w (replay_stops stops)) run_is))
        (record {
          contents = λ place. stopped.contents place ∙ contents place;
          logs = λ i. stopped.logs i ∙ logs i;
          clocks = λ i. stopped.clocks i ∙ clocks i;
          served = λ i. stopped.served i ∙ served i;
          stopped = λ i within. stopped.stopped i ∙ ap (λ (b : Bool). b || stops_by i stops) (whole.leads.stopped i);
          stuck = λ i. stopped.stuck i ∙ whole.leads.stuck i;
          idle = λ i within. stopped.idle.idle i (omega (arith, within, stopped.count, whole.leads.count));
          phase = (stopped.phase ∙ whole.ends.phase.0, stopped.idle.phase, stopped.idle.going);
          words = (stopped.words.0 ∙ words.0, stopped.words.1 ∙ words.1);
        });
  }
    where
      are_stops : AllByRecursion (IsStop host behind) stops
      are_stops = every-weaker (IsNoted host world lists pasts) (IsStop host behind) noted_stop stops noted

      stopped : Stops host behind (run_events host behind (replay_stops stops)) stops
      stopped = stops_leave host behind stops idle are_stops others

-- What is told of a phase at rest has one order.
pub orders_phase : {C R : Type 0} (host : Host C R) → OrdersPhase host
orders_phase host world lists pasts stops steady rest told noted others =
    one_order host steady world rest lists pasts told stops noted others

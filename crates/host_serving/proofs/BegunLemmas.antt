-- Where each worker has served what is asked of it before a phase, and no clock has ended, nothing of the phase has happened.
use Rattle.std.proofs.Common.{◌≡◌, ◌⊎◌, inl, inr, ℕ, suc, ◌<◌, ◌≤◌, true, false, List, [], ◌∷◌, ◌++◌, length, Option, Some, None, is_none, if◌then◌else◌, refl, sym, ◌∙◌, ap, subst, arith}
use Rattle.std.proofs.lemmas.Bool.{false≢true}
use Rattle.std.proofs.lemmas.Option.{none-some}
use Rattle.std.proofs.lemmas.List.{get_or-set_same}
use Rattle.log_codec.specs.declared.command.Command.{Command}
use Rattle.lamport_clocks.specs.Reading.{Reading}
use Rattle.host_core.specs.Host.{Host, Done}
use Rattle.host_core.specs.World.{Place, Worker, Seats, World, fresh, worker_at, shard_at}
use Rattle.host_core.specs.WorldEvent.{WorldEvent, takes, serves, gives, logging, having_served, after_serve, step, AreEnabled, run_events}
use Rattle.host_order.specs.Serving.{Serving, content_at, in_one_order, replay}
use Rattle.host_order.specs.Told.{Stop, AreDone, AreEnded, replay_stops}
use Rattle.host_world.specs.declared.fault.ClockEnd.{ClockEnd}
use Rattle.host_world.specs.Ending.{end_at}
use Rattle.host_world.specs.Behind.{with_logs}
use Rattle.host_world.proofs.FrontLaws.{length-before_each, same_unlogged}
use Rattle.host_serving.specs.Leading.{first_of, first_end}
use Rattle.host_serving.specs.Form.{AreOfPhase}
use Rattle.host_serving.specs.Standing.{asked_by, first_of_round, HasServedUpTo, IsServedUpTo, HaveServedBefore, NoneStopped}
use Rattle.host_serving.proofs.MoveLemmas.{shows-set}
use Rattle.host_serving.proofs.BeforeLaws.{run-rises, run-count, serve-phase, first_plain}

-- ---- parts of lists

-- what is behind comes to no end where all comes to none
pub first_of-behind : (one two : Option ClockEnd) → first_of one two ≡ None → two ≡ None
first_of-behind None two is = is
first_of-behind (Some end) two is = absurd (none-some end (sym is))

-- what is enabled in a row is enabled behind its front
pub enabled-behind : {C R : Type 0} (host : Host C R) (world : World C) (xs ys : List (WorldEvent R)) → AreEnabled host world (xs ++ ys)
    → AreEnabled host (run_events host world xs) ys
enabled-behind host world [] ys enabled = enabled
enabled-behind host world (x ∷ xs) ys enabled = enabled-behind host (step host world x) xs ys enabled.1

pub enabled-front : {C R : Type 0} (host : Host C R) (world : World C) (xs ys : List (WorldEvent R)) → AreEnabled host world (xs ++ ys)
    → AreEnabled host world xs
enabled-front host world [] ys enabled = tt
enabled-front host world (x ∷ xs) ys enabled = (enabled.0, enabled-front host (step host world x) xs ys enabled.1)

module _ {C R : Type 0} (host : Host C R) where
  -- ---- turns stay in their phase

  stops-phase : (world : World C) (stops : List (Stop R)) → (run_events host world (replay_stops stops)).phase ≡ world.phase
  stops-phase world [] = refl
  stops-phase world (stop ∷ stops) = stops-phase (run_events host world (replay_stops (stop ∷ []))) stops ∙ serve-phase host _ stop.worker _ stop.place _ _

  turns-phase : (world : World C) (servings : List (Serving C R)) (stops : List (Stop R))
      → (run_events host world (replay servings ++ replay_stops stops)).phase ≡ world.phase
  turns-phase world [] stops = stops-phase world stops
  turns-phase world (serving ∷ servings) stops =
      turns-phase (run_events host world (replay (serving ∷ []))) servings stops ∙ serve-phase host _ serving.worker _ serving.place _ _

  -- ---- nothing has happened

  module _ (world : World C) (i : ℕ) (place : Place) (request : R) where
    abbrev taken : World C
    taken = step host world (takes i place)

    -- a worker that took a place serves from the clock that it had
    same_clock : (worker_at host taken i).clock ≡ (worker_at host world i).clock
    same_clock =
        shows-set (λ (w : Worker). w.clock) world.workers i (record (worker_at host world i) { holds = Some (record { place = place; used = false }) }) (fresh host.header) refl i

    serve_is : (what : Option (Done C)) → host.serve i (worker_at host world i).clock (content_at host world place) request ≡ what
        → host.serve i (worker_at host taken i).clock (content_at host taken place) request ≡ what
    serve_is what is = ap (λ (c : Reading). host.serve i c (content_at host world place) request) same_clock ∙ is

    -- where its clock ends events that begin so come to an end
    no_stop : (more : List (WorldEvent R)) → host.serve i (worker_at host world i).clock (content_at host world place) request ≡ None
        → first_end host world (takes i place ∷ serves i place request ∷ gives i place ∷ more) ≡ None → ⊥
    no_stop more ends none' = none-some (end_at host taken i)
        (sym none'
        ∙ ap (λ (o : Option (Done C)). first_of (if is_none o then Some (end_at host taken i) else None) (first_end host (step host taken (serves i place request)) (gives i place ∷ more)))
        (serve_is None ends))

    -- where it serves, it has served more than is asked before the phase
    served_more : (done : Done C) (more : List (WorldEvent R)) → host.serve i (worker_at host world i).clock (content_at host world place) request ≡ Some done
        → AreEnabled host world (takes i place ∷ serves i place request ∷ gives i place ∷ more) → asked_by host i world.phase 0 ≤ (worker_at host world i).served
        → asked_by host i world.phase 0 < (worker_at host (run_events host world (takes i place ∷ serves i place request ∷ gives i place ∷ more)) i).served
    served_more done more is enabled before =
        let later : World C = step host taken (serves i place request) in
        let w : Worker = worker_at host taken i in
        let shard : Seats C = shard_at taken place.shard in
        let same : w.served ≡ (worker_at host world i).served =
        shows-set (λ (w : Worker). w.served) world.workers i (record (worker_at host world i) { holds = Some (record { place = place; used = false }) }) (fresh host.header) refl i in
        let once : (worker_at host later i).served ≡ suc w.served =
        ap (λ (o : Option (Done C)). (worker_at host (after_serve taken i w place shard o) i).served) (serve_is (Some done) is)
        ∙ ap (λ (v : Worker). v.served) (get_or-set_same taken.workers i (having_served (logging w done.commands done.clock) place) (fresh host.header) enabled.1.0.serving.there) in
        let rest = run-rises host later (gives i place ∷ more) i in
        omega (arith, before, same, once, rest)

  begun_none : (world : World C) (servings : List (Serving C R)) (stops : List (Stop R)) → AreDone host world servings
      → AreEnded host (run_events host world (replay servings)) stops → AreEnabled host world (replay servings ++ replay_stops stops)
      → first_end host world (replay servings ++ replay_stops stops) ≡ None
      → ((i : ℕ) → i < length world.workers → asked_by host i world.phase 0 ≤ (worker_at host world i).served)
      → ((i : ℕ) → i < length world.workers → (worker_at host (run_events host world (replay servings ++ replay_stops stops)) i).served ≡ asked_by host i world.phase 0)
      → ◌≡◌ {A = List (WorldEvent R)} (replay servings ++ replay_stops stops) []
  begun_none world [] [] done ended enabled unended before served = refl
  begun_none world [] (stop ∷ stops) done ended enabled unended before served =
      absurd (no_stop world stop.worker stop.place stop.request (replay_stops stops) ended.0 unended)
  begun_none world (serving ∷ servings) stops done ended enabled unended before served =
      let more = served_more world serving.worker serving.place serving.request serving.done (replay servings ++ replay_stops stops) done.0 enabled
      (before serving.worker enabled.0.serving.there) in
      let same = served serving.worker enabled.0.serving.there in
      absurd (omega (arith, more, same))

  -- Where a phase begins and no clock has ended, what was begun of it is nothing, whatever logs were handed out.
  pub nothing_begun : host.rolling ≡ false → (logs : List (List Command)) (world now : World C) (events : List (WorldEvent R)) → HaveServedBefore host world
      → AreOfPhase host world events → AreEnabled host world events
      → with_logs logs now ≡ run_events host world events → first_end host world events ≡ None
      → IsServedUpTo host now (first_of_round host now) 0 → NoneStopped host now → events ≡ []
  nothing_begun plain logs world now events before form enabled is unended begins running =
      form.are
      ∙ begun_none world servings form.stops form.done form.ended (subst (AreEnabled host world) form.are enabled)
      (ap (first_end host world) (sym form.are) ∙ unended) before_phase served
    where
      before_phase : (i : ℕ) → i < length world.workers → asked_by host i world.phase 0 ≤ (worker_at host world i).served
      before_phase i within = subst (λ (n : ℕ). asked_by host i n 0 ≤ (worker_at host world i).served) (first_plain host plain world) (before i within)

      servings : List (Serving C R)
      servings = in_one_order form.servings

      phase : now.phase ≡ world.phase
      phase = ap (λ (w : World C). w.phase) is ∙ ap (λ (es : List (WorldEvent R)). (run_events host world es).phase) form.are ∙ turns-phase world servings form.stops

      count : length now.workers ≡ length world.workers
      count = sym (length-before_each logs now.workers) ∙ ap (λ (w : World C). length w.workers) is ∙ run-count host world events

      own : (i : ℕ) → i < length now.workers → (worker_at host now i).served ≡ asked_by host i now.phase 0
      own i within = go (subst (λ (n : ℕ). HasServedUpTo (worker_at host now i) (asked_by host i n 0)) (first_plain host plain now) (begins.each i within)).served
        where
          go : ((worker_at host now i).stopped ≡ true) ⊎ (((worker_at host now i).stopped ≡ false) × ((worker_at host now i).served ≡ asked_by host i now.phase 0))
              → (worker_at host now i).served ≡ asked_by host i now.phase 0
          go (inl stopped) = absurd (false≢true (sym (running i within) ∙ stopped))
          go (inr whole) = whole.1

      served : (i : ℕ) → i < length world.workers → (worker_at host (run_events host world (replay servings ++ replay_stops form.stops)) i).served ≡ asked_by host i world.phase 0
      served i within =
          ap (λ (es : List (WorldEvent R)). (worker_at host (run_events host world es) i).served) (sym form.are)
          ∙ ap (λ (w : World C). (worker_at host w i).served) (sym is)
          ∙ ap (λ (w : Worker). w.served) (same_unlogged logs now.workers i (fresh host.header))
          ∙ own i (subst (λ (n : ℕ). i < n) (sym count) within)
          ∙ ap (λ (n : ℕ). asked_by host i n 0) phase

-- Rounds and closes are of their forms also where logs were handed out before; and a run so far goes on by a round, or by a close.
use Rattle.std.proofs.Common.{◌≡◌, ◌⊎◌, inl, inr, ℕ, zero, suc, Bool, true, false, List, [], ◌∷◌, ◌++◌, length, Option, None, is_none, if◌then◌else◌, refl, sym, ◌∙◌, ap, subst, append_assoc, append-nil}
use Rattle.log_codec.specs.declared.command.Command.{Command}
use Rattle.lamport_clocks.specs.Reading.{Reading}
use Rattle.host_core.specs.Host.{Host}
use Rattle.host_core.specs.World.{World, fresh, set_up}
use Rattle.host_core.specs.WorldEvent.{WorldEvent, opens, IsLast, AreEnabled, step, run_events}
use Rattle.host_core.proofs.EventLaws.{run-append}
use Rattle.host_order.specs.Serving.{Serving, content_at, in_one_order, replay}
use Rattle.host_order.specs.Told.{Stop, AreDone, AreEnded, replay_stops}
use Rattle.host_order.specs.Close.{advances_from}
use Rattle.host_world.specs.declared.fault.ClockEnd.{ClockEnd}
use Rattle.host_world.specs.Ending.{end_of}
use Rattle.host_world.specs.Behind.{before_each, with_logs}
use Rattle.host_world.proofs.FrontLaws.{length-before_each, same_unlogged, clock_with, step_with, ends_with, last_other}
use Rattle.host_serving.specs.Leading.{first_of, first_end, LeadsBy, LeadsAs, Leads}
use Rattle.host_serving.specs.Form.{AreOfPhase, AreRolling, AreOfRound, until_end, unless_ended, own_moves_from, all_advance, own_moves, moves_of_each, all_move, events_of_shards, events_of_close, AreOfClose, Round, events_of, AreInForm, AreInRounds}
use Rattle.host_serving.specs.Standing.{first_of_round, IsServedUpTo, NoneStopped}
use Rattle.host_serving.proofs.LeadingLaws.{first_end-append, run-with, first-with, by-then, by-with}
use Rattle.host_serving.proofs.BeforeLaws.{served_before}
use Rattle.host_serving.proofs.BegunLemmas.{nothing_begun, enabled-front, enabled-behind, first_of-behind}
use Rattle.host_serving.proofs.RollingForms.{rolling_other}

module _ {C R : Type 0} (host : Host C R) where
  -- ---- where logs were handed out before

  module _ (logs : List (List Command)) where
    done-with : (world : World C) (servings : List (Serving C R)) → AreDone host world servings → AreDone host (with_logs logs world) servings
    done-with world [] done = tt
    done-with world (serving ∷ servings) done = (
      ap (λ (c : Reading). host.serve serving.worker c (content_at host world serving.place) serving.request) (clock_with host logs world serving.worker) ∙ done.0,
      subst (λ (w : World C). AreDone host w servings) (run-with host logs world (replay (serving ∷ [])))
          (done-with (run_events host world (replay (serving ∷ []))) servings done.1),
    )

    done-without : (world : World C) (servings : List (Serving C R)) → AreDone host (with_logs logs world) servings → AreDone host world servings
    done-without world [] done = tt
    done-without world (serving ∷ servings) done = (
      sym (ap (λ (c : Reading). host.serve serving.worker c (content_at host world serving.place) serving.request) (clock_with host logs world serving.worker)) ∙ done.0,
      done-without (run_events host world (replay (serving ∷ []))) servings
          (subst (λ (w : World C). AreDone host w servings) (sym (run-with host logs world (replay (serving ∷ [])))) done.1),
    )

    ended-with : (world : World C) (stops : List (Stop R)) → AreEnded host world stops → AreEnded host (with_logs logs world) stops
    ended-with world [] ended = tt
    ended-with world (stop ∷ stops) ended = (
      ap (λ (c : Reading). host.serve stop.worker c (content_at host world stop.place) stop.request) (clock_with host logs world stop.worker) ∙ ended.0,
      subst (λ (w : World C). AreEnded host w stops) (run-with host logs world (replay_stops (stop ∷ [])))
          (ended-with (run_events host world (replay_stops (stop ∷ []))) stops ended.1),
    )

    ended-without : (world : World C) (stops : List (Stop R)) → AreEnded host (with_logs logs world) stops → AreEnded host world stops
    ended-without world [] ended = tt
    ended-without world (stop ∷ stops) ended = (
      sym (ap (λ (c : Reading). host.serve stop.worker c (content_at host world stop.place) stop.request) (clock_with host logs world stop.worker)) ∙ ended.0,
      ended-without (run_events host world (replay_stops (stop ∷ []))) stops
          (subst (λ (w : World C). AreEnded host w stops) (sym (run-with host logs world (replay_stops (stop ∷ [])))) ended.1),
    )

    phase-with : (world : World C) (events : List (WorldEvent R)) → AreOfPhase host world events → AreOfPhase host (with_logs logs world) events
    phase-with world events form = record {
      servings = form.servings;
      stops = form.stops;
      done = done-with world (in_one_order form.servings) form.done;
      ended = subst (λ (w : World C). AreEnded host w form.stops) (run-with host logs world (replay (in_one_order form.servings)))
          (ended-with (run_events host world (replay (in_one_order form.servings))) form.stops form.ended);
      rising = form.rising;
      are = form.are;
    }

    -- What is of a phase's form with logs in front is so without them.
    pub phase-without : (world : World C) (events : List (WorldEvent R)) → AreOfPhase host (with_logs logs world) events → AreOfPhase host world events
    phase-without world events form = record {
      servings = form.servings;
      stops = form.stops;
      done = done-without world (in_one_order form.servings) form.done;
      ended = ended-without (run_events host world (replay (in_one_order form.servings))) form.stops
          (subst (λ (w : World C). AreEnded host w form.stops) (sym (run-with host logs world (replay (in_one_order form.servings)))) form.ended);
      rising = form.rising;
      are = form.are;
    }

    -- ---- a round

    pub round-with : (world : World C) (events : List (WorldEvent R)) → AreOfRound host world events → AreOfRound host (with_logs logs world) events
    round-with world events form = record {
      plain = λ plain. phase-with world events (form.plain plain);
      rolling = λ rolling. go (form.rolling rolling);
    }
      where
        go : (events ≡ []) ⊎ AreRolling host world events → (events ≡ []) ⊎ AreRolling host (with_logs logs world) events
        go (inl none') = inl none'
        go (inr some) =
            inr (rolling_other host world (before_each logs world.workers) (length-before_each logs world.workers) (λ i. same_unlogged logs world.workers i (fresh host.header)) events some)

    -- What is of a round's form with logs in front is so without them.
    pub round-without : (world : World C) (events : List (WorldEvent R)) → AreOfRound host (with_logs logs world) events → AreOfRound host world events
    round-without world events form = record {
      plain = λ plain. phase-without world events (form.plain plain);
      rolling = λ rolling. go (form.rolling rolling);
    }
      where
        go : (events ≡ []) ⊎ AreRolling host (with_logs logs world) events → (events ≡ []) ⊎ AreRolling host world events
        go (inl none') = inl none'
        go (inr some) =
            inr (rolling_other host (with_logs logs world) world.workers (sym (length-before_each logs world.workers)) (λ i. sym (same_unlogged logs world.workers i (fresh host.header))) events some)

    -- ---- a close

    until-with : (world : World C) (events : List (WorldEvent R)) → until_end host (with_logs logs world) events ≡ until_end host world events
    until-with world [] = refl
    until-with world (event ∷ events) =
        ap (λ (e : Option ClockEnd). event ∷ (if is_none e then until_end host (step host (with_logs logs world) event) events else [])) (ends_with host logs world event)
        ∙ ap (λ (w : World C). event ∷ (if is_none (end_of host world event) then until_end host w events else [])) (step_with host logs world event)
        ∙ ap (λ (rest : List (WorldEvent R)). event ∷ (if is_none (end_of host world event) then rest else [])) (until-with (step host world event) events)

    unless-with : (world : World C) (xs ys : List (WorldEvent R)) (next : World C → List (WorldEvent R)) → xs ≡ ys → ((w : World C) → next (with_logs logs w) ≡ next w)
        → unless_ended host (with_logs logs world) xs next ≡ unless_ended host world ys next
    unless-with world xs ys next same each =
        ap (λ (zs : List (WorldEvent R)). unless_ended host (with_logs logs world) zs next) same
        ∙ ap (λ (e : Option ClockEnd). ys ++ (if is_none e then next (run_events host (with_logs logs world) ys) else [])) (first-with host logs world ys)
        ∙ ap (λ (w : World C). ys ++ (if is_none (first_end host world ys) then next w else [])) (sym (run-with host logs world ys))
        ∙ ap (λ (rest : List (WorldEvent R)). ys ++ (if is_none (first_end host world ys) then rest else [])) (each (run_events host world ys))

    advance-with : (world : World C) → all_advance host (with_logs logs world) ≡ all_advance host world
    advance-with world =
        ap (λ (n : ℕ). until_end host (with_logs logs world) (advances_from 0 n)) (length-before_each logs world.workers)
        ∙ until-with world (advances_from 0 (length world.workers))

    own-with : (world : World C) (i : ℕ) → own_moves host (with_logs logs world) i ≡ own_moves host world i
    own-with world i =
        ap (λ (n : ℕ). until_end host (with_logs logs world) (own_moves_from n i 0 (length world.shards))) (length-before_each logs world.workers)
        ∙ until-with world (own_moves_from (length world.workers) i 0 (length world.shards))

    each-with : (world : World C) (i count : ℕ) → moves_of_each host (with_logs logs world) i count ≡ moves_of_each host world i count
    each-with world i zero = refl
    each-with world i (suc count) =
        ap (λ (own : List (WorldEvent R)). own ++ moves_of_each host (run_events host (with_logs logs world) own) (suc i) count) (own-with world i)
        ∙ ap (λ (w : World C). own_moves host world i ++ moves_of_each host w (suc i) count) (sym (run-with host logs world (own_moves host world i)))
        ∙ ap (λ (rest : List (WorldEvent R)). own_moves host world i ++ rest) (each-with (run_events host world (own_moves host world i)) (suc i) count)

    move-with : (world : World C) → all_move host (with_logs logs world) ≡ all_move host world
    move-with world =
        ap (moves_of_each host (with_logs logs world) 0) (length-before_each logs world.workers)
        ∙ each-with world 0 (length world.workers)

    events-with : (world : World C) (last : Bool) → events_of_close host (with_logs logs world) last ≡ events_of_close host world last
    events-with world last =
        unless-with world (events_of_shards host (with_logs logs world)) (events_of_shards host world) (λ moved. if last then all_advance host moved else opens ∷ [])
        (unless-with world (all_advance host (with_logs logs world)) (all_advance host world) (all_move host) (advance-with world) move-with)
        (λ w. ap (λ (more : List (WorldEvent R)). if last then more else opens ∷ []) (advance-with w))

    last-with : (world : World C) → IsLast host world → IsLast host (with_logs logs world)
    last-with world =
        last_other host world (before_each logs world.workers) (length-before_each logs world.workers) (λ i. same_unlogged logs world.workers i (fresh host.header))

    last-without : (world : World C) → IsLast host (with_logs logs world) → IsLast host world
    last-without world =
        last_other host (with_logs logs world) world.workers (sym (length-before_each logs world.workers)) (λ i. sym (same_unlogged logs world.workers i (fresh host.header)))

    close-with : (world : World C) (events : List (WorldEvent R)) → AreOfClose host world events → AreOfClose host (with_logs logs world) events
    close-with world events form = record {
      last = form.last;
      is_last = ((λ is. last-with world (form.is_last.0 is)), (λ is. form.is_last.1 (last-without world is)));
      are = form.are ∙ sym (events-with world form.last);
    }

  -- ---- a run

  -- a round in which nothing happened yet
  round-none : (world : World C) → AreOfRound host world []
  round-none world = record {
    plain = λ plain. record { servings = []; stops = []; done = tt; ended = tt; rising = tt; are = refl };
    rolling = λ rolling. inl refl;
  }

  -- what some events of a form lead to, some events do
  pub as-leads : (Form : Host C R → World C → List (WorldEvent R) → Type 0) (world later : World C) (end : Option ClockEnd) → LeadsAs Form host world later end
      → Leads host world later end
  as-leads Form world later end so = record { events = so.events; enabled = so.enabled; is = so.is; first = so.first }

  -- Before its first event a run is in form.
  pub run-none : (world : World C) → LeadsAs AreInRounds host world world None
  run-none world = record {
    events = [];
    enabled = tt;
    is = refl;
    first = refl;
    form = record { rounds = []; whole = tt; served = []; begun = round-none world; are = refl };
  }

  -- rounds behind rounds
  form-append : (world : World C) (rounds more : List (Round R)) → AreInForm host world rounds → AreInForm host (run_events host world (events_of rounds)) more
      → AreInForm host world (rounds ++ more)
  form-append world [] more whole behind = behind
  form-append world (round ∷ rounds) more whole behind = (
    whole.0,
    whole.1,
    form-append (run_events host world (round.served ++ round.close)) rounds more whole.2
        (subst (λ (w : World C). AreInForm host w more) (run-append host world (round.served ++ round.close) (events_of rounds)) behind),
  )

  events-append : (rounds more : List (Round R)) → events_of (rounds ++ more) ≡ events_of rounds ++ events_of more
  events-append [] more = refl
  events-append (round ∷ rounds) more =
      ap (λ (rest : List (WorldEvent R)). (round.served ++ round.close) ++ rest) (events-append rounds more)
      ∙ sym (append_assoc (round.served ++ round.close) (events_of rounds) (events_of more))

  module _ (logs : List (List Command)) (world later : World C) (first second : Option ClockEnd)
      (so_far : LeadsAs AreInRounds host (set_up host) (with_logs logs world) first) where
    abbrev start : World C
    start = set_up host

    abbrev rounds : List (Round R)
    rounds = so_far.form.rounds

    abbrev begun : List (WorldEvent R)
    begun = so_far.form.served

    -- the world behind the closed rounds
    abbrev behind : World C
    behind = run_events host start (events_of rounds)

    now_is : with_logs logs world ≡ run_events host behind begun
    now_is = so_far.is ∙ ap (run_events host start) so_far.form.are ∙ run-append host start (events_of rounds) begun

    led : {Form : Host C R → World C → List (WorldEvent R) → Type 0} (next : LeadsAs Form host world later second)
        → LeadsBy host start (with_logs logs later) (first_of first second) (so_far.events ++ next.events)
    led next =
        by-then host start (with_logs logs world) (with_logs logs later) first second so_far.events next.events
        (record { enabled = so_far.enabled; is = so_far.is; first = so_far.first })
        (by-with host logs world later second next.events (record { enabled = next.enabled; is = next.is; first = next.first }))

    -- Where the round of a plain host begins and no clock has ended, the run goes on by the round.
    run-plain : host.rolling ≡ false → first ≡ None → IsServedUpTo host world (first_of_round host world) 0 → NoneStopped host world
        → LeadsAs AreOfRound host world later second → LeadsAs AreInRounds host start (with_logs logs later) (first_of first second)
    run-plain plain unended begins running next = record {
      events = so_far.events ++ next.events;
      enabled = (led next).enabled;
      is = (led next).is;
      first = (led next).first;
      form = record {
        rounds = rounds;
        whole = so_far.form.whole;
        served = next.events;
        begun = subst (λ (w : World C). AreOfRound host w next.events) (now_is ∙ ap (run_events host behind) none_begun)
            (round-with logs world next.events next.form);
        are = ap (λ (events : List (WorldEvent R)). events ++ next.events)
            (so_far.form.are ∙ ap (λ (events : List (WorldEvent R)). events_of rounds ++ events) none_begun ∙ append-nil (events_of rounds));
      };
    }
      where
        enabled : AreEnabled host behind begun
        enabled = enabled-behind host start (events_of rounds) begun (subst (AreEnabled host start) so_far.form.are so_far.enabled)

        enabled_rounds : AreEnabled host start (events_of rounds)
        enabled_rounds = enabled-front host start (events_of rounds) begun (subst (AreEnabled host start) so_far.form.are so_far.enabled)

        unended_begun : first_end host behind begun ≡ None
        unended_begun =
            first_of-behind (first_end host start (events_of rounds)) (first_end host behind begun)
            (sym (first_end-append host start (events_of rounds) begun) ∙ ap (first_end host start) (sym so_far.form.are) ∙ so_far.first ∙ unended)

        none_begun : begun ≡ []
        none_begun =
            nothing_begun host plain logs behind world begun (served_before host (events_of rounds) enabled_rounds) (so_far.form.begun.plain plain) enabled now_is unended_begun begins running

    -- That of a rolling host begins behind the setup.
    run-rolling : first ≡ None → with_logs logs world ≡ start → LeadsAs AreOfRound host world later second
        → LeadsAs AreInRounds host start (with_logs logs later) (first_of first second)
    run-rolling unended new next =
        let way = by-with host logs world later second next.events (record { enabled = next.enabled; is = next.is; first = next.first }) in
        subst (λ (end : Option ClockEnd). LeadsAs AreInRounds host start (with_logs logs later) (first_of end second)) (sym unended)
        (subst (λ (w : World C). LeadsAs AreInRounds host w (with_logs logs later) second) new (record {
          events = next.events;
          enabled = way.enabled;
          is = way.is;
          first = way.first;
          form = record { rounds = []; whole = tt; served = next.events; begun = round-with logs world next.events next.form; are = refl };
        }))

    -- So a run goes on by the round that begins.
    pub run-round : (host.rolling ≡ true → with_logs logs world ≡ start) → first ≡ None → IsServedUpTo host world (first_of_round host world) 0
        → NoneStopped host world → LeadsAs AreOfRound host world later second → LeadsAs AreInRounds host start (with_logs logs later) (first_of first second)
    run-round new unended begins running next = go host.rolling refl
      where
        go : (b : Bool) → host.rolling ≡ b → LeadsAs AreInRounds host start (with_logs logs later) (first_of first second)
        go true rolling = run-rolling unended (new rolling) next
        go false plain = run-plain plain unended begins running next

    -- By a close it goes on where it stands.
    pub run-close : LeadsAs AreOfClose host world later second → LeadsAs AreInRounds host start (with_logs logs later) (first_of first second)
    run-close next = record {
      events = so_far.events ++ next.events;
      enabled = (led next).enabled;
      is = (led next).is;
      first = (led next).first;
      form = record {
        rounds = rounds ++ one ∷ [];
        whole = form-append start rounds (one ∷ []) so_far.form.whole (
          so_far.form.begun,
          subst (λ (w : World C). AreOfClose host w next.events) now_is (close-with logs world next.events next.form),
          tt,
        );
        served = [];
        begun = round-none (run_events host start (events_of (rounds ++ one ∷ [])));
        are = ap (λ (events : List (WorldEvent R)). events ++ next.events) so_far.form.are
            ∙ append_assoc (events_of rounds) begun next.events
            ∙ ap (λ (events : List (WorldEvent R)). events_of rounds ++ events) (sym (append-nil (begun ++ next.events)))
            ∙ sym (events-append rounds (one ∷ []))
            ∙ sym (append-nil (events_of (rounds ++ one ∷ [])));
      };
    }
      where
        one : Round R
        one = record { served = begun; close = next.events }

  -- ---- how a run goes on

  -- A run that stands in the one world, where it has handed out these logs and has come to this end or to none, goes on to the other.
  pub record GoesOn (logs : List (List Command)) (world later : World C) (end next : Option ClockEnd) : Type 0 where
    pub leads : Leads host world later next
    pub on : LeadsAs AreInRounds host (set_up host) (with_logs logs world) end → LeadsAs AreInRounds host (set_up host) (with_logs logs later) (first_of end next)

  module _ (logs : List (List Command)) (world later : World C) (end next : Option ClockEnd) where
    pub on_by_round : (host.rolling ≡ true → with_logs logs world ≡ set_up host) → end ≡ None → IsServedUpTo host world (first_of_round host world) 0
        → NoneStopped host world → LeadsAs AreOfRound host world later next → GoesOn logs world later end next
    on_by_round new unended begins running so = record {
      leads = as-leads AreOfRound world later next so;
      on = λ so_far. run-round logs world later end next so_far new unended begins running so;
    }

    pub on_by_close : LeadsAs AreOfClose host world later next → GoesOn logs world later end next
    on_by_close so = record {
      leads = as-leads AreOfClose world later next so;
      on = λ so_far. run-close logs world later end next so_far so;
    }

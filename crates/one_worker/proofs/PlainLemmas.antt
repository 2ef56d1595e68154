-- A whole run of a plain host with one worker is what the script asks, deed by deed.
use Rattle.std.proofs.Common.{◌≡◌, ◌⊎◌, inl, inr, ℕ, zero, suc, ◌+◌, ◌-◌, ◌<◌, ◌≤◌, Bool, true, false, List, [], ◌∷◌, ◌++◌, map, length, drop, get_or, replicate, is_none, if◌then◌else◌, refl, sym, ◌∙◌, ap, subst, append_assoc, true≢false, arith}
use Rattle.std.proofs.lemmas.List.{length-map}
use Rattle.host_core.specs.Host.{Host, asked, asked_from}
use Rattle.host_core.specs.World.{Worker, Seats, World, unmoved, idle, fresh, set_up, first_phase}
use Rattle.host_core.specs.WorldEvent.{WorldEvent, opens, IsPhaseOver, IsLast, HasAdvanced, MayAdvance, run_events}
use Rattle.host_core.proofs.EventLaws.{run-append}
use Rattle.host_order.specs.Serving.{in_one_order}
use Rattle.host_order.specs.Told.{Stop, replay_stops}
use Rattle.host_order.specs.Close.{MovesKeepEpoch, advances_from}
use Rattle.host_serving.specs.Leading.{first_end}
use Rattle.host_serving.specs.Form.{AreOfPhase, AreOfRound, AreOfClose, until_end, all_advance, all_move, events_of_shards, events_of_close, Round, events_of, AreInForm, AreInRounds}
use Rattle.host_serving.specs.Standing.{IsAllServed}
use Rattle.host_serving.proofs.BeforeLaws.{run-count}
use Rattle.round_order.specs.Steady.{IsSteady}
use Rattle.one_worker.specs.Deeds.{Deed, turning, own_turns, served_in, new_epoch, phases_behind, all_deeds, acts_of, Standing, standing_in, AreDone}
use Rattle.one_worker.proofs.EventLemmas.{Goes, goes_front, goes_behind, as_stops, one_world, stands, done_then, IsLeft, PhaseComesTo, phase_comes}
use Rattle.one_worker.proofs.CloseLemmas.{closing_base, opened_base, CloseComesTo, last_close, other_close}

module _ {C R : Type 0} (host : Host C R) where
  -- where the events of a close go on, its first is that worker 0 advances
  pub first_advance : (world : World C) (last : Bool) → length world.workers ≡ 1 → Goes host world (events_of_close host world last) → MayAdvance host world 0
  first_advance world last one goes =
      (subst (λ (n : ℕ). Goes host world (until_end host world (advances_from 0 n))) one advance).0
    where
      shards : Goes host world (events_of_shards host world)
      shards = goes_front host world (events_of_shards host world)
          (if is_none (first_end host world (events_of_shards host world))
          then (if last then all_advance host (run_events host world (events_of_shards host world)) else (opens ∷ [])) else []) goes

      advance : Goes host world (all_advance host world)
      advance = goes_front host world (all_advance host world)
          (if is_none (first_end host world (all_advance host world)) then all_move host (run_events host world (all_advance host world)) else []) shards

  -- no request is served in a close
  pub none_closing : (world : World C) (events : List (WorldEvent R)) (all : List (Stop R)) → world.closing ≡ true → events ≡ replay_stops all → Goes host world events → events ≡ []
  none_closing world events [] closing are goes = are
  none_closing world events (stop ∷ all) closing are goes =
      absurd (true≢false (sym closing ∙ (subst (Goes host world) are goes).0.serving.phase))

  module _ (plain : host.rolling ≡ false) (steady : IsSteady host true) (keeps : MovesKeepEpoch host) where
    -- ---- a round

    module _ (base : World C) (shards : List (Seats C)) (worker : Worker) (own : List (ℕ × R)) (script : List (List (ℕ × R)))
        (running : worker.stopped ≡ false) (epoch : worker.clock.at.epoch ≡ host.header.first + base.phase) (left : IsLeft host steady base worker own script) where
      abbrev world : World C
      world = one_world host base shards worker

      -- the events of a phase, where it is over behind them
      phase_part : (events : List (WorldEvent R)) → AreOfPhase host world events → Goes host world events → IsPhaseOver host (run_events host world events)
          → PhaseComesTo host steady base shards worker events own script
      phase_part events form goes over =
          phase_comes host steady (in_one_order form.servings) form.stops events base shards worker own script form.are goes over running epoch left

      module _ (xs ys zs : List (WorldEvent R)) (form : AreOfPhase host world xs) (closed : AreOfClose host (run_events host world xs) ys)
          (goes : Goes host world (xs ++ (ys ++ zs))) where
        goes_close : Goes host (run_events host world xs) ys
        goes_close = goes_front host (run_events host world xs) ys zs (goes_behind host world xs (ys ++ zs) goes)

        over : IsPhaseOver host (run_events host world xs)
        over = (first_advance (run_events host world xs) closed.last (run-count host world xs)
            (subst (Goes host (run_events host world xs)) closed.are goes_close)).through

        pub part : PhaseComesTo host steady base shards worker xs own script
        part = phase_part xs form (goes_front host world xs (ys ++ zs) goes) over

        abbrev then_shards : List (Seats C)
        then_shards = part.comes.shards_then

        abbrev then_worker : Worker
        then_worker = part.comes.worker_then

        abbrev then_world : World C
        then_world = one_world host base then_shards then_worker

        then_closed : AreOfClose host then_world ys
        then_closed = subst (λ (w : World C). AreOfClose host w ys) part.comes.run closed

        then_goes : Goes host then_world (events_of_close host then_world then_closed.last)
        then_goes = subst (Goes host then_world) then_closed.are (subst (λ (w : World C). Goes host w ys) part.comes.run goes_close)

        then_running : then_worker.stopped ≡ false
        then_running = part.comes.running ∙ running

        -- the world behind the close
        behind_run : (later : World C) → run_events host then_world ys ≡ later → run_events host world (xs ++ ys) ≡ later
        behind_run later is = run-append host world xs ys ∙ ap (λ (w : World C). run_events host w ys) part.comes.run ∙ is

        behind_goes : (later : World C) → run_events host then_world ys ≡ later → Goes host later zs
        behind_goes later is = subst (λ (w : World C). Goes host w zs) (ap (λ (w : World C). run_events host w ys) part.comes.run ∙ is)
            (goes_behind host (run_events host world xs) ys zs (goes_behind host world xs (ys ++ zs) goes))

        -- What a round comes to, by these deeds.
        pub record RoundComesTo (later : World C) (deeds : List (Deed R)) (times : ℕ) : Type 0 where
          pub shards_then : List (Seats C)
          pub worker_then : Worker
          pub run : run_events host world (xs ++ ys) ≡ one_world host later shards_then worker_then
          pub goes_on : Goes host (one_world host later shards_then worker_then) zs
          pub done : AreDone (acts_of host) (stands host shards worker) deeds (stands host shards_then worker_then)
          pub count : length shards_then ≡ length shards
          pub running_then : worker_then.stopped ≡ false
          pub epoch_then : worker_then.clock.at.epoch ≡ host.header.first + (base.phase + times)
          pub left_then : drop worker_then.served (asked host 0) ≡ asked_from 0 (suc base.phase) script

        round_with : (later : World C) (deeds : List (Deed R)) (times : ℕ) → CloseComesTo host keeps base later then_shards then_worker ys deeds times
            → RoundComesTo later (served_in own ++ deeds) times
        round_with later deeds times close = record {
          shards_then = close.comes.shards_then;
          worker_then = close.comes.worker_then;
          run = behind_run (one_world host later close.comes.shards_then close.comes.worker_then) close.comes.run;
          goes_on = behind_goes (one_world host later close.comes.shards_then close.comes.worker_then) close.comes.run;
          done = done_then host (served_in own) deeds (stands host shards worker) (stands host then_shards then_worker) (stands host close.comes.shards_then close.comes.worker_then)
              part.comes.done close.comes.done;
          count = close.comes.count ∙ part.comes.count;
          running_then = close.comes.running ∙ then_running;
          epoch_then = let own' = close.epoch in let before = part.epoch in omega (arith, own', before, epoch);
          left_then = ap (λ (n : ℕ). drop n (asked host 0)) close.served ∙ part.left;
        }

        -- the script's last round
        pub last_round : length host.script ≤ suc base.phase → RoundComesTo (closing_base host keeps base shards worker) (served_in own ++ (new_epoch (length shards) ++ turning ∷ [])) 2
        last_round end =
            subst (λ (n : ℕ). RoundComesTo (closing_base host keeps base shards worker) (served_in own ++ (new_epoch n ++ turning ∷ [])) 2) part.comes.count
            (round_with (closing_base host keeps base shards worker) (new_epoch (length then_shards) ++ turning ∷ []) 2
            (subst (λ (es : List (WorldEvent R)). CloseComesTo host keeps base (closing_base host keeps base shards worker) then_shards then_worker es (new_epoch (length then_shards) ++ turning ∷ []) 2)
            (sym (then_closed.are ∙ ap (events_of_close host then_world) is))
            (last_close host keeps base then_shards then_worker (subst (λ (b : Bool). Goes host then_world (events_of_close host then_world b)) is then_goes))))
          where
            is : then_closed.last ≡ true
            is = then_closed.is_last.1 (inl end)

        -- another round
        pub other_round : suc base.phase < length host.script → RoundComesTo (opened_base host keeps base shards worker) (served_in own ++ new_epoch (length shards)) 1
        other_round more =
            subst (λ (n : ℕ). RoundComesTo (opened_base host keeps base shards worker) (served_in own ++ new_epoch n) 1) part.comes.count
            (round_with (opened_base host keeps base shards worker) (new_epoch (length then_shards)) 1
            (subst (λ (es : List (WorldEvent R)). CloseComesTo host keeps base (opened_base host keeps base shards worker) then_shards then_worker es (new_epoch (length then_shards)) 1)
            (sym (then_closed.are ∙ ap (events_of_close host then_world) (is then_closed.last refl)))
            (other_close host keeps base then_shards then_worker (subst (λ (b : Bool). Goes host then_world (events_of_close host then_world b)) (is then_closed.last refl) then_goes))))
          where
            not_last : IsLast host then_world → ⊥
            not_last (inl end) = absurd (omega (arith, end, more))
            not_last (inr (zero, there, stopped)) = absurd (true≢false (sym stopped ∙ then_running))
            not_last (inr (suc i, there, stopped)) = absurd (omega (arith, there))

            is : (b : Bool) → then_closed.last ≡ b → then_closed.last ≡ false
            is true last = absurd (not_last (then_closed.is_last.0 last))
            is false last = last

    -- ---- behind the last close

    -- nothing can follow where the clock is two epochs past the phase in a close
    module _ (later : World C) (shards : List (Seats C)) (worker : Worker) (closing : later.closing ≡ true) (past : worker.clock.at.epoch ≡ host.header.first + (later.phase + 2)) where
      abbrev ended_world : World C
      ended_world = one_world host later shards worker

      no_phase : (events : List (WorldEvent R)) → AreOfPhase host ended_world events → Goes host ended_world events → events ≡ []
      no_phase events form goes =
          let all = as_stops (in_one_order form.servings) form.stops in
          none_closing ended_world events all.0 closing (form.are ∙ all.1) goes

      no_advance : MayAdvance host ended_world 0 → ⊥
      no_advance may = go may.turns
        where
          go : HasAdvanced host ended_world 0 0 ⊎ (HasAdvanced host ended_world 0 1 × IsLast host ended_world × ((s : ℕ) → s < length shards → (get_or shards s (unmoved [])).moved ≡ true)) → ⊥
          go (inl is) = absurd (omega (arith, is, past))
          go (inr is) = absurd (omega (arith, is.0, past))

      none_follows : (rounds : List (Round R)) (served : List (WorldEvent R)) → AreInForm host ended_world rounds → AreOfRound host (run_events host ended_world (events_of rounds)) served
          → Goes host ended_world (events_of rounds ++ served) → events_of rounds ++ served ≡ []
      none_follows [] served form begun goes = no_phase served (begun.plain plain) goes
      none_follows (round ∷ rounds) served form begun goes =
          absurd (no_advance (first_advance ended_world closed.last refl (subst (Goes host ended_world) closed.are front)))
        where
          whole : Goes host ended_world (round.served ++ round.close)
          whole = goes_front host ended_world (round.served ++ round.close) (events_of rounds)
              (goes_front host ended_world ((round.served ++ round.close) ++ events_of rounds) served goes)

          empty : round.served ≡ []
          empty = no_phase round.served (form.0.plain plain) (goes_front host ended_world round.served round.close whole)

          closed : AreOfClose host ended_world round.close
          closed = subst (λ (es : List (WorldEvent R)). AreOfClose host (run_events host ended_world es) round.close) empty form.1

          front : Goes host ended_world round.close
          front = subst (λ (es : List (WorldEvent R)). Goes host (run_events host ended_world es) round.close) empty (goes_behind host ended_world round.served round.close whole)

    -- ---- all rounds

    abbrev ending : ℕ → List (Deed R)
    ending n = new_epoch n ++ turning ∷ []

    plain_rounds : (rounds : List (Round R)) (served : List (WorldEvent R)) (base : World C) (shards : List (Seats C)) (worker : Worker) (own : List (ℕ × R)) (script : List (List (ℕ × R)))
        → worker.stopped ≡ false → worker.clock.at.epoch ≡ host.header.first + base.phase → IsLeft host steady base worker own script
        → length host.script ≤ suc base.phase + length script → (0 < length script → suc base.phase + length script ≤ length host.script)
        → AreInForm host (one_world host base shards worker) rounds
        → AreOfRound host (run_events host (one_world host base shards worker) (events_of rounds)) served
        → Goes host (one_world host base shards worker) (events_of rounds ++ served)
        → IsAllServed host (run_events host (one_world host base shards worker) (events_of rounds ++ served))
        → AreDone (acts_of host) (stands host shards worker) (served_in own ++ (phases_behind (length shards) script ++ ending (length shards)))
        (standing_in host (run_events host (one_world host base shards worker) (events_of rounds ++ served)))
    plain_rounds [] served base shards worker own script running epoch left most least form begun goes whole =
        let part = phase_part base shards worker own script running epoch left served (begun.plain plain) goes whole.closed.over in
        let twice = subst (λ (w : World C). 0 < length w.workers → HasAdvanced host w 0 2) part.comes.run (whole.closed.advanced 0) (omega arith) in
        absurd (omega (arith, twice, part.epoch, epoch))
    plain_rounds (round ∷ rounds) served base shards worker own [] running epoch left most least form begun goes whole =
        subst (λ (w : World C). AreDone (acts_of host) (stands host shards worker) (served_in own ++ ending (length shards)) (standing_in host w)) (sym run_is) part.done
      where
        xs : List (WorldEvent R)
        xs = round.served

        ys : List (WorldEvent R)
        ys = round.close

        zs : List (WorldEvent R)
        zs = events_of rounds ++ served

        start : World C
        start = one_world host base shards worker

        are : ((xs ++ ys) ++ events_of rounds) ++ served ≡ (xs ++ ys) ++ zs
        are = append_assoc (xs ++ ys) (events_of rounds) served

        part : RoundComesTo base shards worker own [] running epoch left xs ys zs (form.0.plain plain) form.1
            (subst (Goes host start) (are ∙ append_assoc xs ys zs) goes) (closing_base host keeps base shards worker) (served_in own ++ ending (length shards)) 2
        part = last_round base shards worker own [] running epoch left xs ys zs (form.0.plain plain) form.1
            (subst (Goes host start) (are ∙ append_assoc xs ys zs) goes) (omega (arith, most))

        later : World C
        later = one_world host (closing_base host keeps base shards worker) part.shards_then part.worker_then

        none' : zs ≡ []
        none' = none_follows (closing_base host keeps base shards worker) part.shards_then part.worker_then refl part.epoch_then rounds served
            (subst (λ (w : World C). AreInForm host w rounds) part.run form.2)
            (subst (λ (w : World C). AreOfRound host w served) (run-append host start (xs ++ ys) (events_of rounds) ∙ ap (λ (w : World C). run_events host w (events_of rounds)) part.run) begun)
            part.goes_on

        run_is : run_events host start (((xs ++ ys) ++ events_of rounds) ++ served) ≡ later
        run_is = ap (run_events host start) are ∙ run-append host start (xs ++ ys) zs ∙ ap (λ (w : World C). run_events host w zs) part.run ∙ ap (run_events host later) none'
    plain_rounds (round ∷ rounds) served base shards worker own (ask ∷ script) running epoch left most least form begun goes whole =
        subst (λ (w : World C). AreDone (acts_of host) (stands host shards worker) (served_in own ++ (phases_behind (length shards) (ask ∷ script) ++ ending (length shards))) (standing_in host w)) (sym run_is)
        (joined (standing_in host (run_events host later zs))
        (plain_rounds rounds served (opened_base host keeps base shards worker) part.shards_then part.worker_then (own_turns ask) script part.running_then
        (let at = part.epoch_then in omega (arith, at)) part.left_then
        (omega (arith, most)) (λ some. omega (arith, least (omega arith)))
        (subst (λ (w : World C). AreInForm host w rounds) part.run form.2)
        (subst (λ (w : World C). AreOfRound host w served) (run-append host start (xs ++ ys) (events_of rounds) ∙ ap (λ (w : World C). run_events host w (events_of rounds)) part.run) begun)
        part.goes_on
        (subst (IsAllServed host) run_is whole)))
      where
        xs : List (WorldEvent R)
        xs = round.served

        ys : List (WorldEvent R)
        ys = round.close

        zs : List (WorldEvent R)
        zs = events_of rounds ++ served

        start : World C
        start = one_world host base shards worker

        are : ((xs ++ ys) ++ events_of rounds) ++ served ≡ (xs ++ ys) ++ zs
        are = append_assoc (xs ++ ys) (events_of rounds) served

        part : RoundComesTo base shards worker own (ask ∷ script) running epoch left xs ys zs (form.0.plain plain) form.1
            (subst (Goes host start) (are ∙ append_assoc xs ys zs) goes) (opened_base host keeps base shards worker) (served_in own ++ new_epoch (length shards)) 1
        part = other_round base shards worker own (ask ∷ script) running epoch left xs ys zs (form.0.plain plain) form.1
            (subst (Goes host start) (are ∙ append_assoc xs ys zs) goes) (let fits = least (omega arith) in omega (arith, fits))

        later : World C
        later = one_world host (opened_base host keeps base shards worker) part.shards_then part.worker_then

        run_is : run_events host start (((xs ++ ys) ++ events_of rounds) ++ served) ≡ run_events host later zs
        run_is = ap (run_events host start) are ∙ run-append host start (xs ++ ys) zs ∙ ap (λ (w : World C). run_events host w zs) part.run

        joined : (to : Standing C) → AreDone (acts_of host) (stands host part.shards_then part.worker_then) (served_in (own_turns ask) ++ (phases_behind (length part.shards_then) script ++ ending (length part.shards_then))) to
            → AreDone (acts_of host) (stands host shards worker) (served_in own ++ (phases_behind (length shards) (ask ∷ script) ++ ending (length shards))) to
        joined to rest =
            let n : ℕ = length shards in
            let served' : List (Deed R) = served_in (own_turns ask) in
            let behind' : List (Deed R) = phases_behind n script in
            subst (λ (ds : List (Deed R)). AreDone (acts_of host) (stands host shards worker) ds to)
            (append_assoc (served_in own) (new_epoch n) (served' ++ (behind' ++ ending n))
            ∙ ap (λ (ds : List (Deed R)). served_in own ++ (new_epoch n ++ ds)) (sym (append_assoc served' behind' (ending n)))
            ∙ ap (λ (ds : List (Deed R)). served_in own ++ ds) (sym (append_assoc (new_epoch n) (served' ++ behind') (ending n))))
            (done_then host (served_in own ++ new_epoch n) (served' ++ (behind' ++ ending n)) (stands host shards worker) (stands host part.shards_then part.worker_then) to part.done
            (subst (λ (m : ℕ). AreDone (acts_of host) (stands host part.shards_then part.worker_then) (served' ++ (phases_behind m script ++ ending m)) to) part.count rest))

    -- ---- from the setup on

    -- a host with one worker is set up with that one
    abbrev pub first_worker : Worker
    first_worker = idle host.setup.commands host.setup.clock

    abbrev pub first_shards : List (Seats C)
    first_shards = map unmoved host.setup.after

    pub one_set_up : host.header.verifiers ≡ 1 → set_up host ≡ one_world host (set_up host) first_shards first_worker
    one_set_up one =
        let none' : host.header.verifiers - 1 ≡ 0 = omega (arith, one) in
        ap (λ (n : ℕ). record (set_up host) { workers = first_worker ∷ replicate n (fresh host.header) }) none'

    -- A whole run is what the script asks.
    pub plain_all : host.header.verifiers ≡ 1 → host.setup.clock.at.epoch ≡ host.header.first → (events : List (WorldEvent R)) → AreInRounds host (set_up host) events
        → Goes host (set_up host) events → IsAllServed host (run_events host (set_up host) events)
        → AreDone (acts_of host) (standing_in host (set_up host)) (all_deeds (length host.setup.after) host.script) (standing_in host (run_events host (set_up host) events))
    plain_all one first events form goes whole =
        subst (λ (w : World C). AreDone (acts_of host) (standing_in host w) (all_deeds (length host.setup.after) host.script) (standing_in host (run_events host w events))) (sym start_is)
        (subst (λ (es : List (WorldEvent R)). AreDone (acts_of host) (stands host first_shards first_worker) (all_deeds (length host.setup.after) host.script) (standing_in host (run_events host start es)))
        (sym form.are)
        (subst (λ (n : ℕ). AreDone (acts_of host) (stands host first_shards first_worker) (all_deeds n host.script) (standing_in host (run_events host start all)))
        (length-map host.setup.after unmoved) (go host.script refl)))
      where
        base : World C
        base = record (set_up host) { phase = 0 }

        start : World C
        start = one_world host base first_shards first_worker

        phase_is : first_phase host ≡ 0
        phase_is = ap (λ (b : Bool). if b then length host.script - 1 else 0) plain

        start_is : set_up host ≡ start
        start_is = one_set_up one ∙ ap (λ (n : ℕ). record (one_world host (set_up host) first_shards first_worker) { phase = n }) phase_is

        rounds : List (Round R)
        rounds = form.rounds

        all : List (WorldEvent R)
        all = events_of rounds ++ form.served

        epoch : first_worker.clock.at.epoch ≡ host.header.first + 0
        epoch = first ∙ omega arith

        part : (own : List (ℕ × R)) (script : List (List (ℕ × R))) → IsLeft host steady base first_worker own script
            → length host.script ≤ suc (length script) → (0 < length script → suc (length script) ≤ length host.script)
            → AreDone (acts_of host) (stands host first_shards first_worker) (served_in own ++ (phases_behind (length first_shards) script ++ ending (length first_shards))) (standing_in host (run_events host start all))
        part own script left most least =
            plain_rounds rounds form.served base first_shards first_worker own script refl epoch left (omega (arith, most)) (λ some. omega (arith, least some))
            (subst (λ (w : World C). AreInForm host w rounds) start_is form.whole)
            (subst (λ (w : World C). AreOfRound host (run_events host w (events_of rounds)) form.served) start_is form.begun)
            (subst (λ (w : World C). Goes host w all) start_is (subst (Goes host (set_up host)) form.are goes))
            (subst (λ (w : World C). IsAllServed host (run_events host w all)) start_is (subst (λ (es : List (WorldEvent R)). IsAllServed host (run_events host (set_up host) es)) form.are whole))

        go : (script : List (List (ℕ × R))) → host.script ≡ script
            → AreDone (acts_of host) (stands host first_shards first_worker) (all_deeds (length first_shards) host.script) (standing_in host (run_events host start all))
        go [] is =
            subst (λ (script : List (List (ℕ × R))). AreDone (acts_of host) (stands host first_shards first_worker) (all_deeds (length first_shards) script) (standing_in host (run_events host start all))) (sym is)
            (part [] [] (ap (asked_from 0 0) is) (omega (arith, ap (λ (script : List (List (ℕ × R))). length script) is)) (λ some. absurd (omega (arith, some))))
        go (turns ∷ script) is =
            subst (λ (script : List (List (ℕ × R))). AreDone (acts_of host) (stands host first_shards first_worker) (all_deeds (length first_shards) script) (standing_in host (run_events host start all))) (sym is)
            (subst (λ (ds : List (Deed R)). AreDone (acts_of host) (stands host first_shards first_worker) ds (standing_in host (run_events host start all)))
            (sym (append_assoc (served_in (own_turns turns)) (phases_behind (length first_shards) script) (ending (length first_shards))))
            (part (own_turns turns) script (ap (asked_from 0 0) is) (omega (arith, counted)) (λ some. omega (arith, counted))))
          where
            counted : length host.script ≡ suc (length script)
            counted = ap (λ (script : List (List (ℕ × R))). length script) is ∙ omega arith

-- Logs in front of those of a world's workers change nothing of what may happen, of what happens, and of where clocks end.
use Rattle.std.proofs.Common.{◌≡◌, ℕ, zero, suc, ◌+◌, ◌<◌, ◌≤◌, ◌==◌, ◌%◌, max, Bool, true, false, List, [], ◌∷◌, ◌++◌, length, get_or, set, replicate, slice_get, Option, Some, None, is_none, inl, inr, ◌⊎◌, if◌then◌else◌, refl, sym, ◌∙◌, ap, subst, append_assoc, arith}
use Rattle.std.proofs.lemmas.List.{length-set, append-nil}
use Rattle.lamport_clocks.specs.Reading.{Reading}
use Rattle.lamport_clocks.specs.Clock.{last_epoch}
use Rattle.log_codec.specs.declared.command.Command.{Command}
use Rattle.log_codec.specs.declared.command.Command.TheVariants.{NextEpoch}
use Rattle.host_core.specs.Host.{Host, Done, asked}
use Rattle.host_core.specs.World.{Place, Worker, Seats, World, fresh, worker_at, shard_at, scanned_at, epoch_of}
use Rattle.host_core.specs.Deeds.{pending_of}
use Rattle.record_text.specs.declared.element.Element.{Element}
use Rattle.host_core.specs.WorldEvent.{WorldEvent, takes, loses, serves, gives, advances, moves, opens, raises, enters, scans, finishes, stops, AreUpTo, AreFrom, IsEnabled, IsThrough, IsPhaseOver, IsRoundOver, IsLast, IsNext, HasAdvanced, HasEnded, IsServing, IsRolling, step, with_worker, after_serve, after_move, after_scan, after_advance, next_clock, logging, having_served, having_scanned}
use Rattle.host_world.specs.declared.fault.ClockEnd.{ClockEnd}
use Rattle.host_world.specs.Behind.{logged_before, before_each, with_logs}
use Rattle.host_world.specs.Ending.{end_of, end_at}

-- a worker without its log
abbrev pub unlogged : Worker → Worker
unlogged worker = record worker { log = [] }

-- ---- logs in front

pub length-before_each : (logs : List (List Command)) (workers : List Worker) → length (before_each logs workers) ≡ length workers
length-before_each [] workers = refl
length-before_each (log ∷ logs) [] = refl
length-before_each (log ∷ logs) (worker ∷ workers) = ap suc (length-before_each logs workers)

-- each worker is the same but for its log
pub same_unlogged : (logs : List (List Command)) (workers : List Worker) (i : ℕ) (d : Worker)
    → unlogged (get_or (before_each logs workers) i d) ≡ unlogged (get_or workers i d)
same_unlogged [] workers i d = refl
same_unlogged (log ∷ logs) [] i d = refl
same_unlogged (log ∷ logs) (worker ∷ workers) zero d = refl
same_unlogged (log ∷ logs) (worker ∷ workers) (suc i) d = same_unlogged logs workers i d

-- a worker that is there has its log in front
pub log_before : (logs : List (List Command)) (workers : List Worker) (i : ℕ) (d : Worker) → length logs ≡ length workers → i < length workers
    → (get_or (before_each logs workers) i d).log ≡ get_or logs i [] ++ (get_or workers i d).log
log_before [] [] i d each there = absurd (omega (arith, there))
log_before [] (worker ∷ workers) i d each there = absurd (omega (arith, each))
log_before (log ∷ logs) [] i d each there = absurd (omega (arith, each))
log_before (log ∷ logs) (worker ∷ workers) zero d each there = refl
log_before (log ∷ logs) (worker ∷ workers) (suc i) d each there = log_before logs workers i d (omega (arith, each)) (omega (arith, there))

-- nothing in front
pub before_each-none : (n : ℕ) (workers : List Worker) → before_each (replicate n []) workers ≡ workers
before_each-none zero workers = refl
before_each-none (suc n) [] = refl
before_each-none (suc n) (worker ∷ workers) = ap (λ (rest : List Worker). worker ∷ rest) (before_each-none n workers)

-- what a worker hands out goes in front of its log
pub before_each-handed : (logs : List (List Command)) (workers : List Worker) (i : ℕ) (d : Worker) → length logs ≡ length workers
    → before_each (set logs i (get_or logs i [] ++ (get_or workers i d).log)) (set workers i (unlogged (get_or workers i d))) ≡ before_each logs workers
before_each-handed [] [] i d each = refl
before_each-handed [] (worker ∷ workers) i d each = absurd (omega (arith, each))
before_each-handed (log ∷ logs) [] i d each = absurd (omega (arith, each))
before_each-handed (log ∷ logs) (worker ∷ workers) zero d each =
    ap (λ (l : List Command). record worker { log = l } ∷ before_each logs workers) (append-nil (log ++ worker.log))
before_each-handed (log ∷ logs) (worker ∷ workers) (suc i) d each =
    ap (λ (rest : List Worker). logged_before log worker ∷ rest) (before_each-handed logs workers i d (omega (arith, each)))

-- a change that leaves what stands in front
set-before : (f : Worker → Worker) → ((log : List Command) (worker : Worker) → f (logged_before log worker) ≡ logged_before log (f worker))
    → (logs : List (List Command)) (workers : List Worker) (i : ℕ) (d : Worker)
    → set (before_each logs workers) i (f (get_or (before_each logs workers) i d)) ≡ before_each logs (set workers i (f (get_or workers i d)))
set-before f same [] workers i d = refl
set-before f same (log ∷ logs) [] i d = refl
set-before f same (log ∷ logs) (worker ∷ workers) zero d = ap (λ (w : Worker). w ∷ before_each logs workers) (same log worker)
set-before f same (log ∷ logs) (worker ∷ workers) (suc i) d =
    ap (λ (rest : List Worker). logged_before log worker ∷ rest) (set-before f same logs workers i d)

-- more is logged behind
logging-before : (commands : List Command) (clock : Reading) (log : List Command) (worker : Worker)
    → logging (logged_before log worker) commands clock ≡ logged_before log (logging worker commands clock)
logging-before commands clock log worker =
    ap (λ (l : List Command). record worker { log = l; clock = clock }) (append_assoc log worker.log commands)

-- ---- what may happen

module _ {C R : Type 0} (host : Host C R) where
  -- the same world with other workers, who differ from its own in their logs alone
  module _ (world : World C) (workers : List Worker) (count : length workers ≡ length world.workers)
      (same : (i : ℕ) → unlogged (get_or workers i (fresh host.header)) ≡ unlogged (worker_at host world i)) where
    abbrev other : World C
    other = record world { workers = workers }

    serving_other : (i : ℕ) → IsServing host world i → IsServing host other i
    serving_other i may = record { going = may.going; phase = may.phase; there = omega (arith, may.there, count) }

    pub through_other : (i : ℕ) → IsThrough host world i → IsThrough host other i
    through_other i through = (ap (λ (w : Worker). w.holds) (same i) ∙ through.0, go through.1)
      where
        go : ((worker_at host world i).stopped ≡ true) ⊎ ((request : R) → IsNext host world i request → ⊥)
            → ((worker_at host other i).stopped ≡ true) ⊎ ((request : R) → IsNext host other i request → ⊥)
        go (inl stopped) = inl (ap (λ (w : Worker). w.stopped) (same i) ∙ stopped)
        go (inr through') = inr (λ request next. through' request
            (subst (λ (n : ℕ). slice_get (asked host i) n ≡ Some (world.phase, request)) (ap (λ (w : Worker). w.served) (same i)) next))

    pub over_other : IsPhaseOver host world → IsPhaseOver host other
    over_other through = λ i there. through_other i (through i (omega (arith, there, count)))

    pub last_other : IsLast host world → IsLast host other
    last_other (inl end) = inl end
    last_other (inr stopped) = inr (stopped.0, omega (arith, stopped.1, count), ap (λ (w : Worker). w.stopped) (same stopped.0) ∙ stopped.2)

    -- the round is over
    pub round_other : IsRoundOver host world → IsRoundOver host other
    round_other over i there =
        let was = over i (omega (arith, there, count)) in (
          ap (λ (w : Worker). w.stopped) (same i) ∙ was.0,
          ap (λ (w : Worker). slice_get (asked host i) w.served) (same i) ∙ was.1,
          was.2,
        )

    rolling_other : (i : ℕ) → IsRolling host world i → IsRolling host other i
    rolling_other i may = record {
      serving = serving_other i may.serving;
      rolling = may.rolling;
      running = ap (λ (w : Worker). w.stopped) (same i) ∙ may.running;
    }

    -- a clock has ended
    ended_other : (clock : Reading) (found : Option Element) → HasEnded host world clock found → HasEnded host other clock found
    ended_other clock found (inl last) = inl last
    ended_other clock found (inr (inl past)) = inr (inl past)
    ended_other clock found (inr (inr at)) = inr (inr (record {
      element = at.element;
      is = at.is;
      of_epoch = at.of_epoch;
      had = record {
        there = omega (arith, at.had.there, count);
        come = subst (λ (c : Reading). (at.element.stamp.epoch < c.at.epoch) ⊎ ((at.element.stamp.epoch ≡ c.at.epoch) × (at.element.stamp.counter ≤ c.at.counter)))
            (sym (ap (λ (w : Worker). w.clock) (same at.element.verifier))) at.had.come;
      };
      ends = at.ends;
    }))

    pub advanced_other : (i times : ℕ) → HasAdvanced host world i times → HasAdvanced host other i times
    advanced_other i times advanced = ap (λ (w : Worker). w.clock.at.epoch) (same i) ∙ advanced

  module _ (world : World C) (workers : List Worker) (count : length workers ≡ length world.workers)
      (same : (i : ℕ) → unlogged (get_or workers i (fresh host.header)) ≡ unlogged (worker_at host world i)) where
    clock_same : (i : ℕ) → (get_or workers i (fresh host.header)).clock ≡ (worker_at host world i).clock
    clock_same i = ap (λ (w : Worker). w.clock) (same i)

    -- what is enabled in the one is in the other
    pub enabled_other : (event : WorldEvent R) → IsEnabled host world event → IsEnabled host (record world { workers = workers }) event
    enabled_other (takes i place) may = record {
      serving = serving_other world workers count same i may.serving;
      there = may.there;
      free = λ j used there holds. may.free j used (omega (arith, there, count)) (sym (ap (λ (w : Worker). w.holds) (same j)) ∙ holds);
      empty = ap (λ (w : Worker). w.holds) (same i) ∙ may.empty;
      running = ap (λ (w : Worker). w.stopped) (same i) ∙ may.running;
    }
    enabled_other (loses i place) may = record {
      serving = serving_other world workers count same i may.serving;
      held = (may.held.0, may.held.1, may.held.2, omega (arith, may.held.3, count), ap (λ (w : Worker). w.holds) (same may.held.0) ∙ may.held.4);
      empty = ap (λ (w : Worker). w.holds) (same i) ∙ may.empty;
    }
    enabled_other (serves i place request) may = record {
      serving = serving_other world workers count same i may.serving;
      there = may.there;
      holds = ap (λ (w : Worker). w.holds) (same i) ∙ may.holds;
      due = record {
        phase = may.due.phase;
        next = subst (λ (n : ℕ). slice_get (asked host i) n ≡ Some (may.due.phase, request)) (sym (ap (λ (w : Worker). w.served) (same i))) may.due.next;
        begun = subst (λ (c : Reading). host.header.first + may.due.phase ≤ c.at.epoch) (sym (clock_same i)) may.due.begun;
        reached = subst (λ (c : Reading). AreUpTo c.at.epoch (host.pending (get_or (shard_at world place.shard).contents place.seat host.vacant))) (sym (clock_same i)) may.due.reached;
      };
      owns = may.owns;
    }
    enabled_other (gives i place) may = record {
      serving = serving_other world workers count same i may.serving;
      holds = (may.holds.0, ap (λ (w : Worker). w.holds) (same i) ∙ may.holds.1);
    }
    enabled_other (advances i) may = record {
      going = may.going;
      there = omega (arith, may.there, count);
      through = over_other world workers count same may.through;
      settled = λ rolling. round_other world workers count same (may.settled rolling);
      turns = turns may.turns;
    }
      where
        turns : (HasAdvanced host world i 0) ⊎ (HasAdvanced host world i 1 × IsLast host world × ((s : ℕ) → s < length world.shards → (shard_at world s).moved ≡ true))
            → (HasAdvanced host (record world { workers = workers }) i 0)
            ⊎ (HasAdvanced host (record world { workers = workers }) i 1 × IsLast host (record world { workers = workers }) × ((s : ℕ) → s < length world.shards → (shard_at world s).moved ≡ true))
        turns (inl first) = inl (advanced_other world workers count same i 0 first)
        turns (inr second) = inr (advanced_other world workers count same i 1 second.0, last_other world workers count same second.1, second.2)
    enabled_other (moves i s) may = record {
      going = may.going;
      closing = may.closing;
      there = omega (arith, may.there, count);
      shard = may.shard;
      turned = advanced_other world workers count same i 1 may.turned;
      running = ap (λ (w : Worker). w.stuck) (same i) ∙ may.running;
      own = subst (λ (n : ℕ). s % n ≡ i) (sym count) may.own;
      still = may.still;
      in_order = λ t before own. may.in_order t before (subst (λ (n : ℕ). t % n ≡ i) count own);
    }
    enabled_other opens may = record {
      going = may.going;
      through = over_other world workers count same may.through;
      turned = λ i there. advanced_other world workers count same i 1 (may.turned i (omega (arith, there, count)));
      moved = may.moved;
      more = λ last. may.more (last_other (record world { workers = workers }) world.workers (sym count) (λ i. sym (same i)) last);
    }
    enabled_other (raises i) may = record {
      rolling = rolling_other world workers count same i may.rolling;
      wanted = subst (λ (c : Reading). c.at.epoch < epoch_of host world) (sym (clock_same i)) may.wanted;
      more = subst (λ (c : Reading). c.at.epoch < last_epoch) (sym (clock_same i)) may.more;
      scanned = λ j there. subst (λ (c : Reading). c.at.epoch ≤ scanned_at host world j) (sym (clock_same i)) (may.scanned j (omega (arith, there, count)));
    }
    enabled_other (enters i) may = record {
      rolling = rolling_other world workers count same i may.rolling;
      newer = subst (λ (c : Reading). c.at.epoch < world.newest) (sym (clock_same i)) may.newer;
      more = subst (λ (c : Reading). c.at.epoch < last_epoch) (sym (clock_same i)) may.more;
    }
    enabled_other (scans i place) may = record {
      rolling = rolling_other world workers count same i may.rolling;
      shard = may.shard;
      first = may.first;
      holds = ap (λ (w : Worker). w.holds) (same i) ∙ may.holds;
      own = subst (λ (n : ℕ). place.shard % n ≡ i) (sym count) may.own;
      before = may.before;
      turned = ap (λ (c : Reading). c.at.epoch) (clock_same i) ∙ may.turned;
      earlier = may.earlier;
    }
    enabled_other (finishes i) may = record {
      rolling = rolling_other world workers count same i may.rolling;
      reached = λ s there own. subst (λ (c : Reading). AreFrom c.at.epoch (pending_of host (shard_at world s).contents)) (sym (clock_same i))
          (may.reached s there (subst (λ (n : ℕ). s % n ≡ i) count own));
    }
    enabled_other (stops i found) may = record {
      rolling = rolling_other world workers count same i may.rolling;
      ended = subst (λ (c : Reading). HasEnded host (record world { workers = workers }) c found) (sym (clock_same i))
          (ended_other world workers count same (worker_at host world i).clock found may.ended);
    }

  module _ (logs : List (List Command)) (world : World C) where
    -- with logs in front, and without them
    pub enabled_with : (event : WorldEvent R) → IsEnabled host world event → IsEnabled host (with_logs logs world) event
    enabled_with event may =
        enabled_other world (before_each logs world.workers) (length-before_each logs world.workers) (λ i. same_unlogged logs world.workers i (fresh host.header)) event may

    pub enabled_without : (event : WorldEvent R) → IsEnabled host (with_logs logs world) event → IsEnabled host world event
    enabled_without event may =
        enabled_other (with_logs logs world) world.workers (sym (length-before_each logs world.workers)) (λ i. sym (same_unlogged logs world.workers i (fresh host.header))) event may

    -- the phase is over
    pub over_with : IsPhaseOver host world → IsPhaseOver host (with_logs logs world)
    over_with through =
        over_other world (before_each logs world.workers) (length-before_each logs world.workers) (λ i. same_unlogged logs world.workers i (fresh host.header)) through

    pub over_without : IsPhaseOver host (with_logs logs world) → IsPhaseOver host world
    over_without through =
        over_other (with_logs logs world) world.workers (sym (length-before_each logs world.workers)) (λ i. sym (same_unlogged logs world.workers i (fresh host.header))) through

    -- and the round
    pub round_with : IsRoundOver host world → IsRoundOver host (with_logs logs world)
    round_with over =
        round_other world (before_each logs world.workers) (length-before_each logs world.workers) (λ i. same_unlogged logs world.workers i (fresh host.header)) over

    pub clock_with : (i : ℕ) → (worker_at host (with_logs logs world) i).clock ≡ (worker_at host world i).clock
    clock_with i = ap (λ (w : Worker). w.clock) (same_unlogged logs world.workers i (fresh host.header))

    -- a change of one worker
    changed_with : (f : Worker → Worker) → ((log : List Command) (worker : Worker) → f (logged_before log worker) ≡ logged_before log (f worker)) → (i : ℕ)
        → with_worker (with_logs logs world) i (f (worker_at host (with_logs logs world) i)) ≡ with_logs logs (with_worker world i (f (worker_at host world i)))
    changed_with f same i = ap (λ (workers : List Worker). record world { workers = workers }) (set-before f same logs world.workers i (fresh host.header))

    serve_with : (i : ℕ) (place : Place) (shard : Seats C) (done : Option (Done C))
        → after_serve (with_logs logs world) i (worker_at host (with_logs logs world) i) place shard done
        ≡ with_logs logs (after_serve world i (worker_at host world i) place shard done)
    serve_with i place shard None = changed_with (λ (w : Worker). record w { stopped = true }) (λ log worker. refl) i
    serve_with i place shard (Some done) =
        ap (λ (w : World C). record w { shards = set world.shards place.shard (record shard { contents = set shard.contents place.seat done.after }) })
        (changed_with (λ (w : Worker). having_served (logging w done.commands done.clock) place)
        (λ log worker. ap (λ (w : Worker). having_served w place) (logging-before done.commands done.clock log worker)) i)

    move_with : (i s : ℕ) (done : Option (Done (List C)))
        → after_move (with_logs logs world) i (worker_at host (with_logs logs world) i) s done ≡ with_logs logs (after_move world i (worker_at host world i) s done)
    move_with i s None = changed_with (λ (w : Worker). record w { stuck = true }) (λ log worker. refl) i
    move_with i s (Some done) =
        ap (λ (w : World C). record w { shards = set world.shards s (record { contents = done.after; moved = true }) })
        (changed_with (λ (w : Worker). logging w done.commands done.clock) (logging-before done.commands done.clock) i)

    scan_with : (i : ℕ) (place : Place) (shard : Seats C) (done : Option (Done (List C)))
        → after_scan (with_logs logs world) i (worker_at host (with_logs logs world) i) place shard done
        ≡ with_logs logs (after_scan world i (worker_at host world i) place shard done)
    scan_with i place shard None = changed_with (λ (w : Worker). record w { stopped = true }) (λ log worker. refl) i
    scan_with i place shard (Some done) =
        ap (λ (w : World C). record w { shards = set world.shards place.shard (record shard { contents = done.after }) })
        (changed_with (λ (w : Worker). having_scanned (logging w done.commands done.clock) place)
        (λ log worker. ap (λ (w : Worker). having_scanned w place) (logging-before done.commands done.clock log worker)) i)

    advance_with : (i : ℕ) → after_advance (with_logs logs world) i (worker_at host (with_logs logs world) i) ≡ with_logs logs (after_advance world i (worker_at host world i))
    advance_with i =
        ap (λ (e : ℕ). if e == last_epoch then record (with_logs logs world) { over = true }
        else record (with_worker (with_logs logs world) i (next (worker_at host (with_logs logs world) i))) { closing = true })
        (ap (λ (c : Reading). c.at.epoch) (clock_with i))
        ∙ go ((worker_at host world i).clock.at.epoch == last_epoch)
      where
        next : Worker → Worker
        next w = logging w (NextEpoch ∷ []) (next_clock w.clock)

        go : (b : Bool) → (if b then record (with_logs logs world) { over = true }
            else record (with_worker (with_logs logs world) i (next (worker_at host (with_logs logs world) i))) { closing = true })
            ≡ with_logs logs (if b then record world { over = true } else record (with_worker world i (next (worker_at host world i))) { closing = true })
        go true = refl
        go false = ap (λ (w : World C). record w { closing = true })
            (changed_with next (λ log worker. logging-before (NextEpoch ∷ []) (next_clock worker.clock) log worker) i)

    -- what happens
    pub step_with : (event : WorldEvent R) → step host (with_logs logs world) event ≡ with_logs logs (step host world event)
    step_with (takes i place) = changed_with (λ (w : Worker). record w { holds = Some (record { place = place; used = false }) }) (λ log worker. refl) i
    step_with (loses i place) = refl
    step_with (serves i place request) =
        ap (λ (c : Reading). after_serve (with_logs logs world) i (worker_at host (with_logs logs world) i) place (shard_at world place.shard)
        (host.serve i c (get_or (shard_at world place.shard).contents place.seat host.vacant) request)) (clock_with i)
        ∙ serve_with i place (shard_at world place.shard) _
    step_with (gives i place) = changed_with (λ (w : Worker). record w { holds = None }) (λ log worker. refl) i
    step_with (advances i) = advance_with i
    step_with (moves i s) =
        ap (λ (c : Reading). after_move (with_logs logs world) i (worker_at host (with_logs logs world) i) s (host.move i c s (shard_at world s).contents)) (clock_with i)
        ∙ move_with i s _
    step_with opens = refl
    step_with (raises i) = ap (λ (c : Reading). record (with_logs logs world) { newest = max world.newest (suc c.at.epoch) }) (clock_with i)
    step_with (enters i) =
        changed_with (λ (w : Worker). logging w (NextEpoch ∷ []) (next_clock w.clock)) (λ log worker. logging-before (NextEpoch ∷ []) (next_clock worker.clock) log worker) i
    step_with (scans i place) =
        ap (λ (c : Reading). after_scan (with_logs logs world) i (worker_at host (with_logs logs world) i) place (shard_at world place.shard)
        (host.move i c place.shard (shard_at world place.shard).contents)) (clock_with i)
        ∙ scan_with i place (shard_at world place.shard) _
    step_with (finishes i) = ap (λ (c : Reading). record (with_logs logs world) { scanned = set world.scanned i c.at.epoch }) (clock_with i)
    step_with (stops i found) = changed_with (λ (w : Worker). record w { stopped = true }) (λ log worker. refl) i

    -- where clocks end
    end_with : (i : ℕ) → end_at host (with_logs logs world) i ≡ end_at host world i
    end_with i = ap (λ (c : Reading). record { worker = i; at = c.at }) (clock_with i)

    pub ends_with : (event : WorldEvent R) → end_of host (with_logs logs world) event ≡ end_of host world event
    ends_with (takes i place) = refl
    ends_with (loses i place) = refl
    ends_with (serves i place request) =
        ap (λ (c : Reading). if is_none (host.serve i c (get_or (shard_at world place.shard).contents place.seat host.vacant) request)
        then Some (record { worker = i; at = c.at }) else None) (clock_with i)
    ends_with (gives i place) = refl
    ends_with (advances i) =
        ap (λ (c : Reading). if c.at.epoch == last_epoch then Some (end_at host (with_logs logs world) 0) else None) (clock_with i)
        ∙ ap (λ (e : ClockEnd). if (worker_at host world i).clock.at.epoch == last_epoch then Some e else None) (end_with 0)
    ends_with (moves i s) =
        ap (λ (c : Reading). if is_none (host.move i c s (shard_at world s).contents) then Some (record { worker = i; at = c.at }) else None) (clock_with i)
    ends_with opens = refl
    ends_with (raises i) = refl
    ends_with (enters i) = refl
    ends_with (scans i place) =
        ap (λ (c : Reading). if is_none (host.move i c place.shard (shard_at world place.shard).contents) then Some (record { worker = i; at = c.at }) else None) (clock_with i)
    ends_with (finishes i) = refl
    ends_with (stops i found) = ap (λ (e : ClockEnd). Some e) (end_with i)

  -- ---- how many workers there are

  length-after_serve : (world : World C) (i : ℕ) (worker : Worker) (place : Place) (shard : Seats C) (done : Option (Done C))
      → length (after_serve world i worker place shard done).workers ≡ length world.workers
  length-after_serve world i worker place shard None = length-set world.workers i _
  length-after_serve world i worker place shard (Some done) = length-set world.workers i _

  length-after_move : (world : World C) (i s : ℕ) (worker : Worker) (done : Option (Done (List C)))
      → length (after_move world i worker s done).workers ≡ length world.workers
  length-after_move world i s worker None = length-set world.workers i _
  length-after_move world i s worker (Some done) = length-set world.workers i _

  length-after_scan : (world : World C) (i : ℕ) (worker : Worker) (place : Place) (shard : Seats C) (done : Option (Done (List C)))
      → length (after_scan world i worker place shard done).workers ≡ length world.workers
  length-after_scan world i worker place shard None = length-set world.workers i _
  length-after_scan world i worker place shard (Some done) = length-set world.workers i _

  -- as many as before
  pub length-step : (world : World C) (event : WorldEvent R) → length (step host world event).workers ≡ length world.workers
  length-step world (takes i place) = length-set world.workers i _
  length-step world (loses i place) = refl
  length-step world (serves i place request) = length-after_serve world i _ place _ _
  length-step world (gives i place) = length-set world.workers i _
  length-step world (advances i) = go ((worker_at host world i).clock.at.epoch == last_epoch)
    where
      go : (b : Bool) → length (World.workers (if b then record world { over = true }
          else record (with_worker world i (logging (worker_at host world i) (NextEpoch ∷ []) (next_clock (worker_at host world i).clock))) { closing = true }))
          ≡ length world.workers
      go true = refl
      go false = length-set world.workers i _
  length-step world (moves i s) = length-after_move world i s _ _
  length-step world opens = refl
  length-step world (raises i) = refl
  length-step world (enters i) = length-set world.workers i _
  length-step world (scans i place) = length-after_scan world i _ place (shard_at world place.shard) _
  length-step world (finishes i) = refl
  length-step world (stops i found) = length-set world.workers i _

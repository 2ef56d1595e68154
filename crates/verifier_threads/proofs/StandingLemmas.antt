-- How a world stands does not depend on its logs.
use Rattle.std.proofs.Common.{◌≡◌, ◌⊎◌, inl, inr, ℕ, zero, suc, true, false, List, [], ◌∷◌, length, map, get_or, Option, Some, None, refl, sym, ◌∙◌, ap, arith}
use Rattle.std.proofs.lemmas.Bool.{false≢true}
use Rattle.std.proofs.lemmas.List.{length-map}
use Rattle.log_codec.specs.declared.command.Command.{Command}
use Rattle.host_core.specs.Host.{Host}
use Rattle.host_core.specs.World.{Worker, World, fresh, worker_at}
use Rattle.host_world.specs.declared.fault.ClockEnd.{ClockEnd}
use Rattle.host_world.specs.Behind.{before_each, with_logs}
use Rattle.host_world.proofs.FrontLaws.{unlogged, length-before_each, same_unlogged, over_other, round_other, advanced_other, enabled_other, enabled_without}
use Rattle.host_serving.specs.Leading.{CanDoNoMore}
use Rattle.host_serving.specs.Standing.{HasServedUpTo, IsServedUpTo, BeginsRound, IsServedOut, NoneStopped, SomeStopped, IsRoundStopped, EndsRound, NothingFollows, IsLowest, IsClosed, IsAllServed, asked_by, turns_of, first_of_round}
use Rattle.verifier_threads.specs.Running.{with_no_log, all_handed_out, IsAtRound, IsAtClose}
use Rattle.worker_threads.specs.Phase.{first_stopped}
use Rattle.verifier_threads.proofs.LowestLemmas.{first-handed}
use Rattle.verifier_threads.proofs.HandingLemmas.{handed-none}

-- ---- other logs

module _ {C R : Type 0} (host : Host C R) (world : World C) (workers : List Worker) (count : length workers ≡ length world.workers)
    (same : (i : ℕ) → unlogged (get_or workers i (fresh host.header)) ≡ unlogged (worker_at host world i)) where
  abbrev other : World C
  other = record world { workers = workers }

  stopped_other : (i : ℕ) → (worker_at host other i).stopped ≡ (worker_at host world i).stopped
  stopped_other i = ap (λ (w : Worker). w.stopped) (same i)

  served_worker : (i n : ℕ) → HasServedUpTo (worker_at host world i) n → HasServedUpTo (worker_at host other i) n
  served_worker i n has = record {
    idle = ap (λ (w : Worker). w.holds) (same i) ∙ has.idle;
    going = ap (λ (w : Worker). w.stuck) (same i) ∙ has.going;
    served = go has.served;
  }
    where
      go : ((worker_at host world i).stopped ≡ true) ⊎ (((worker_at host world i).stopped ≡ false) × ((worker_at host world i).served ≡ n))
          → ((worker_at host other i).stopped ≡ true) ⊎ (((worker_at host other i).stopped ≡ false) × ((worker_at host other i).served ≡ n))
      go (inl stopped) = inl (stopped_other i ∙ stopped)
      go (inr served) = inr (stopped_other i ∙ served.0, ap (λ (w : Worker). w.served) (same i) ∙ served.1)

  up_to_other : (at turns : ℕ) → IsServedUpTo host world at turns → IsServedUpTo host other at turns
  up_to_other at turns is = record {
    going = is.going;
    phase = is.phase;
    within = is.within;
    each = λ i there. served_worker i (asked_by host i at turns) (is.each i (omega (arith, there, count)));
  }

  pub begins_other : BeginsRound host world → BeginsRound host other
  begins_other is = record {
    served = up_to_other (first_of_round host world) 0 is.served;
    newest = is.newest;
    marks = λ rolling i there. is.marks rolling i (omega (arith, there, count));
  }

  out_other : IsServedOut host world → IsServedOut host other
  out_other is = record {
    served = up_to_other world.phase (length (turns_of host world.phase)) is.served;
    over = over_other host world workers count same is.over;
    settled = λ rolling. round_other host world workers count same (is.settled rolling);
  }

  pub running_other : NoneStopped host world → NoneStopped host other
  running_other running = λ i there. stopped_other i ∙ running i (omega (arith, there, count))

  pub some_other : SomeStopped host world → SomeStopped host other
  some_other some = (some.0, omega (arith, some.1, count), stopped_other some.0 ∙ some.2)

  round_stopped_other : IsRoundStopped host world → IsRoundStopped host other
  round_stopped_other is = record {
    rolling = is.rolling;
    going = is.going;
    phase = is.phase;
    within = is.within;
    idle = λ i there. ap (λ (w : Worker). w.holds) (same i) ∙ is.idle i (omega (arith, there, count));
    stopped = some_other is.stopped;
  }

  pub ends_other : EndsRound host world → EndsRound host other
  ends_other (inl out) = inl (out_other out)
  ends_other (inr stopped) = inr (round_stopped_other stopped)

  pub lowest_other : (end : Option ClockEnd) → IsLowest host world end → IsLowest host other end
  lowest_other None is = tt
  lowest_other (Some found) is = λ i below. (
    stopped_other i ∙ (is i below).0,
    λ running. ap (λ (w : Worker). w.stuck) (same i) ∙ (is i below).1 (sym (stopped_other found.worker) ∙ running),
  )

  pub closed_other : IsClosed host world → IsClosed host other
  closed_other is = record {
    over = over_other host world workers count same is.over;
    advanced = λ i there. advanced_other host world workers count same i 2 (is.advanced i (omega (arith, there, count)));
  }

  pub all_other : IsAllServed host world → IsAllServed host other
  all_other is = record { last = is.last; closed = closed_other is.closed; running = running_other is.running }

  pub rests_other : CanDoNoMore host world → CanDoNoMore host other
  rests_other rests = λ event may. rests event
      (enabled_other host other world.workers (sym count) (λ i. sym (same i)) event may)

  pub nothing_other : NothingFollows host world → NothingFollows host other
  nothing_other (inl rests) = inl (rests_other rests)
  nothing_other (inr stopped) = inr (round_stopped_other stopped)

-- ---- handed out

same_handed : (workers : List Worker) (i : ℕ) (d : Worker) → d.log ≡ [] → unlogged (get_or (map with_no_log workers) i d) ≡ unlogged (get_or workers i d)
same_handed [] i d none' = refl
same_handed (worker ∷ workers) zero d none' = refl
same_handed (worker ∷ workers) (suc i) d none' = same_handed workers i d none'

module _ {C R : Type 0} (host : Host C R) (world : World C) where
  count_handed : length (map with_no_log world.workers) ≡ length world.workers
  count_handed = length-map world.workers with_no_log

  same : (i : ℕ) → unlogged (get_or (map with_no_log world.workers) i (fresh host.header)) ≡ unlogged (worker_at host world i)
  same i = same_handed world.workers i (fresh host.header) refl

  -- a round that begins is none of a rolling host
  pub round_handed : (end : Option ClockEnd) → host.rolling ≡ false → BeginsRound host world → NoneStopped host world → end ≡ None
      → IsAtRound host (all_handed_out world) end
  round_handed end plain begins running unended = record {
    begins = begins_other host world (map with_no_log world.workers) count_handed same begins;
    new = λ rolling. absurd (false≢true (sym plain ∙ rolling));
    running = running_other host world (map with_no_log world.workers) count_handed same running;
    unended = unended;
  }

  -- a round that is done
  pub close_handed : (end : Option ClockEnd) → EndsRound host world
      → ((end ≡ None) × NoneStopped host world) ⊎ ((end ≡ None → ⊥) × SomeStopped host world) → end ≡ first_stopped 0 world.workers
      → IsAtClose host (all_handed_out world) end
  close_handed end done ended first = record {
    done = ends_other host world (map with_no_log world.workers) count_handed same done;
    handed = handed-none world.workers;
    ended = go ended;
    first = first ∙ sym (first-handed 0 world.workers);
  }
    where
      go : ((end ≡ None) × NoneStopped host world) ⊎ ((end ≡ None → ⊥) × SomeStopped host world)
          → ((end ≡ None) × NoneStopped host (all_handed_out world)) ⊎ ((end ≡ None → ⊥) × SomeStopped host (all_handed_out world))
      go (inl running) = inl (running.0, running_other host world (map with_no_log world.workers) count_handed same running.1)
      go (inr stopped) = inr (stopped.0, some_other host world (map with_no_log world.workers) count_handed same stopped.1)

  pub all_handed : IsAllServed host world → IsAllServed host (all_handed_out world)
  all_handed is = all_other host world (map with_no_log world.workers) count_handed same is

  pub rests_handed : CanDoNoMore host world → CanDoNoMore host (all_handed_out world)
  rests_handed rests = rests_other host world (map with_no_log world.workers) count_handed same rests

  pub lowest_handed : (end : Option ClockEnd) → IsLowest host world end → IsLowest host (all_handed_out world) end
  lowest_handed end is = lowest_other host world (map with_no_log world.workers) count_handed same end is

-- ---- with logs in front

module _ {C R : Type 0} (host : Host C R) (logs : List (List Command)) (world : World C) where
  pub all_with : IsAllServed host world → IsAllServed host (with_logs logs world)
  all_with is =
      all_other host world (before_each logs world.workers) (length-before_each logs world.workers)
      (λ i. same_unlogged logs world.workers i (fresh host.header)) is

  pub lowest_with : (end : Option ClockEnd) → IsLowest host world end → IsLowest host (with_logs logs world) end
  lowest_with end is =
      lowest_other host world (before_each logs world.workers) (length-before_each logs world.workers)
      (λ i. same_unlogged logs world.workers i (fresh host.header)) end is

  pub rests_with : CanDoNoMore host world → CanDoNoMore host (with_logs logs world)
  rests_with rests = λ event may. rests event (enabled_without host logs world event may)

  pub nothing_with : NothingFollows host world → NothingFollows host (with_logs logs world)
  nothing_with is =
      nothing_other host world (before_each logs world.workers) (length-before_each logs world.workers)
      (λ i. same_unlogged logs world.workers i (fresh host.header)) is

  pub ends_with : EndsRound host world → EndsRound host (with_logs logs world)
  ends_with is =
      ends_other host world (before_each logs world.workers) (length-before_each logs world.workers)
      (λ i. same_unlogged logs world.workers i (fresh host.header)) is

  pub begins_with : BeginsRound host world → BeginsRound host (with_logs logs world)
  begins_with is =
      begins_other host world (before_each logs world.workers) (length-before_each logs world.workers)
      (λ i. same_unlogged logs world.workers i (fresh host.header)) is

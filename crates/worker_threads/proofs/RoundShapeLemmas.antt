-- The events of a round leave the shards as many, and moved or not as before.
use Rattle.std.proofs.Common.{◌≡◌, ℕ, zero, suc, ◌-◌, List, [], ◌∷◌, ◌++◌, length, get_or, set, nat_lt, Bool, true, false, Option, Some, None, if◌then◌else◌, refl, sym, ◌∙◌, ap, arith}
use Rattle.std.specs.List.{AllByRecursion}
use Rattle.std.proofs.lemmas.List.{length-set}
use Rattle.stamp_order.proofs.InOrderLaws.{every-append}
use Rattle.host_core.specs.Host.{Host, Done}
use Rattle.host_core.specs.World.{Place, Worker, Seats, World, unmoved, worker_at, shard_at}
use Rattle.host_core.specs.WorldEvent.{WorldEvent, takes, serves, gives, raises, enters, scans, finishes, stops, step, run_events, after_serve, after_scan}
use Rattle.host_core.proofs.EventLaws.{run-append}
use Rattle.round_order.specs.Turn.{Turn}
use Rattle.round_order.specs.Told.{RoundStop, finishes_from, enters_from, step_up, climb, act_of, done_events, round_events, stop_events}
use Rattle.worker_threads.proofs.ShapeLemmas.{AreShaped, IsOfRound}
use Rattle.worker_threads.proofs.FilledLemmas.{HaveFive}

-- ---- which events they are

pub finishes-of : (R : Type 0) (i count : ℕ) → AllByRecursion (IsOfRound {R = R}) (finishes_from i count)
finishes-of R i zero = tt
finishes-of R i (suc count) = (tt, finishes-of R (suc i) count)

enters-of : (R : Type 0) (finals : ℕ → ℕ) (epoch i count : ℕ) → AllByRecursion (IsOfRound {R = R}) (enters_from finals epoch i count)
enters-of R finals epoch i zero = tt
enters-of R finals epoch i (suc count) = go (nat_lt epoch (finals i)) (enters-of R finals epoch (suc i) count)
  where
    go : (b : Bool) → AllByRecursion (IsOfRound {R = R}) (enters_from finals epoch (suc i) count)
        → AllByRecursion (IsOfRound {R = R}) (if b then enters i ∷ enters_from finals epoch (suc i) count else enters_from finals epoch (suc i) count)
    go true rest = (tt, rest)
    go false rest = rest

climb-of : (R : Type 0) (finals : ℕ → ℕ) (workers epoch count : ℕ) → AllByRecursion (IsOfRound {R = R}) (climb finals workers epoch count)
climb-of R finals workers epoch zero = tt
climb-of R finals workers epoch (suc count) =
    every-append (IsOfRound {R = R}) (step_up finals workers epoch) (climb finals workers (suc epoch) count)
    (every-append (IsOfRound {R = R}) (finishes_from 0 workers) (raises 0 ∷ enters_from finals epoch 0 workers) (finishes-of R 0 workers) (tt, enters-of R finals epoch 0 workers))
    (climb-of R finals workers (suc epoch) count)

module _ {C R : Type 0} where
  act-of : (turn : Turn C R) (request : Option R) → IsOfRound (act_of turn request)
  act-of turn None = tt
  act-of turn (Some request) = tt

  -- Those of turns, and of the epochs between them, are of a round.
  pub round-of : (finals : ℕ → ℕ) (workers top epoch : ℕ) (turns : List (Turn C R)) → AllByRecursion IsOfRound (round_events finals workers top epoch turns)
  round-of finals workers top epoch [] = climb-of R finals workers epoch (top - epoch)
  round-of finals workers top epoch (turn ∷ turns) =
      every-append IsOfRound (climb finals workers epoch (turn.clock.at.epoch - epoch)) (done_events turn ++ round_events finals workers top turn.clock.at.epoch turns)
      (climb-of R finals workers epoch (turn.clock.at.epoch - epoch))
      (tt, (act-of turn turn.request, (tt, round-of finals workers top turn.clock.at.epoch turns)))

-- ---- what they leave

-- as many shards, each moved or not as before
pub record AreKept {C : Type 0} (old new : List (Seats C)) : Type 0 where
  pub count : length new ≡ length old
  pub moved : (s : ℕ) → (get_or new s (unmoved [])).moved ≡ (get_or old s (unmoved [])).moved

module _ {C : Type 0} where
  kept-self : (shards : List (Seats C)) → AreKept shards shards
  kept-self shards = record { count = refl; moved = λ s. refl }

  kept-then : (xs ys zs : List (Seats C)) → AreKept xs ys → AreKept ys zs → AreKept xs zs
  kept-then xs ys zs first second = record { count = second.count ∙ first.count; moved = λ s. second.moved s ∙ first.moved s }

  moved-set : (shards : List (Seats C)) (s : ℕ) (new : Seats C) → new.moved ≡ (get_or shards s (unmoved [])).moved
      → (t : ℕ) → (get_or (set shards s new) t (unmoved [])).moved ≡ (get_or shards t (unmoved [])).moved
  moved-set [] s new same t = refl
  moved-set (seats ∷ shards) zero new same zero = same
  moved-set (seats ∷ shards) zero new same (suc t) = refl
  moved-set (seats ∷ shards) (suc s) new same zero = refl
  moved-set (seats ∷ shards) (suc s) new same (suc t) = moved-set shards s new same t

  kept-set : (shards : List (Seats C)) (s : ℕ) (new : Seats C) → new.moved ≡ (get_or shards s (unmoved [])).moved → AreKept shards (set shards s new)
  kept-set shards s new same = record { count = length-set shards s new; moved = moved-set shards s new same }

  -- Where each shard has five seats in both, they are of one shape.
  pub shaped-kept : (xs ys : List (Seats C)) → AreKept xs ys → HaveFive xs → HaveFive ys → AreShaped xs ys
  shaped-kept [] [] kept before behind = tt
  shaped-kept [] (y ∷ ys) kept before behind = let count = kept.count in absurd (omega (arith, count))
  shaped-kept (x ∷ xs) [] kept before behind = let count = kept.count in absurd (omega (arith, count))
  shaped-kept (x ∷ xs) (y ∷ ys) kept before behind = (
    behind 0 (omega arith) ∙ sym (before 0 (omega arith)),
    kept.moved 0,
    shaped-kept xs ys (record { count = let count = kept.count in omega (arith, count); moved = λ s. kept.moved (suc s) })
        (λ s there. before (suc s) (omega (arith, there))) (λ s there. behind (suc s) (omega (arith, there))),
  )

module _ {C R : Type 0} (host : Host C R) where
  serve-kept : (world : World C) (i : ℕ) (worker : Worker) (place : Place) (what : Option (Done C))
      → AreKept world.shards (after_serve world i worker place (shard_at world place.shard) what).shards
  serve-kept world i worker place None = kept-self world.shards
  serve-kept world i worker place (Some done) =
      kept-set world.shards place.shard (record (shard_at world place.shard) { contents = set (shard_at world place.shard).contents place.seat done.after }) refl

  scan-kept : (world : World C) (i : ℕ) (worker : Worker) (place : Place) (what : Option (Done (List C)))
      → AreKept world.shards (after_scan world i worker place (shard_at world place.shard) what).shards
  scan-kept world i worker place None = kept-self world.shards
  scan-kept world i worker place (Some done) = kept-set world.shards place.shard (record (shard_at world place.shard) { contents = done.after }) refl

  step-kept : (world : World C) (event : WorldEvent R) → IsOfRound event → AreKept world.shards (step host world event).shards
  step-kept world (takes i place) is = kept-self world.shards
  step-kept world (serves i place request) is = serve-kept world i (worker_at host world i) place _
  step-kept world (gives i place) is = kept-self world.shards
  step-kept world (raises i) is = kept-self world.shards
  step-kept world (enters i) is = kept-self world.shards
  step-kept world (scans i place) is = scan-kept world i (worker_at host world i) place _
  step-kept world (finishes i) is = kept-self world.shards
  step-kept world event is = absurd is

  pub run-kept : (world : World C) (events : List (WorldEvent R)) → AllByRecursion IsOfRound events → AreKept world.shards (run_events host world events).shards
  run-kept world [] are = kept-self world.shards
  run-kept world (event ∷ events) are =
      kept-then world.shards (step host world event).shards (run_events host world (event ∷ events)).shards
      (step-kept world event are.0) (run-kept (step host world event) events are.1)

  -- so do stops
  pub stops-kept : (world : World C) (list : List RoundStop) → AreKept world.shards (run_events host world (stop_events list)).shards
  stops-kept world [] = kept-self world.shards
  stops-kept world (stop ∷ list) = stops-kept (step host world (stops stop.worker stop.found)) list

  pub run-then-kept : (world : World C) (events : List (WorldEvent R)) (list : List RoundStop) → AllByRecursion IsOfRound events
      → AreKept world.shards (run_events host world (events ++ stop_events list)).shards
  run-then-kept world events list are =
      let middle = run_events host world events in
      let both = kept-then world.shards middle.shards (run_events host middle (stop_events list)).shards (run-kept world events are) (stops-kept middle list) in
      let same = ap (λ (w : World C). w.shards) (run-append host world events (stop_events list)) in
      record {
        count = ap (λ (shards : List (Seats C)). length shards) same ∙ both.count;
        moved = λ s. ap (λ (shards : List (Seats C)). (get_or shards s (unmoved [])).moved) same ∙ both.moved s;
      }

  -- notes leave the newest epoch
  pub finishes-newest : (world : World C) (i count : ℕ) → (run_events host world (finishes_from i count)).newest ≡ world.newest
  finishes-newest world i zero = refl
  finishes-newest world i (suc count) = finishes-newest (step host world (finishes i)) (suc i) count

-- Turns at places leave the shards their seats: as many, and moved or not as before.
use Rattle.std.proofs.Common.{◌≡◌, ℕ, zero, suc, List, [], ◌∷◌, length, get_or, set, Option, Some, None, refl, ◌∙◌, ap}
use Rattle.std.specs.List.{AllByRecursion}
use Rattle.std.proofs.lemmas.List.{length-set}
use Rattle.stamp_order.proofs.InOrderLaws.{every-append}
use Rattle.host_core.specs.Host.{Host, Done}
use Rattle.host_core.specs.World.{Place, Worker, Seats, World, unmoved, worker_at, shard_at}
use Rattle.host_core.specs.WorldEvent.{WorldEvent, takes, serves, gives, raises, enters, scans, finishes, step, run_events, after_serve}
use Rattle.host_order.specs.Serving.{Serving, in_one_order, replay}
use Rattle.host_order.specs.Told.{Stop, joined, replay_stops, phase_events}
use Rattle.host_world.proofs.FrontLaws.{length-step}

-- ---- shards

-- as many shards, each with as many seats, and moved as before or not
abbrev pub AreShaped : {C : Type 0} → List (Seats C) → List (Seats C) → Type 0
AreShaped [] [] = Unit {0}
AreShaped [] (other ∷ others) = ⊥
AreShaped (seats ∷ shards) [] = ⊥
AreShaped (seats ∷ shards) (other ∷ others) =
    (length other.contents ≡ length seats.contents) × (other.moved ≡ seats.moved) × AreShaped shards others

module _ {C : Type 0} where
  shaped-self : (shards : List (Seats C)) → AreShaped shards shards
  shaped-self [] = tt
  shaped-self (seats ∷ shards) = (refl, refl, shaped-self shards)

  shaped-then : (xs ys zs : List (Seats C)) → AreShaped xs ys → AreShaped ys zs → AreShaped xs zs
  shaped-then [] [] [] first second = tt
  shaped-then [] [] (z ∷ zs) first second = absurd second
  shaped-then [] (y ∷ ys) zs first second = absurd first
  shaped-then (x ∷ xs) [] zs first second = absurd first
  shaped-then (x ∷ xs) (y ∷ ys) [] first second = absurd second
  shaped-then (x ∷ xs) (y ∷ ys) (z ∷ zs) first second =
      (second.0 ∙ first.0, second.1 ∙ first.1, shaped-then xs ys zs first.2 second.2)

  -- another content at a seat
  shaped-set : (shards : List (Seats C)) (s seat : ℕ) (content : C)
      → AreShaped shards (set shards s (record (get_or shards s (unmoved [])) { contents = set (get_or shards s (unmoved [])).contents seat content }))
  shaped-set [] s seat content = tt
  shaped-set (seats ∷ shards) zero seat content = (length-set seats.contents seat content, refl, shaped-self shards)
  shaped-set (seats ∷ shards) (suc s) seat content = (refl, refl, shaped-set shards s seat content)

  pub shaped-count : (xs ys : List (Seats C)) → AreShaped xs ys → length ys ≡ length xs
  shaped-count [] [] same = refl
  shaped-count [] (y ∷ ys) same = absurd same
  shaped-count (x ∷ xs) [] same = absurd same
  shaped-count (x ∷ xs) (y ∷ ys) same = ap suc (shaped-count xs ys same.2)

  pub shaped-seats : (xs ys : List (Seats C)) (s : ℕ) → AreShaped xs ys
      → length (get_or ys s (unmoved [])).contents ≡ length (get_or xs s (unmoved [])).contents
  shaped-seats [] [] s same = refl
  shaped-seats [] (y ∷ ys) s same = absurd same
  shaped-seats (x ∷ xs) [] s same = absurd same
  shaped-seats (x ∷ xs) (y ∷ ys) zero same = same.0
  shaped-seats (x ∷ xs) (y ∷ ys) (suc s) same = shaped-seats xs ys s same.2

-- ---- turns

-- the event is one of a turn at a place
abbrev pub IsOfTurn : {R : Type 0} → WorldEvent R → Type 0
IsOfTurn (takes i place) = Unit {0}
IsOfTurn (serves i place request) = Unit {0}
IsOfTurn (gives i place) = Unit {0}
IsOfTurn event = ⊥

-- or one of a round but for the stops
abbrev pub IsOfRound : {R : Type 0} → WorldEvent R → Type 0
IsOfRound (takes i place) = Unit {0}
IsOfRound (serves i place request) = Unit {0}
IsOfRound (gives i place) = Unit {0}
IsOfRound (raises i) = Unit {0}
IsOfRound (enters i) = Unit {0}
IsOfRound (scans i place) = Unit {0}
IsOfRound (finishes i) = Unit {0}
IsOfRound event = ⊥

pub of_round : {R : Type 0} (event : WorldEvent R) → IsOfTurn event → IsOfRound event
of_round (takes i place) is = tt
of_round (serves i place request) is = tt
of_round (gives i place) is = tt
of_round event is = absurd is

stops-turns : {R : Type 0} (stops : List (Stop R)) → AllByRecursion IsOfTurn (replay_stops stops)
stops-turns [] = tt
stops-turns (stop ∷ stops) = (tt, (tt, (tt, stops-turns stops)))

module _ {C R : Type 0} where
  pub replay-turns : (servings : List (Serving C R)) → AllByRecursion IsOfTurn (replay servings)
  replay-turns [] = tt
  replay-turns (serving ∷ servings) = (tt, (tt, (tt, replay-turns servings)))

  pub phase-turns : (lists : List (List (Serving C R))) (stops : List (Stop R)) → AllByRecursion IsOfTurn (phase_events lists stops)
  phase-turns lists stops =
      every-append IsOfTurn (replay (in_one_order (joined lists))) (replay_stops stops)
      (replay-turns (in_one_order (joined lists))) (stops-turns stops)

module _ {C R : Type 0} (host : Host C R) where
  serve-shaped : (world : World C) (i : ℕ) (worker : Worker) (place : Place) (what : Option (Done C))
      → AreShaped world.shards (after_serve world i worker place (shard_at world place.shard) what).shards
  serve-shaped world i worker place None = shaped-self world.shards
  serve-shaped world i worker place (Some done) = shaped-set world.shards place.shard place.seat done.after

  step-shaped : (world : World C) (event : WorldEvent R) → IsOfTurn event → AreShaped world.shards (step host world event).shards
  step-shaped world (takes i place) is = shaped-self world.shards
  step-shaped world (serves i place request) is = serve-shaped world i (worker_at host world i) place _
  step-shaped world (gives i place) is = shaped-self world.shards
  step-shaped world event is = absurd is

  -- Events of turns leave the shards their shape,
  pub run-shaped : (world : World C) (events : List (WorldEvent R)) → AllByRecursion IsOfTurn events
      → AreShaped world.shards (run_events host world events).shards
  run-shaped world [] turns = shaped-self world.shards
  run-shaped world (event ∷ events) turns =
      shaped-then world.shards (step host world event).shards (run_events host world (event ∷ events)).shards
      (step-shaped world event turns.0) (run-shaped (step host world event) events turns.1)

  -- and whatever events leave as many workers.
  pub run-workers : (world : World C) (events : List (WorldEvent R)) → length (run_events host world events).workers ≡ length world.workers
  run-workers world [] = refl
  run-workers world (event ∷ events) = run-workers (step host world event) events ∙ length-step host world event

-- Where no key becomes hot, the hot places of the shipped host are vacant.
use Rattle.std.proofs.Common.{◌≡◌, ℕ, zero, suc, ◌==◌, Bool, true, false, List, [], ◌∷◌, ◌++◌, map, get_or, set, nat_lt, Option, Some, None, if◌then◌else◌, refl, sym, ◌∙◌, ap, subst}
use Rattle.std.specs.Prelude.{◌&&◌}
use Rattle.std.proofs.Math.ListN.{get_or-map}
use Rattle.std.proofs.lemmas.Bool.{false≢true}
use Rattle.std.proofs.lemmas.Option.{none-some}
use Rattle.lamport_clocks.specs.Clock.{last_epoch}
use Rattle.lamport_clocks.specs.Reading.{Reading}
use Rattle.record_hash.specs.Functions.{DigestFunctions}
use Rattle.record_text.specs.declared.request.Request.{Request}
use Rattle.record_text.specs.Longest.{longest_of}
use Rattle.script_text.specs.declared.task.Task.{Task}
use Rattle.host_core.specs.Host.{Done, Host}
use Rattle.host_core.specs.World.{Place, Worker, Seats, World, unmoved, worker_at, shard_at, set_up}
use Rattle.host_core.specs.WorldEvent.{WorldEvent, takes, loses, serves, gives, advances, moves, opens, raises, enters, scans, finishes, stops, after_serve, after_move, after_scan, after_advance, step, IsEnabled, AreEnabled, run_events}
use Rattle.host_core.specs.Deeds.{pending_of}
use Rattle.host_shard.specs.Content.{Content, cold, hot, vacant}
use Rattle.host_plan.specs.Moments.{renewing}
use Rattle.shipped_host.specs.declared.settings.Settings.{Settings}
use Rattle.shipped_host.specs.ShippedHost.{is_blob, serves_key, new_seats, hot_places, shipped_host}
use Rattle.round_fits.specs.Rounds.{AreOthersVacant, HasNothingHot}
use Rattle.round_fits.proofs.ScanLaws.{some_of, cold_move}
use Rattle.round_fits.proofs.RoundLemmas.{get-replicate}

-- ---- lists

-- what holds of each, and of another, holds of each where that one is put
all_set : {X : Type 0} (P : X → Type 0) (xs : List X) (i : ℕ) (y d : X) → P y → ((j : ℕ) → P (get_or xs j d)) → (j : ℕ) → P (get_or (set xs i y) j d)
all_set P [] i y d holds all j = all j
all_set P (x ∷ xs) zero y d holds all zero = holds
all_set P (x ∷ xs) zero y d holds all (suc j) = all (suc j)
all_set P (x ∷ xs) (suc i) y d holds all zero = all zero
all_set P (x ∷ xs) (suc i) y d holds all (suc j) = all_set P xs i y d holds (λ k. all (suc k)) j

-- another content at the first place leaves the others
first_set : (contents : List Content) (new : Content) → AreOthersVacant contents → AreOthersVacant (set contents 0 new)
first_set [] new none k = none k
first_set (content ∷ contents) new none k = none k

-- either of two
either : (b : Bool) (one other : World Content) → HasNothingHot one → HasNothingHot other → HasNothingHot (if b then one else other)
either true one other is is' = is
either false one other is is' = is'

module _ (functions : DigestFunctions) (settings : Settings) (script : List (List Task)) (cold_only : settings.hot ≡ None) where
  abbrev host : Host Content Request
  host = shipped_host functions settings script

  -- nothing waits where all is vacant
  pub none_waits : (others : List Content) → ((k : ℕ) → get_or others k vacant ≡ vacant) → pending_of host others ≡ []
  none_waits [] none = refl
  none_waits (content ∷ others) none =
      ap (λ (c : Content). host.pending c ++ pending_of host others) (none 0) ∙ none_waits others (λ k. none (suc k))

  -- ---- what is done at a shard

  -- a vacant place serves no request
  serve_vacant : (s : ℕ) (contents : List Content) (seat : ℕ) (request : Request) (new : Content) → AreOthersVacant contents
      → host.owns s contents seat request ≡ true → AreOthersVacant (set contents seat new)
  serve_vacant s contents zero request new none owns = first_set contents new none
  serve_vacant s contents (suc seat) request new none owns =
      absurd (false≢true (ap (λ (c : Content). serves_key contents request.key c && is_blob (longest_of settings.header) request.value) (sym (none seat)) ∙ owns))

  move_vacant : (i : ℕ) (clock : Reading) (s : ℕ) (contents : List Content) (done : Done (List Content)) → AreOthersVacant contents
      → host.move i clock s contents ≡ Some done → AreOthersVacant done.after
  move_vacant i clock s [] done none is = absurd (none-some done is)
  move_vacant i clock s (hot found ∷ others) done none is = absurd (none-some done is)
  move_vacant i clock s (vacant ∷ others) done none is = absurd (none-some done is)
  move_vacant i clock s (cold shard ∷ others) done none is =
      subst (λ (d : Done (List Content)). AreOthersVacant d.after)
      (some_of (nat_lt clock.end (renewing clock shard.stamp).at.counter) _ done
      (sym (cold_move functions settings script cold_only i clock shard others (none_waits others none) s) ∙ is)) none

  -- ---- events

  module _ (world : World Content) (cold_there : HasNothingHot world) where
    put_there : (s : ℕ) (seats : Seats Content) → AreOthersVacant seats.contents → (t : ℕ) → AreOthersVacant (get_or (set world.shards s seats) t (unmoved [])).contents
    put_there s seats none = all_set (λ (shard : Seats Content). AreOthersVacant shard.contents) world.shards s seats (unmoved []) none cold_there

    serve_keeps : (i : ℕ) (worker : Worker) (place : Place) (request : Request) → host.owns place.shard (shard_at world place.shard).contents place.seat request ≡ true
        → (done : Option (Done Content)) → HasNothingHot (after_serve world i worker place (shard_at world place.shard) done)
    serve_keeps i worker place request owns None = cold_there
    serve_keeps i worker place request owns (Some done) =
        put_there place.shard (record (shard_at world place.shard) { contents = set (shard_at world place.shard).contents place.seat done.after })
        (serve_vacant place.shard (shard_at world place.shard).contents place.seat request done.after (cold_there place.shard) owns)

    move_keeps : (i : ℕ) (worker : Worker) (s : ℕ) (done : Option (Done (List Content))) → host.move i worker.clock s (shard_at world s).contents ≡ done
        → HasNothingHot (after_move world i worker s done)
    move_keeps i worker s None is = cold_there
    move_keeps i worker s (Some done) is =
        put_there s (record { contents = done.after; moved = true }) (move_vacant i worker.clock s (shard_at world s).contents done (cold_there s) is)

    scan_keeps : (i : ℕ) (worker : Worker) (place : Place) (done : Option (Done (List Content))) → host.move i worker.clock place.shard (shard_at world place.shard).contents ≡ done
        → HasNothingHot (after_scan world i worker place (shard_at world place.shard) done)
    scan_keeps i worker place None is = cold_there
    scan_keeps i worker place (Some done) is =
        put_there place.shard (record (shard_at world place.shard) { contents = done.after })
        (move_vacant i worker.clock place.shard (shard_at world place.shard).contents done (cold_there place.shard) is)

    advance_keeps : (i : ℕ) (worker : Worker) → HasNothingHot (after_advance world i worker)
    advance_keeps i worker = either (worker.clock.at.epoch == last_epoch) _ _ cold_there cold_there

    opens_keeps : HasNothingHot (step host world opens)
    opens_keeps s = subst (λ (seats : Seats Content). AreOthersVacant seats.contents)
        (sym (get_or-map (λ (shard : Seats Content). unmoved shard.contents) world.shards s (unmoved []))) (cold_there s)

    step_keeps : (event : WorldEvent Request) → IsEnabled host world event → HasNothingHot (step host world event)
    step_keeps (takes i place) may = cold_there
    step_keeps (loses i place) may = cold_there
    step_keeps (serves i place request) may = serve_keeps i (worker_at host world i) place request may.owns _
    step_keeps (gives i place) may = cold_there
    step_keeps (advances i) may = advance_keeps i (worker_at host world i)
    step_keeps (moves i s) may = move_keeps i (worker_at host world i) s _ refl
    step_keeps opens may = opens_keeps
    step_keeps (raises i) may = cold_there
    step_keeps (enters i) may = cold_there
    step_keeps (scans i place) may = scan_keeps i (worker_at host world i) place _ refl
    step_keeps (finishes i) may = cold_there
    step_keeps (stops i found) may = cold_there

  run_keeps : (world : World Content) → HasNothingHot world → (events : List (WorldEvent Request)) → AreEnabled host world events → HasNothingHot (run_events host world events)
  run_keeps world none [] enabled = none
  run_keeps world none (event ∷ events) enabled = run_keeps (step host world event) (step_keeps world none event enabled.0) events enabled.1

  -- ---- the setup

  new_vacant : (contents : List Content) (s : ℕ) → AreOthersVacant (get_or (map new_seats contents) s [])
  new_vacant [] s k = refl
  new_vacant (content ∷ contents) zero k = get-replicate hot_places k vacant
  new_vacant (content ∷ contents) (suc s) k = new_vacant contents s k

  set_up_vacant : HasNothingHot (set_up host)
  set_up_vacant s = subst (λ (seats : Seats Content). AreOthersVacant seats.contents) (sym (get_or-map unmoved host.setup.after s [])) (new_vacant _ s)

  -- Behind whatever events nothing is hot.
  pub nothing_hot : (events : List (WorldEvent Request)) → AreEnabled host (set_up host) events → HasNothingHot (run_events host (set_up host) events)
  nothing_hot events enabled = run_keeps (set_up host) set_up_vacant events enabled

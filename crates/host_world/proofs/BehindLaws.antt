-- What holds of a world behind the setup: its shards can be served, and taken in.
use Rattle.std.proofs.Common.{◌≡◌, ℕ, suc, ◌+◌, ◌^◌, ◌<◌, ◌≤◌, ◌==◌, ◌&&◌, Bool, List, [], ◌∷◌, length, get_or, nat_lt, IsTrue, sym, ◌∙◌, ap, subst, arith}
use Rattle.std.proofs.lemmas.Bool.{eq-eqb, lt-ltb, or_right, and_from}
use Rattle.std.specs.List.{AllByRecursion}
use Rattle.tree_keys.specs.Path.{key_bits}
use Rattle.lamport_clocks.specs.Clock.{is_open}
use Rattle.lamport_clocks.specs.Reading.{Reading}
use Rattle.record_hash.specs.Functions.{DigestFunctions}
use Rattle.record_text.specs.declared.element.Element.{Element}
use Rattle.record_text.specs.declared.request.Request.{Request}
use Rattle.record_text.specs.Longest.{longest_blob, longest_of}
use Rattle.record_text.specs.Tree.{wide_of}
use Rattle.merkle_records.specs.Merkle.{GivesDigests}
use Rattle.log_codec.specs.declared.command.Command.{Command}
use Rattle.host_core.specs.Host.{Host}
use Rattle.host_core.specs.World.{Place, World, worker_at, shard_at, set_up}
use Rattle.host_core.specs.WorldEvent.{serves, moves, scans, run_events, MayServe, MayMove, MayScan}
use Rattle.host_core.specs.Core.{IsReadyToMove, IsStanding}
use Rattle.host_core.specs.Deeds.{IsStamped, IsOpenElement}
use Rattle.host_shard.specs.Content.{Content, cold, hot, vacant, pending}
use Rattle.host_laws.specs.Served.{waiting}
use Rattle.host_plan.specs.Plan.{Owns, IsOpenAt}
use Rattle.script_text.specs.declared.task.Task.{Task}
use Rattle.shipped_host.specs.declared.settings.Settings.{Settings}
use Rattle.shipped_host.specs.Seated.{SeatsMirror, waiting_at}
use Rattle.shipped_host.specs.ShippedHost.{shipped_host}
use Rattle.shipped_host.proofs.LongerLaws.{longest_fits, owns_longer, seats_longer}
use Rattle.shipped_host.proofs.RangeLaws.{next_in_range, shards_set_up}
use Rattle.shipped_host.proofs.SeatLaws.{seat_serves}
use Rattle.host_fits.specs.Mirroring.{PlacesMirror, front_of}
use Rattle.host_fits.specs.Promise.{CanRun, IsPromised}
use Rattle.host_fits.proofs.PromiseLaws.{promised}
use Rattle.host_fits.proofs.StandingLaws.{standing, tree_there}
use Rattle.host_world.specs.Behind.{IsBehindSetup, with_logs, CanTakeSeats}
use Rattle.host_world.proofs.FrontLaws.{clock_with, enabled_with}

module _ (functions : DigestFunctions) (settings : Settings) (script : List (List Task)) (digests : GivesDigests functions.digest) (world : World Content)
    (behind : IsBehindSetup functions settings script world) where
  abbrev pub host : Host Content Request
  host = shipped_host functions settings script

  pub can_run : CanRun functions settings script
  can_run = record { in_range = behind.settings_fit; counters = behind.counters; keys = behind.keys; digests = digests }

  -- The world is as its host promises.
  pub behind_promised : IsPromised host world
  behind_promised = subst (IsPromised host) (sym behind.is) (promised functions settings script behind.events can_run behind.enabled)

  -- The world stands.
  pub behind_stands : IsStanding (PlacesMirror functions settings) host world
  behind_stands =
      subst (IsStanding (PlacesMirror functions settings) host) (sym behind.is) (standing functions settings script behind.events can_run behind.enabled)

  -- It has as many shards as its settings say.
  pub shards_there : length world.shards ≡ settings.shards
  shards_there = behind_stands.shards ∙ shards_set_up functions settings script behind.settings_fit

  -- The content of a request's place owns its key, and the worker's clock takes its stamp.
  pub serves_there : (i : ℕ) (place : Place) (request : Request) → MayServe host world i place request
      → Owns longest_blob (get_or (shard_at world place.shard).contents place.seat vacant) request.key
      × IsOpenAt (worker_at host world i).clock (get_or (shard_at world place.shard).contents place.seat vacant)
  serves_there i place request may =
      let ready = behind_stands.ready (serves i place request) may in
      let seats = (shard_at world place.shard).contents in (
        owns_longer (longest_of settings.header) longest_blob (longest_fits settings.header) (get_or seats place.seat vacant) request.key
            (seat_serves (longest_of settings.header) functions.digest seats ready.mirrored.mirrors place.seat request
            (subst (λ (wide : Bool). request.key < 2 ^ key_bits wide) (sym (tree_there functions settings place.shard seats ready.mirrored))
            (next_in_range functions settings script behind.keys _ i may.due.phase request may.due.next)) may.owns).own,
        open_at (worker_at host world i).clock (get_or seats place.seat vacant) ready.open_epochs,
      )
    where
      open_at : (clock : Reading) (content : Content) → AllByRecursion (IsOpenElement host clock) (waiting (pending content)) → IsOpenAt clock content
      open_at clock (cold shard) all = all.0.1
      open_at clock (hot found) all = all.0.1
      open_at clock vacant all = tt

  -- The seats of a shard that is ready to be moved can be taken in.
  can_take : (i s : ℕ) → IsReadyToMove (PlacesMirror functions settings) host world i s
      → CanTakeSeats functions.digest (worker_at host world i).clock (shard_at world s).contents
  can_take i s is = record {
    mirrors = seats_longer (longest_of settings.header) longest_blob (longest_fits settings.header) functions.digest (shard_at world s).contents is.ready.mirrored.mirrors;
    open_epochs = all-open (worker_at host world i).clock is.epoch past is.turned _ is.ready.stamped;
  }
    where
      -- what waits at the first place is of the first epoch or of a later one
      front_epoch : (contents : List Content) → (mirrors : SeatsMirror (longest_of settings.header) functions.digest contents)
          → AllByRecursion (IsStamped host is.epoch) (waiting_at contents) → (front_of contents).epoch ≡ is.epoch
      front_epoch contents mirrors =
          subst (λ (cs : List Content). AllByRecursion (IsStamped host is.epoch) (waiting_at cs) → (front_of cs).epoch ≡ is.epoch) (sym mirrors.is) (λ all. all.0.1)

      past : (worker_at host world i).clock.first < (worker_at host world i).clock.at.epoch
      past = omega (
        arith,
        is.turned,
        is.ready.is_clock.first,
        is.ready.mirrored.from_first,
        front_epoch (shard_at world s).contents is.ready.mirrored.mirrors is.ready.stamped,
      )

      opened : (clock : Reading) (epoch : ℕ) → clock.first < clock.at.epoch → clock.at.epoch ≡ suc epoch → IsTrue (is_open clock epoch)
      opened clock epoch past next =
          or_right (epoch == clock.at.epoch) (nat_lt clock.first clock.at.epoch && epoch + 1 == clock.at.epoch)
          (and_from (nat_lt clock.first clock.at.epoch) (epoch + 1 == clock.at.epoch) (lt-ltb clock.first clock.at.epoch past)
          (eq-eqb (epoch + 1) clock.at.epoch (omega (arith, next))))

      all-open : (clock : Reading) (epoch : ℕ) → clock.first < clock.at.epoch → clock.at.epoch ≡ suc epoch → (elements : List Element)
          → AllByRecursion (IsStamped host epoch) elements → AllByRecursion (λ element. IsTrue (is_open clock element.stamp.epoch)) elements
      all-open clock epoch past next [] all = tt
      all-open clock epoch past next (element ∷ elements) all =
          (subst (λ (e : ℕ). IsTrue (is_open clock e)) (sym all.0.1) (opened clock epoch past next), all-open clock epoch past next elements all.1)

  pub moves_there : (i s : ℕ) → MayMove host world i s → CanTakeSeats functions.digest (worker_at host world i).clock (shard_at world s).contents
  moves_there i s may = can_take i s (behind_stands.ready (moves i s) may)

  pub scans_there : (i : ℕ) (place : Place) → MayScan host world i place
      → CanTakeSeats functions.digest (worker_at host world i).clock (shard_at world place.shard).contents
  scans_there i place may = can_take i place.shard (behind_stands.ready (scans i place) may)

-- The same where logs were handed out.
module _ (functions : DigestFunctions) (settings : Settings) (script : List (List Task)) (digests : GivesDigests functions.digest) (logs : List (List Command))
    (world : World Content) (behind : IsBehindSetup functions settings script (with_logs logs world)) where
  abbrev shipped : Host Content Request
  shipped = shipped_host functions settings script

  pub serves_with : (i : ℕ) (place : Place) (request : Request) → MayServe shipped world i place request
      → Owns longest_blob (get_or (shard_at world place.shard).contents place.seat vacant) request.key
      × IsOpenAt (worker_at shipped world i).clock (get_or (shard_at world place.shard).contents place.seat vacant)
  serves_with i place request may =
      let content = get_or (shard_at world place.shard).contents place.seat vacant in
      subst (λ (clock : Reading). Owns longest_blob content request.key × IsOpenAt clock content)
      (clock_with shipped logs world i)
      (serves_there functions settings script digests (with_logs logs world) behind i place request
      (enabled_with shipped logs world (serves i place request) may))

  pub moves_with : (i s : ℕ) → MayMove shipped world i s
      → CanTakeSeats functions.digest (worker_at shipped world i).clock (shard_at world s).contents
  moves_with i s may =
      subst (λ (clock : Reading). CanTakeSeats functions.digest clock (shard_at world s).contents) (clock_with shipped logs world i)
      (moves_there functions settings script digests (with_logs logs world) behind i s
      (enabled_with shipped logs world (moves i s) may))

  pub scans_with : (i : ℕ) (place : Place) → MayScan shipped world i place
      → CanTakeSeats functions.digest (worker_at shipped world i).clock (shard_at world place.shard).contents
  scans_with i place may =
      subst (λ (clock : Reading). CanTakeSeats functions.digest clock (shard_at world place.shard).contents) (clock_with shipped logs world i)
      (scans_there functions settings script digests (with_logs logs world) behind i place
      (enabled_with shipped logs world (scans i place) may))

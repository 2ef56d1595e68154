-- What the code reads and writes of a phase, in the machine's words.
use Rattle.std.proofs.Common.{◌≡◌, ℕ, zero, suc, ◌+◌, ◌-◌, ◌^◌, ◌<◌, ◌≤◌, ◌==◌, Bool, true, false, List, [], ◌∷◌, ◌++◌, map, replicate, length, get_or, Option, None, Result, Ok, if◌then◌else◌, refl, sym, ◌∙◌, ap, subst, All, arith}
use Rattle.std.specs.List.{AllByRecursion}
use Rattle.std.proofs.Math.ListN.{get_or-map as get_or-mapped}
use Rattle.std.proofs.lemmas.List.{get_or-map, length-map, length-replicate}
use Rattle.tree_keys.specs.Path.{key_bits}
use Rattle.log_codec.specs.declared.command.Command.{Command}
use Rattle.record_hash.specs.Functions.{DigestFunctions}
use Rattle.lamport_clocks.specs.declared.header.Header.{Header}
use Rattle.record_text.specs.declared.request.Request.{Request}
use Rattle.record_text.specs.Longest.{longest_of}
use Rattle.record_text.specs.Value.{IsBlob}
use Rattle.record_text.specs.Tree.{wide_of}
use Rattle.script_text.specs.declared.task.Task.{Task}
use Rattle.stamp_order.proofs.InOrderLaws.{every-append, every-weaker}
use Rattle.atomic_table.specs.Seated.{TableId}
use Rattle.host_core.specs.Host.{Host}
use Rattle.host_core.specs.World.{Seats, Worker, World, fresh, worker_at, set_up}
use Rattle.host_core.specs.WorldEvent.{AreEnabled, run_events}
use Rattle.host_core.proofs.EventLaws.{enabled-append, run-append}
use Rattle.host_shard.specs.declared.content.Content as content
use Rattle.host_shard.specs.Content.{Content, vacant}
use Rattle.host_shard.specs.Shown.{shown_content}
use Rattle.host_epochs.specs.declared.hand.Hand.{Hand}
use Rattle.host_epochs.specs.Calls.{AreAll, IsNew}
use Rattle.host_epochs.specs.Hands as hands
use Rattle.host_epochs.specs.Round as rounds
use Rattle.host_epochs.specs.Terms as epochs
use Rattle.host_world.specs.declared.fault.ClockEnd.{ClockEnd}
use Rattle.shipped_host.specs.declared.settings.Settings.{Settings}
use Rattle.host_world.specs.declared.worker.Worker as code
use Rattle.host_world.specs.declared.world.World as world
use Rattle.shipped_host.specs.Ranges.{AreInRange, HaveShortValues}
use Rattle.host_world.specs.Behind.{AreOfOneHost, IsBehindSetup, StandsWith, host_of, with_logs}
use Rattle.host_world.specs.Lending.{all_contents, filled}
use Rattle.host_world.specs.Shown.{shown_world, digests_of, requests_of}
use Rattle.shipped_host.specs.ShippedHost.{turn_of, shipped_host}
use Rattle.host_world.specs.Workers.{shown_worker}
use Rattle.host_serving.specs.Leading.{Leads}
use Rattle.host_serving.specs.Standing.{turns_of, BeginsRound, NoneStopped}
use Rattle.host_serving.proofs.BeforeLaws.{rolling_last}
use Rattle.host_serving.proofs.LeadingLaws.{leads-with}
use Rattle.table_order.specs.Rounds.{AreTermsOf}
use Rattle.round_workers.specs.declared.turn.Turn.{Turn}
use Rattle.round_workers.specs.Parts.{asked_in, HasDone, HaveTurns}
use Rattle.worker_threads.specs.Parts.{asked_of}
use Rattle.worker_threads.specs.Phase.{numbered, first_stopped, IsPlaceFor}
use Rattle.worker_threads.specs.Round.{asked_in_round, asked_up_to, begun_at, newest_of, noted_of, AreAskedSo, IsRoundServed, NotesEpochs}
use Rattle.worker_threads.specs.Participants.{AreToServe, HaveServed}
use Rattle.worker_threads.proofs.FilledLemmas.{filled_again, filled_count}

-- ---- what is asked

-- a request's key is in range, where those of the tasks are
asked_below : (limit i : ℕ) (tasks : List Task) → AllByRecursion (λ (t : Task). t.request.key < limit) tasks
    → AllByRecursion (λ (request : Request). request.key < limit) (asked_of i tasks)
asked_below limit i [] all = tt
asked_below limit i (task ∷ tasks) all = go (task.worker == i) (asked_below limit i tasks all.1)
  where
    go : (b : Bool) → AllByRecursion (λ (request : Request). request.key < limit) (asked_of i tasks)
        → AllByRecursion (λ (request : Request). request.key < limit) (if b then task.request ∷ asked_of i tasks else asked_of i tasks)
    go true rest = (all.0, rest)
    go false rest = rest

-- what is so of all that is asked is so of each turn
turn_has : (P : ℕ × Request → Type 0) (turns : List Turn) (k : ℕ) (d : Turn) → AllByRecursion P (asked_in turns) → k < length turns
    → P ((get_or turns k d).phase, (get_or turns k d).task.request)
turn_has P [] k d all there = absurd (omega (arith, there))
turn_has P (turn ∷ turns) zero d all there = all.0
turn_has P (turn ∷ turns) (suc k) d all there = turn_has P turns k d all.1 (omega (arith, there))

-- what is asked of a phase is of that, with keys in range
numbered_below : (limit phase : ℕ) (requests : List Request) → AllByRecursion (λ (request : Request). request.key < limit) requests
    → AllByRecursion (λ (turn : ℕ × Request). (turn.0 ≡ phase) × (turn.1.key < limit)) (numbered phase requests)
numbered_below limit phase [] all = tt
numbered_below limit phase (request ∷ requests) all = ((refl, all.0), numbered_below limit phase requests all.1)

keys_in : (header : Header) (script : List (List Task)) (phase : ℕ) → AreInRange header script
    → AllByRecursion (λ (t : Task). t.request.key < 2 ^ key_bits (wide_of header)) (get_or script phase [])
keys_in header [] phase all = tt
keys_in header (tasks ∷ script) zero all = all.0
keys_in header (tasks ∷ script) (suc phase) all = keys_in header script phase all.1

-- the values of a phase are short
pub values_in : (header : Header) (script : List (List Task)) (phase : ℕ) → HaveShortValues header script
    → AllByRecursion (λ (t : Task). IsBlob (longest_of header) t.request.value) (get_or script phase [])
values_in header [] phase all = tt
values_in header (tasks ∷ script) zero all = all.0
values_in header (tasks ∷ script) (suc phase) all = values_in header script phase all.1

-- the workers of a phase's tasks are among so many, where those of its turns are
pub workers_in : (functions : DigestFunctions) (settings : Settings) (script : List (List Task)) (phase count : ℕ)
    → AllByRecursion (λ turn. turn.0 < count) (turns_of (shipped_host functions settings script) phase)
    → AllByRecursion (λ (t : Task). t.worker < count) (get_or script phase [])
workers_in functions settings script phase count all =
    go (get_or script phase [])
    (subst (AllByRecursion (λ (turn : ℕ × Request). turn.0 < count)) (get_or-mapped (λ (some : List Task). map turn_of some) script phase []) all)
  where
    go : (tasks : List Task) → AllByRecursion (λ (turn : ℕ × Request). turn.0 < count) (map turn_of tasks) → AllByRecursion (λ (t : Task). t.worker < count) tasks
    go [] below = tt
    go (task ∷ tasks) below = (below.0, go tasks below.1)

-- what so many phases ask is of one of them, with keys in range
up_to_below : (limit first i count : ℕ) (script : List (List Task)) → ((phase : ℕ) → AllByRecursion (λ (t : Task). t.request.key < limit) (get_or script phase []))
    → AllByRecursion (λ (turn : ℕ × Request). (turn.0 < count) × (turn.1.key < limit)) (asked_up_to script first i count)
up_to_below limit first i zero script keys = tt
up_to_below limit first i (suc count) script keys =
    every-append (λ (turn : ℕ × Request). (turn.0 < suc count) × (turn.1.key < limit)) (asked_up_to script first i count)
    (numbered count (asked_of i (get_or script (first + count) [])))
    (every-weaker (λ (turn : ℕ × Request). (turn.0 < count) × (turn.1.key < limit)) (λ (turn : ℕ × Request). (turn.0 < suc count) × (turn.1.key < limit))
    (λ turn is. (let less = is.0 in omega (arith, less), is.1)) (asked_up_to script first i count) (up_to_below limit first i count script keys))
    (every-weaker (λ (turn : ℕ × Request). (turn.0 ≡ count) × (turn.1.key < limit)) (λ (turn : ℕ × Request). (turn.0 < suc count) × (turn.1.key < limit))
    (λ turn is. (let same = is.0 in omega (arith, same), is.1)) (numbered count (asked_of i (get_or script (first + count) [])))
    (numbered_below limit count (asked_of i (get_or script (first + count) [])) (asked_below limit i (get_or script (first + count) []) (keys (first + count)))))

-- The places of the turns are those of their keys, and their phase is one of the round.
pub have_turns : (host : Host Content Request) (world : World Content) (script : List (List Task)) (first count : ℕ) (terms : epochs.Terms) (turns : List (List Turn))
    → AreInRange host.header script → length turns ≡ terms.workers → count ≤ suc terms.more → AreAskedSo host world (λ i. asked_up_to script first i count) turns
    → ((place : ℕ) (request : Request) → request.key < 2 ^ key_bits (wide_of host.header) → IsPlaceFor host world request place → epochs.IsPlaceOf terms place request.key)
    → HaveTurns terms turns
have_turns host world script first count terms turns keys many within are owned = record {
  many = many;
  places = λ i d there k turn below.
      let own = get_or turns i d in
      let asked = are i d there in
      let limit = 2 ^ key_bits (wide_of host.header) in
      let has = turn_has (λ (t : ℕ × Request). (t.0 < count) × (t.1.key < limit)) own k turn
      (subst (AllByRecursion (λ (t : ℕ × Request). (t.0 < count) × (t.1.key < limit))) (sym asked.requests)
      (up_to_below limit first i count script (λ phase. keys_in host.header script phase keys))) below in
      record {
        at = owned (get_or own k turn).place (get_or own k turn).task.request has.1 (asked.places k turn below);
        phase = let less = has.0 in omega (arith, less, within);
      };
}

-- ---- a world that lends

module _ (world : World Content) where
  -- The world with its places and workers lent, and with others' in their stead.
  abbrev pub lending : World Content → World Content
  lending w = record w { shards = filled w.shards (replicate (length (all_contents w.shards)) vacant) }

  vacant_count : length (replicate (length (all_contents world.shards)) vacant) ≡ length (all_contents world.shards)
  vacant_count = length-replicate (length (all_contents world.shards)) vacant

  pub lent_count : (lent left : World Content) → lent ≡ lending world → left ≡ record lent { workers = [] }
      → length (all_contents left.shards) ≡ length (all_contents world.shards)
  lent_count lent left one two =
      ap (λ (w : World Content). length (all_contents w.shards)) (two ∙ ap (λ (w : World Content). record w { workers = [] }) one)
      ∙ filled_count world.shards (replicate (length (all_contents world.shards)) vacant) vacant_count

  module _ (lent left taken noted later : World Content) (after : List Content) (workers : List Worker) (one : lent ≡ lending world) (two : left ≡ record lent { workers = [] })
      (three : taken ≡ record left { shards = filled left.shards after })
      (kept : noted ≡ record taken { newest = noted.newest; scanned = noted.scanned }) (four : later ≡ record noted { workers = workers }) where
    pub taken_is : taken ≡ record world { shards = filled world.shards after; workers = [] }
    taken_is =
        three
        ∙ ap (λ (w : World Content). record w { shards = filled w.shards after }) two
        ∙ ap (λ (w : World Content). record w { shards = filled w.shards after; workers = [] }) one
        ∙ ap (λ (shards : List (Seats Content)). record world { shards = shards; workers = [] })
        (filled_again world.shards (replicate (length (all_contents world.shards)) vacant) after vacant_count)

    pub later_is : later ≡ record world { shards = filled world.shards after; workers = workers; newest = later.newest; scanned = later.scanned }
    later_is =
        four
        ∙ ap (λ (w : World Content). record w { workers = workers }) kept
        ∙ ap (λ (w : World Content). record w { workers = workers; newest = noted.newest; scanned = noted.scanned }) taken_is
        ∙ (λ k. record world {
          shards = filled world.shards after;
          workers = workers;
          newest = sym (ap (λ (w : World Content). w.newest) four) k;
          scanned = sym (ap (λ (w : World Content). w.scanned) four) k;
        })

-- what stays is noted as it was
pub noted_plain : (taken noted : World Content) → noted ≡ taken → noted ≡ record taken { newest = noted.newest; scanned = noted.scanned }
noted_plain taken noted same =
    same ∙ (λ k. record taken { newest = sym (ap (λ (w : World Content). w.newest) same) k; scanned = sym (ap (λ (w : World Content). w.scanned) same) k })

pub noted_rolling : (taken noted : World Content) (newest : ℕ) (scanned : List ℕ) → noted ≡ record taken { newest = newest; scanned = scanned }
    → noted ≡ record taken { newest = noted.newest; scanned = noted.scanned }
noted_rolling taken noted newest scanned same =
    same ∙ (λ k. record taken { newest = sym (ap (λ (w : World Content). w.newest) same) k; scanned = sym (ap (λ (w : World Content). w.scanned) same) k })

-- ---- the workers

-- the machine's worker of a number, where the code has one
shown_at : (workers : List code.Worker) (shown : List Worker) → map shown_worker workers ≡ shown → (i : ℕ) (d : code.Worker) (e : Worker) → i < length workers
    → get_or shown i e ≡ shown_worker (get_or workers i d)
shown_at workers shown same i d e there = ap (λ (ws : List Worker). get_or ws i e) (sym same) ∙ get_or-map shown_worker workers i d e there

shown_count : (workers : List code.Worker) (shown : List Worker) → map shown_worker workers ≡ shown → length workers ≡ length shown
shown_count workers shown same = sym (length-map workers shown_worker) ∙ ap (λ (ws : List Worker). length ws) same

-- what each of the machine's workers has, each of the code's shows
shown_all : (P : Worker → Type 0) (workers : List code.Worker) (shown : List Worker) (fallback : Worker) → map shown_worker workers ≡ shown
    → ((i : ℕ) → i < length shown → P (get_or shown i fallback)) → All (λ (w : code.Worker). P (shown_worker w)) workers
shown_all P workers shown fallback same each i d there =
    subst P (shown_at workers shown same i d fallback there) (each i (let many = shown_count workers shown same in omega (arith, there, many)))

-- a worker of a list that isn't empty
some_of : (workers : List code.Worker) (i : ℕ) → i < length workers → code.Worker
some_of [] i there = absurd (omega (arith, there))
some_of (worker ∷ workers) i there = worker

-- ---- ready to serve

-- The workers are to serve, where their clocks are of the table, in the epoch of its making.
pub to_serve : (host : Host Content Request) (world : World Content) (terms : epochs.Terms) (table : TableId) (workers : List code.Worker) (hs : List Hand) (number : ℕ)
    → map shown_worker workers ≡ world.workers → terms.workers ≡ number → length world.workers ≡ number → AreAll table number hs → All IsNew hs
    → NoneStopped host world
    → ((i : ℕ) → i < length world.workers → epochs.IsClockOf terms (worker_at host world i).clock × ((worker_at host world i).clock.at.epoch ≡ epochs.first_epoch terms))
    → AreToServe terms table workers hs
to_serve host world terms table workers hs number same told count all new running clocks = record {
  all = subst (λ (n : ℕ). AreAll table n hs) (sym told) all;
  count = shown_count workers world.workers same ∙ count ∙ sym told;
  new = new;
  running = shown_all (λ w. w.stopped ≡ false) workers world.workers (fresh host.header) same running;
  clocks = shown_all (λ w. epochs.IsClockOf terms w.clock) workers world.workers (fresh host.header) same (λ i there. (clocks i there).0);
  epochs = shown_all (λ w. w.clock.at.epoch ≡ epochs.first_epoch terms) workers world.workers (fresh host.header) same (λ i there. (clocks i there).1);
}

-- ---- served

-- What was served at the table is a round served at once.
pub served_at_once : (functions : DigestFunctions) (settings : Settings) (script : List (List Task)) (world later : World Content) (terms : epochs.Terms) (table : TableId)
    (after : List content.Content) (workers new : List code.Worker) (hs : List Hand) (turns : List (List Turn))
    → BeginsRound (shipped_host functions settings script) world → NoneStopped (shipped_host functions settings script) world
    → AreTermsOf (shipped_host functions settings script) settings.absent world terms
    → epochs.first_epoch terms ≡ begun_at (shipped_host functions settings script) world
    → rounds.IsRound terms after (map hands.row_of hs)
    → map shown_worker workers ≡ world.workers → length turns ≡ length workers
    → AreAskedSo (shipped_host functions settings script) world (asked_in_round (shipped_host functions settings script) script world) turns
    → HaveServed terms table turns workers new hs → NotesEpochs (shipped_host functions settings script) world later
    → later ≡ record world { shards = filled world.shards (map shown_content after); workers = map shown_worker new; newest = later.newest; scanned = later.scanned }
    → IsRoundServed (shipped_host functions settings script) settings.absent script world later terms after (map hands.row_of hs)
served_at_once functions settings script world later terms table after workers new hs turns begins running made epoch closed same many are served notes is =
    let host = shipped_host functions settings script in
    let rows = map hands.row_of hs in
    let new_are : map shown_worker new ≡ later.workers = sym (ap (λ (w : World Content). w.workers) is) in
    let count = shown_count workers world.workers same in
    record {
      begins = begins;
      running = running;
      made = made;
      epoch = epoch;
      closed = closed;
      count = sym (shown_count new later.workers new_are) ∙ served.count ∙ count;
      parts = λ i there.
          let within : i < length workers = omega (arith, there, count) in
          let some = some_of workers i within in
          let old_is = shown_at workers world.workers same i some (fresh settings.header) within in
          let new_is = shown_at new later.workers new_are i some (fresh settings.header) (omega (arith, within, served.count)) in
          let part = subst (λ (asks : List (ℕ × Request)). HasDone terms asks (rounds.row_at rows i)
          (shown_worker (get_or workers i some)) (shown_worker (get_or new i some)))
          (are i [] (omega (arith, within, many))).requests (served.parts i some within) in
          let asks = asked_in_round host script world i in
          subst (λ (w : Worker). HasDone terms asks (rounds.row_at rows i) (worker_at host world i) w) (sym new_is)
          (subst (λ (w : Worker). HasDone terms asks (rounds.row_at rows i) w (shown_worker (get_or new i some))) (sym old_is) part);
      notes = notes;
      is = is ∙ ap (λ (ws : List Worker). record world {
        shards = filled world.shards (map shown_content after);
        workers = ws;
        newest = later.newest;
        scanned = later.scanned;
      }) new_are;
    }

-- ---- what goes on

-- A way from world to world leaves a world behind its setup, with the logs that were handed out.
pub goes_on : {D : Type 0} (functions : D → DigestFunctions) (old new : world.World D) (end : Option ClockEnd) → AreOfOneHost old new
    → length (shown_world new).workers ≡ length (shown_world old).workers
    → Leads (host_of (functions (digests_of old)) old) (shown_world old) (shown_world new) end
    → (logs : List (List Command)) → StandsWith (functions (digests_of old)) old logs → StandsWith (functions (digests_of new)) new logs
goes_on {D} functions old new end same count way logs stands = record {
  each = stands.each ∙ sym count;
  behind =
      subst (λ (d : D). IsBehindSetup (functions d) new.settings (requests_of new) (with_logs logs (shown_world new))) (sym same.digests)
      (subst (λ (settings : Settings). IsBehindSetup (functions (digests_of old)) settings (requests_of new) (with_logs logs (shown_world new))) (sym same.settings)
      (subst (λ (script : List (List Task)). IsBehindSetup (functions (digests_of old)) old.settings script (with_logs logs (shown_world new))) (sym same.requests)
      (record {
        settings_fit = stands.behind.settings_fit;
        counters = stands.behind.counters;
        keys = stands.behind.keys;
        values = stands.behind.values;
        events = stands.behind.events ++ led.events;
        enabled = enabled-append host (set_up host) stands.behind.events led.events stands.behind.enabled
            (subst (λ (w : World Content). AreEnabled host w led.events) stands.behind.is led.enabled);
        is = led.is ∙ ap (λ (w : World Content). run_events host w led.events) stands.behind.is
            ∙ sym (run-append host (set_up host) stands.behind.events led.events);
      })));
}
  where
    host : Host Content Request
    host = host_of (functions (digests_of old)) old

    led : Leads host (with_logs logs (shown_world old)) (with_logs logs (shown_world new)) end
    led = leads-with host logs (shown_world old) (shown_world new) end way

-- worlds of one host, one after another
pub hosts_then : {D : Type 0} (a b d : world.World D) → AreOfOneHost a b → AreOfOneHost b d → AreOfOneHost a d
hosts_then a b d first second = record {
  settings = second.settings ∙ first.settings;
  requests = second.requests ∙ first.requests;
  digests = second.digests ∙ first.digests;
}

-- what is answered
pub no_end : {X E : Type 0} (end : Option X) → ◌≡◌ {A = Result (Option X) E} (Ok end) (Ok None) → end ≡ None
no_end end is = cc

-- ---- the phases of a round

pub first_is : (rolling r : Bool) (phase at first : ℕ) → first ≡ (if r then 0 else at) → r ≡ rolling → at ≡ phase → first ≡ (if rolling then 0 else phase)
first_is rolling r phase at first is same here = is ∙ (λ k. if same k then 0 else here k)

pub first_within : (rolling : Bool) (phase : ℕ) → (if rolling then 0 else phase) ≤ phase
first_within true phase = omega arith
first_within false phase = omega arith

pub phases_are : (rolling r : Bool) (phase count most phases : ℕ) → phases ≡ (if r then count else 1) → r ≡ rolling → count ≡ most → phase < most → (rolling ≡ true → most ≤ suc phase)
    → phases ≡ suc (phase - (if rolling then 0 else phase))
phases_are rolling r phase count most phases is same seen there last = go rolling (is ∙ ap (λ (b : Bool). if b then count else 1) same) last
  where
    go : (b : Bool) → phases ≡ (if b then count else 1) → (b ≡ true → most ≤ suc phase) → phases ≡ suc (phase - (if b then 0 else phase))
    go true many end = let all = end refl in omega (arith, many, seen, there, all)
    go false one end = omega (arith, one)

pub phases_there : (rolling : Bool) (phase most : ℕ) → phase < most → (if rolling then 0 else phase) + suc (phase - (if rolling then 0 else phase)) ≤ most
phases_there true phase most there = omega (arith, there)
phases_there false phase most there = omega (arith, there)

-- only a rolling host's round has more than one
pub rolls : (rolling : Bool) (phase more : ℕ) → suc more ≡ suc (phase - (if rolling then 0 else phase)) → 0 < more → rolling ≡ true
rolls true phase more is some = refl
rolls false phase more is some = absurd (omega (arith, is, some))

-- The script of a rolling host ends with the world's phase.
pub last_phase : (functions : DigestFunctions) (settings : Settings) (script : List (List Task)) (logs : List (List Command)) (world : World Content)
    → IsBehindSetup functions settings script (with_logs logs world) → settings.rolling ≡ true → length script ≤ suc world.phase
last_phase functions settings script logs world behind rolling =
    let host = shipped_host functions settings script in
    let last = subst (λ (w : World Content). length host.script ≤ suc w.phase) (sym behind.is) (rolling_last host rolling behind.events) in
    let many = length-map script (λ (tasks : List Task). map turn_of tasks) in
    omega (arith, last, many)

-- ---- what was noted

-- What was noted behind a round, as the later world has it.
pub notes_are : (host : Host Content Request) (world taken noted later : World Content) (r : Bool) (first : ℕ) (workers : List Worker) (end : Option ClockEnd)
    → r ≡ host.rolling → first ≡ host.header.first → taken.newest ≡ world.newest → taken.scanned ≡ world.scanned
    → (r ≡ false → noted ≡ taken)
    → (r ≡ true → noted ≡ record taken { newest = newest_of first workers; scanned = replicate (length taken.scanned) (noted_of end first (newest_of first workers)) })
    → later.newest ≡ noted.newest → later.scanned ≡ noted.scanned → workers ≡ later.workers → end ≡ first_stopped 0 later.workers
    → NotesEpochs host world later
notes_are host world taken noted later r first workers end mode at newest scanned plain rolling later_newest later_scanned are ended = record {
  plain = λ is. (
    later_newest ∙ ap (λ (w : World Content). w.newest) (plain (mode ∙ is)) ∙ newest,
    later_scanned ∙ ap (λ (w : World Content). w.scanned) (plain (mode ∙ is)) ∙ scanned,
  );
  newest = λ is. raw is ∙ (λ k. newest_of (at k) (are k));
  scanned = λ is. later_scanned ∙ ap (λ (w : World Content). w.scanned) (rolling (mode ∙ is))
      ∙ (λ k. replicate (length (scanned k)) (noted_of (ended k) (at k) (sym (raw is) k)));
}
  where
    raw : host.rolling ≡ true → later.newest ≡ newest_of first workers
    raw is = later_newest ∙ ap (λ (w : World Content). w.newest) (rolling (mode ∙ is))

-- Logs that are worked out: what a host of two shards logs for small scripts.
use Rattle.std.specs.Prelude.{ℕ, Bool, true, false, List, [], ◌∷◌, ◌++◌, Option, Some, None}
use Rattle.tree_keys.specs.Path.{key_path, root_of}
use Rattle.lamport_clocks.specs.declared.stamp.Stamp.{Stamp}
use Rattle.lamport_clocks.specs.Header.{header_by_path}
use Rattle.record_hash.specs.Functions.{DigestFunctions}
use Rattle.record_text.specs.declared.request.Request.{Request}
use Rattle.record_text.specs.declared.value.Value.{Value}
use Rattle.record_text.specs.declared.value.Value.TheVariants as values
use Rattle.record_text.specs.Value.{empty_node}
use Rattle.log_codec.specs.declared.command.Command.{Command}
use Rattle.log_codec.specs.declared.command.Command.TheVariants.{AddM, EvictM, AddB, EvictB, EvictBM, Get, Put, NextEpoch}
use Rattle.merkle_records.specs.Merkle.{pointer_to}
use Rattle.host_core.specs.World.{Place, logs_of, set_up}
use Rattle.host_core.specs.WorldEvent.{WorldEvent, takes, serves, gives, advances, moves, AreEnabled, run_events}
use Rattle.script_text.specs.declared.task.Task.{Task}
use Rattle.host_world.specs.declared.fault.ClockEnd.{ClockEnd}
use Rattle.shipped_host.specs.declared.settings.Settings.{Settings}
use Rattle.host_world.specs.Ending.{end_of}
use Rattle.shipped_host.specs.ShippedHost.{shipped_host}

-- so many workers, whose counters end there, and two shards
abbrev pub two_shards : ℕ → ℕ → Settings
two_shards workers end = record { header = header_by_path workers 128 0 end; shards = 2; hot = None; absent = false; rolling = false }

-- where counters end at most
abbrev pub most : ℕ
most = 16777215

-- the root of the host's tree, and the frontiers of the two shards below it
abbrev pub root : List Bool
root = root_of false

abbrev pub left : List Bool
left = root ++ false ∷ []

abbrev pub right : List Bool
right = root ++ true ∷ []

abbrev pub stamp : ℕ → ℕ → Stamp
stamp epoch counter = record { epoch = epoch; counter = counter }

-- what worker 0 logs for the setup
abbrev pub setup_log : List Command
setup_log =
    AddM left (values.Node empty_node) root ∷ EvictBM left root (stamp 0 1)
    ∷ AddM right (values.Node empty_node) root ∷ EvictBM right root (stamp 0 2) ∷ []

-- the last close, as events
abbrev pub last_close : List (WorldEvent Request)
last_close = advances 0 ∷ moves 0 0 ∷ moves 0 1 ∷ advances 0 ∷ []

-- What is logged for an empty script.
abbrev pub empty_log : List Command
empty_log =
    setup_log ++ NextEpoch
    ∷ AddB left (values.Node empty_node) (stamp 0 1) 0 ∷ EvictB left (stamp 1 2)
    ∷ AddB right (values.Node empty_node) (stamp 0 2) 0 ∷ EvictB right (stamp 1 4) ∷ NextEpoch ∷ []

-- the host's logs behind its setup and these events
abbrev pub logs_behind : DigestFunctions → Settings → List (List Task) → List (WorldEvent Request) → List (List Command)
logs_behind functions settings script events =
    logs_of (run_events (shipped_host functions settings script) (set_up (shipped_host functions settings script)) events)

-- ---- a put and a get of one key

abbrev pub five : List Bool
five = key_path false 5

abbrev pub put_five : Option (List ℕ) → Request
put_five value = record { put = true; key = 5; value = value }

abbrev pub get_five : Request
get_five = record { put = false; key = 5; value = None }

-- the place of the shard with the key
abbrev pub place_five : Place
place_five = record { shard = 0; seat = 0 }

-- a worker takes the place, serves the request and gives the place back
abbrev pub serving : ℕ → Request → List (WorldEvent Request)
serving i request = takes i place_five ∷ serves i place_five request ∷ gives i place_five ∷ []

-- a value of bytes
abbrev pub bytes : List ℕ → Value
bytes of = values.Blob (Some of)

-- the shard's frontier once the key has this value
abbrev pub frontier_of : DigestFunctions → Value → Value
frontier_of functions value = values.Node (record { side0 = Some (pointer_to functions.digest five value); side1 = None })

-- What one request logs at a shard, where the frontier waits with this value, counter and verifier and the key has this value.
abbrev pub request_at : List Bool → List Bool → Value → ℕ → ℕ → Value → Command → ℕ → List Command
request_at at key frontier counter verifier found command last =
    AddB at frontier (stamp 0 counter) verifier ∷ AddM key found at ∷ command ∷ EvictM key at ∷ EvictB at (stamp 0 last) ∷ []

-- the same at the left shard, of the key 5
abbrev pub request_log : Value → ℕ → ℕ → Value → Command → ℕ → List Command
request_log frontier counter verifier found command last = request_at left five frontier counter verifier found command last

-- what moving the left shard logs, and the right one, first or second
abbrev pub left_log : Value → ℕ → ℕ → List Command
left_log frontier counter verifier = AddB left frontier (stamp 0 counter) verifier ∷ EvictB left (stamp 1 2) ∷ []

abbrev pub right_log : ℕ → List Command
right_log last = AddB right (values.Node empty_node) (stamp 0 2) 0 ∷ EvictB right (stamp 1 last) ∷ []

-- a put and a get by one worker, and the last close
abbrev pub five_events : List (WorldEvent Request)
five_events = serving 0 (put_five (Some (97 ∷ 98 ∷ []))) ++ (serving 0 get_five ++ last_close)

abbrev pub value_ab : Value
value_ab = bytes (97 ∷ 98 ∷ [])

-- What is logged for them.
abbrev pub five_log : DigestFunctions → List Command
five_log functions =
    setup_log
    ++ (request_log (values.Node empty_node) 1 0 (values.Blob None) (Put five value_ab) 4
    ++ (request_log (frontier_of functions value_ab) 4 0 value_ab (Get five value_ab) 6
    ++ NextEpoch ∷ (left_log (frontier_of functions value_ab) 6 0 ++ (right_log 4 ++ NextEpoch ∷ []))))

-- What is logged for them where counters end at 4: the get is not served.
abbrev pub stopped_log : DigestFunctions → List Command
stopped_log functions =
    setup_log
    ++ (request_log (values.Node empty_node) 1 0 (values.Blob None) (Put five value_ab) 4
    ++ NextEpoch ∷ (left_log (frontier_of functions value_ab) 4 0 ++ (right_log 4 ++ NextEpoch ∷ [])))

-- ---- two workers at one key

-- the last close of two workers
abbrev pub close_of_two : List (WorldEvent Request)
close_of_two = advances 0 ∷ advances 1 ∷ moves 0 0 ∷ moves 1 1 ∷ advances 0 ∷ advances 1 ∷ []

abbrev pub value_a : Value
value_a = bytes (97 ∷ [])

abbrev pub value_b : Value
value_b = bytes (98 ∷ [])

abbrev pub put_a : Request
put_a = put_five (Some (97 ∷ []))

abbrev pub put_b : Request
put_b = put_five (Some (98 ∷ []))

-- the last close in their logs, the first of which moves the left shard
abbrev pub first_close : Value → ℕ → ℕ → List Command
first_close frontier counter verifier = NextEpoch ∷ (left_log frontier counter verifier ++ NextEpoch ∷ [])

abbrev pub second_close : List Command
second_close = NextEpoch ∷ (right_log 2 ++ NextEpoch ∷ [])

-- Worker 0 puts, then worker 1, then worker 0 gets.
abbrev pub between_events : List (WorldEvent Request)
between_events = serving 0 put_a ++ (serving 1 put_b ++ (serving 0 get_five ++ close_of_two))

abbrev pub between_logs : DigestFunctions → List (List Command)
between_logs functions =
    (setup_log
    ++ (request_log (values.Node empty_node) 1 0 (values.Blob None) (Put five value_a) 4
    ++ (request_log (frontier_of functions value_b) 6 1 value_b (Get five value_b) 8
    ++ first_close (frontier_of functions value_b) 8 0)))
    ∷ (request_log (frontier_of functions value_a) 4 0 value_a (Put five value_b) 6 ++ second_close)
    ∷ []

-- Worker 1 puts first.
abbrev pub before_events : List (WorldEvent Request)
before_events = serving 1 put_b ++ (serving 0 put_a ++ (serving 0 get_five ++ close_of_two))

abbrev pub before_logs : DigestFunctions → List (List Command)
before_logs functions =
    (setup_log
    ++ (request_log (frontier_of functions value_b) 3 1 value_b (Put five value_a) 5
    ++ (request_log (frontier_of functions value_a) 5 0 value_a (Get five value_a) 7
    ++ first_close (frontier_of functions value_a) 7 0)))
    ∷ (request_log (values.Node empty_node) 1 0 (values.Blob None) (Put five value_b) 3 ++ second_close)
    ∷ []

-- Worker 1 puts last.
abbrev pub behind_events : List (WorldEvent Request)
behind_events = serving 0 put_a ++ (serving 0 get_five ++ (serving 1 put_b ++ close_of_two))

abbrev pub behind_logs : DigestFunctions → List (List Command)
behind_logs functions =
    (setup_log
    ++ (request_log (values.Node empty_node) 1 0 (values.Blob None) (Put five value_a) 4
    ++ (request_log (frontier_of functions value_a) 4 0 value_a (Get five value_a) 6
    ++ first_close (frontier_of functions value_b) 8 1)))
    ∷ (request_log (frontier_of functions value_a) 6 0 value_a (Put five value_b) 8 ++ second_close)
    ∷ []

-- The script: worker 0 puts and then gets, and worker 1 puts.
abbrev pub two_at_five : List (List Task)
two_at_five =
    (record { worker = 0; request = put_a } ∷ record { worker = 1; request = put_b } ∷ record { worker = 0; request = get_five } ∷ []) ∷ []

-- each of these events is enabled behind the setup and those before it
abbrev pub AreEnabledBehind : DigestFunctions → Settings → List (List Task) → List (WorldEvent Request) → Type 0
AreEnabledBehind functions settings script events =
    AreEnabled (shipped_host functions settings script) (set_up (shipped_host functions settings script)) events

-- ---- clocks that end

-- where a clock ends in this event, behind the setup and those events
abbrev pub end_behind : DigestFunctions → Settings → List (List Task) → List (WorldEvent Request) → WorldEvent Request → Option ClockEnd
end_behind functions settings script events event =
    end_of (shipped_host functions settings script)
    (run_events (shipped_host functions settings script) (set_up (shipped_host functions settings script)) events) event

-- worker 0's clock ended here
abbrev pub ended_at : ℕ → ℕ → Option ClockEnd
ended_at epoch counter = Some (record { worker = 0; at = stamp epoch counter })

-- one worker and two shards, where the first epoch is the last that there is
abbrev pub in_last_epoch : Settings
in_last_epoch = record { header = header_by_path 1 128 4294967295 most; shards = 2; hot = None; absent = false; rolling = false }

-- More logs that are worked out: workers at two shards, a key that is deleted, keys that part at their last bit, four shards.
use Rattle.std.specs.Prelude.{ℕ, ◌+◌, Bool, true, false, List, [], ◌∷◌, ◌++◌, replicate, Option, Some, None}
use Rattle.tree_keys.specs.Path.{key_path}
use Rattle.lamport_clocks.specs.Header.{header_by_path}
use Rattle.record_hash.specs.Functions.{DigestFunctions}
use Rattle.record_text.specs.declared.request.Request.{Request}
use Rattle.record_text.specs.declared.value.Value.{Value}
use Rattle.record_text.specs.declared.value.Value.TheVariants as values
use Rattle.record_text.specs.Value.{empty_node}
use Rattle.log_codec.specs.declared.command.Command.{Command}
use Rattle.log_codec.specs.declared.command.Command.TheVariants.{AddM, EvictM, AddB, EvictB, EvictBM, Get, Put, NextEpoch}
use Rattle.merkle_records.specs.Merkle.{pointer_to}
use Rattle.host_core.specs.World.{Place}
use Rattle.host_core.specs.WorldEvent.{WorldEvent, takes, serves, gives, advances, moves}
use Rattle.shipped_host.specs.declared.settings.Settings.{Settings}
use Rattle.host_world.specs.Worked.{root, left, right, stamp, most, bytes, five, put_five, get_five, setup_log, frontier_of, request_at, request_log, left_log, right_log, serving, last_close, close_of_two, first_close, value_a, value_b}

-- no value
abbrev pub nothing : Value
nothing = values.Blob None

-- a node with these two records below it
abbrev pub node_of : DigestFunctions → List Bool → Value → List Bool → Value → Value
node_of functions path0 value0 path1 value1 = values.Node (record {
  side0 = Some (pointer_to functions.digest path0 value0);
  side1 = Some (pointer_to functions.digest path1 value1);
})

-- a node with one record, below its side 0 or its side 1
abbrev pub node_0 : DigestFunctions → List Bool → Value → Value
node_0 functions path value = values.Node (record { side0 = Some (pointer_to functions.digest path value); side1 = None })

abbrev pub node_1 : DigestFunctions → List Bool → Value → Value
node_1 functions path value = values.Node (record { side0 = None; side1 = Some (pointer_to functions.digest path value) })

-- the place of a shard
abbrev pub place_at : ℕ → Place
place_at shard = record { shard = shard; seat = 0 }

-- a worker takes a shard's place, serves the request and gives the place back
abbrev pub serving_at : ℕ → ℕ → Request → List (WorldEvent Request)
serving_at i shard request = takes i (place_at shard) ∷ serves i (place_at shard) request ∷ gives i (place_at shard) ∷ []

abbrev pub put : ℕ → Option (List ℕ) → Request
put key value = record { put = true; key = key; value = value }

abbrev pub get : ℕ → Request
get key = record { put = false; key = key; value = None }

-- ---- two workers, each at a shard of its own

abbrev pub seven : List Bool
seven = key_path false 7

-- the first key of the right shard
abbrev pub middle : ℕ
middle = 9223372036854775808

abbrev pub middle_path : List Bool
middle_path = key_path false middle

-- Worker 1 puts at the right shard, and worker 0 asks for a key of the left one that has no record.
abbrev pub apart_events : List (WorldEvent Request)
apart_events = serving_at 1 1 (put middle (Some (1 ∷ []))) ++ (serving_at 0 0 (get 7) ++ close_of_two)

abbrev pub apart_logs : DigestFunctions → List (List Command)
apart_logs functions =
    (setup_log
    ++ (request_at left seven (values.Node empty_node) 1 0 nothing (Get seven nothing) 4
    ++ first_close (node_0 functions seven nothing) 4 0))
    ∷ (request_at right middle_path (values.Node empty_node) 2 0 nothing (Put middle_path (bytes (1 ∷ []))) 4
    ++ NextEpoch ∷ AddB right (node_0 functions middle_path (bytes (1 ∷ []))) (stamp 0 4) 1 ∷ EvictB right (stamp 1 2) ∷ NextEpoch ∷ [])
    ∷ []

-- ---- a key that is deleted

-- The key 5 gets the value of no bytes, is asked for, is deleted, and is asked for again.
abbrev pub deleted_events : List (WorldEvent Request)
deleted_events =
    serving 0 (put_five (Some [])) ++ (serving 0 get_five ++ (serving 0 (put_five None) ++ (serving 0 get_five ++ last_close)))

abbrev pub deleted_log : DigestFunctions → List Command
deleted_log functions =
    setup_log
    ++ (request_log (values.Node empty_node) 1 0 nothing (Put five (bytes [])) 4
    ++ (request_log (frontier_of functions (bytes [])) 4 0 (bytes []) (Get five (bytes [])) 6
    ++ (request_log (frontier_of functions (bytes [])) 6 0 (bytes []) (Put five nothing) 8
    ++ (request_log (frontier_of functions nothing) 8 0 nothing (Get five nothing) 10
    ++ NextEpoch ∷ (left_log (frontier_of functions nothing) 10 0 ++ (right_log 4 ++ NextEpoch ∷ []))))))

-- ---- keys that part at their last bit

abbrev pub key_0 : List Bool
key_0 = key_path false 0

abbrev pub key_1 : List Bool
key_1 = key_path false 1

-- the last key, and its path
abbrev pub last : ℕ
last = 18446744073709551615

abbrev pub last_path : List Bool
last_path = key_path false last

-- where the keys 0 and 1 part
abbrev pub fork : List Bool
fork = root ++ replicate 63 false

abbrev pub fork_value : DigestFunctions → Value
fork_value functions = node_of functions key_0 value_a key_1 value_b

-- the left frontier above the fork
abbrev pub forked : DigestFunctions → Value
forked functions = node_0 functions fork (fork_value functions)

abbrev pub value_c : Value
value_c = bytes (99 ∷ [])

-- The keys 0, 1 and the last one get values, and 0 is asked for.
abbrev pub parted_events : List (WorldEvent Request)
parted_events =
    serving_at 0 0 (put 0 (Some (97 ∷ []))) ++ (serving_at 0 0 (put 1 (Some (98 ∷ [])))
    ++ (serving_at 0 1 (put last (Some (99 ∷ []))) ++ (serving_at 0 0 (get 0) ++ last_close)))

-- what is logged for the key 1, which takes a fork, and for 0 behind it
abbrev pub forking_log : DigestFunctions → List Command
forking_log functions =
    AddB left (node_0 functions key_0 value_a) (stamp 0 4) 0 ∷ AddM fork (values.Node empty_node) left ∷ AddM key_1 nothing fork
    ∷ Put key_1 value_b ∷ EvictM key_1 fork ∷ EvictM fork left ∷ EvictB left (stamp 0 6) ∷ []

abbrev pub below_fork_log : DigestFunctions → List Command
below_fork_log functions =
    AddB left (forked functions) (stamp 0 6) 0 ∷ AddM fork (fork_value functions) left ∷ AddM key_0 value_a fork
    ∷ Get key_0 value_a ∷ EvictM key_0 fork ∷ EvictM fork left ∷ EvictB left (stamp 0 10) ∷ []

abbrev pub parted_log : DigestFunctions → List Command
parted_log functions =
    setup_log
    ++ (request_at left key_0 (values.Node empty_node) 1 0 nothing (Put key_0 value_a) 4
    ++ (forking_log functions
    ++ (request_at right last_path (values.Node empty_node) 2 0 nothing (Put last_path value_c) 8
    ++ (below_fork_log functions
    ++ NextEpoch ∷ (left_log (forked functions) 10 0
    ++ AddB right (node_1 functions last_path value_c) (stamp 0 8) 0 ∷ EvictB right (stamp 1 4) ∷ NextEpoch ∷ [])))))

-- ---- four shards

-- one worker, whose counters end at most, and four shards
abbrev pub four_shards : Settings
four_shards = record { header = header_by_path 1 128 0 most; shards = 4; hot = None; absent = false; rolling = false }

-- a frontier two bits below the root
abbrev pub at : Bool → Bool → List Bool
at b c = root ++ b ∷ c ∷ []

-- and the path above it
abbrev pub above : Bool → List Bool
above b = root ++ b ∷ []

-- what is logged as two frontiers are set up
abbrev pub set_up_pair : Bool → ℕ → List Command
set_up_pair b counter =
    AddM (above b) (values.Node empty_node) root
    ∷ AddM (at b false) (values.Node empty_node) (above b) ∷ EvictBM (at b false) (above b) (stamp 0 counter)
    ∷ AddM (at b true) (values.Node empty_node) (above b) ∷ EvictBM (at b true) (above b) (stamp 0 (counter + 1))
    ∷ EvictM (above b) root ∷ []

-- what moving an untouched shard logs
abbrev pub untouched_log : Bool → Bool → ℕ → ℕ → List Command
untouched_log b c counter last = AddB (at b c) (values.Node empty_node) (stamp 0 counter) 0 ∷ EvictB (at b c) (stamp 1 last) ∷ []

-- The key 5 gets a value.
abbrev pub four_events : List (WorldEvent Request)
four_events =
    serving 0 (put_five (Some (97 ∷ [])))
    ++ advances 0 ∷ moves 0 0 ∷ moves 0 1 ∷ moves 0 2 ∷ moves 0 3 ∷ advances 0 ∷ []

abbrev pub four_log : DigestFunctions → List Command
four_log functions =
    set_up_pair false 1 ++ (set_up_pair true 3
    ++ (request_at (at false false) five (values.Node empty_node) 1 0 nothing (Put five value_a) 6
    ++ NextEpoch ∷ AddB (at false false) (frontier_of functions value_a) (stamp 0 6) 0 ∷ EvictB (at false false) (stamp 1 2)
    ∷ (untouched_log false true 2 4 ++ (untouched_log true false 3 6 ++ (untouched_log true true 4 8 ++ NextEpoch ∷ [])))))

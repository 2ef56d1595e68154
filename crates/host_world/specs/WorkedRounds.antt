-- Rounds that are worked out: what a rolling host of two shards logs for small scripts.
use Rattle.std.specs.Prelude.{ℕ, Bool, true, false, List, [], ◌∷◌, ◌++◌, Some, None}
use Rattle.lamport_clocks.specs.declared.stamp.Stamp.{Stamp}
use Rattle.lamport_clocks.specs.Header.{header_by_path}
use Rattle.record_hash.specs.Functions.{DigestFunctions}
use Rattle.record_text.specs.declared.request.Request.{Request}
use Rattle.record_text.specs.declared.value.Value.{Value}
use Rattle.record_text.specs.declared.value.Value.TheVariants as values
use Rattle.record_text.specs.Value.{empty_node}
use Rattle.log_codec.specs.declared.command.Command.{Command}
use Rattle.log_codec.specs.declared.command.Command.TheVariants.{AddM, EvictM, AddB, EvictB, EvictBM, Get, Put, NextEpoch}
use Rattle.host_core.specs.WorldEvent.{WorldEvent, takes, serves, gives, advances, moves, raises, enters, scans, finishes, stops}
use Rattle.script_text.specs.declared.task.Task.{Task}
use Rattle.shipped_host.specs.declared.settings.Settings.{Settings}
use Rattle.host_world.specs.Worked.{root, left, right, five, stamp, most, setup_log, value_a, value_b, value_ab}
use Rattle.host_world.specs.WorkedKeys.{nothing, node_0, seven, middle, middle_path, place_at, serving_at, put, get}

-- a rolling host of so many workers, whose first epoch and the end of whose counters are these, and of two shards
abbrev pub rolling : ℕ → ℕ → ℕ → Settings
rolling workers first end = record { header = header_by_path workers 128 first end; shards = 2; hot = None; absent = false; rolling = true }

-- a worker is asked for this
abbrev pub asking : ℕ → Request → Task
asking worker request = record { worker = worker; request = request }

-- what worker 0 logs for the setup in this first epoch
abbrev pub setup_in : ℕ → List Command
setup_in first =
    AddM left (values.Node empty_node) root ∷ EvictBM left root (stamp first 1)
    ∷ AddM right (values.Node empty_node) root ∷ EvictBM right root (stamp first 2) ∷ []

-- a worker takes a shard's place, scans the shard and gives the place back
abbrev pub scanning_at : ℕ → ℕ → List (WorldEvent Request)
scanning_at i shard = takes i (place_at shard) ∷ scans i (place_at shard) ∷ gives i (place_at shard) ∷ []

-- What a worker logs that takes in a shard with this value, sent with a stamp by a verifier, and hands it out with another stamp.
abbrev pub renewing : List Bool → Value → Stamp → ℕ → Stamp → List Command
renewing at frontier since verifier to = AddB at frontier since verifier ∷ EvictB at to ∷ []

-- The same where it does something in between with a key of the shard, whose value it finds.
abbrev pub visiting : List Bool → List Bool → Value → Stamp → ℕ → Value → Command → Stamp → List Command
visiting at key frontier since verifier found command to =
    AddB at frontier since verifier ∷ AddM key found at ∷ command ∷ EvictM key at ∷ EvictB at to ∷ []

-- One worker puts and gets in the first epoch, and gets in the second.
abbrev pub two_epochs_settings : Settings
two_epochs_settings = rolling 1 0 most

abbrev pub two_epochs_script : List (List Task)
two_epochs_script = (asking 0 (put 5 (Some (97 ∷ 98 ∷ []))) ∷ asking 0 (get 5) ∷ []) ∷ (asking 0 (get 5) ∷ []) ∷ []

abbrev pub two_epochs_events : List (WorldEvent Request)
two_epochs_events =
    serving_at 0 0 (put 5 (Some (97 ∷ 98 ∷ []))) ++ (serving_at 0 0 (get 5) ++ (raises 0 ∷ enters 0 ∷ (scanning_at 0 0 ++
    (scanning_at 0 1 ++ (finishes 0 ∷ (serving_at 0 0 (get 5) ++ (advances 0 ∷ moves 0 0 ∷ moves 0 1 ∷ advances 0 ∷ [])))))))

abbrev pub two_epochs_logs : DigestFunctions → List (List Command)
two_epochs_logs functions =
    (setup_log
    ++ (visiting left five (values.Node empty_node) (stamp 0 1) 0 nothing (Put five value_ab) (stamp 0 4)
    ++ (visiting left five (node_0 functions five value_ab) (stamp 0 4) 0 value_ab (Get five value_ab) (stamp 0 6)
    ++ (NextEpoch ∷ (renewing left (node_0 functions five value_ab) (stamp 0 6) 0 (stamp 1 2)
    ++ (renewing right (values.Node empty_node) (stamp 0 2) 0 (stamp 1 4)
    ++ (visiting left five (node_0 functions five value_ab) (stamp 1 2) 0 value_ab (Get five value_ab) (stamp 1 6)
    ++ (NextEpoch ∷ (renewing left (node_0 functions five value_ab) (stamp 1 6) 0 (stamp 2 2)
    ++ (renewing right (values.Node empty_node) (stamp 1 4) 0 (stamp 2 4)
    ++ (NextEpoch ∷ [])))))))))))
    ∷ []

-- Two workers, of whom nothing is asked, go from the first epoch to the second.
abbrev pub unasked_settings : Settings
unasked_settings = rolling 2 0 most

abbrev pub unasked_script : List (List Task)
unasked_script = [] ∷ [] ∷ []

abbrev pub unasked_events : List (WorldEvent Request)
unasked_events =
    raises 0 ∷ enters 0 ∷ (scanning_at 0 0 ++ (finishes 0 ∷ enters 1 ∷ (scanning_at 1 1 ++ (finishes 1 ∷ advances 0 ∷ advances 1
    ∷ moves 0 0 ∷ moves 1 1 ∷ advances 0 ∷ advances 1 ∷ []))))

abbrev pub unasked_logs : DigestFunctions → List (List Command)
unasked_logs functions =
    (setup_log
    ++ (NextEpoch ∷ (renewing left (values.Node empty_node) (stamp 0 1) 0 (stamp 1 2)
    ++ (NextEpoch ∷ (renewing left (values.Node empty_node) (stamp 1 2) 0 (stamp 2 2)
    ++ (NextEpoch ∷ []))))))
    ∷ (NextEpoch ∷ (renewing right (values.Node empty_node) (stamp 0 2) 0 (stamp 1 2)
    ++ (NextEpoch ∷ (renewing right (values.Node empty_node) (stamp 1 2) 1 (stamp 2 2)
    ++ (NextEpoch ∷ [])))))
    ∷ []

-- Three workers, of whom the last has no shard, go through three epochs, each in an order of their own.
abbrev pub three_workers_settings : Settings
three_workers_settings = rolling 3 0 most

abbrev pub three_workers_script : List (List Task)
three_workers_script = [] ∷ [] ∷ [] ∷ []

abbrev pub three_workers_events : List (WorldEvent Request)
three_workers_events =
    raises 0 ∷ enters 0 ∷ enters 1 ∷ (scanning_at 0 0 ++ (scanning_at 1 1 ++ (finishes 0 ∷ finishes 1 ∷ enters 2 ∷ finishes 2 ∷
    raises 2 ∷ enters 2 ∷ finishes 2 ∷ enters 1 ∷ enters 0 ∷ (scanning_at 1 1 ++ (scanning_at 0 0 ++ (finishes 1 ∷ finishes 0 ∷
    advances 0 ∷ advances 1 ∷ advances 2 ∷ moves 0 0 ∷ moves 1 1 ∷ advances 0 ∷ advances 1 ∷ advances 2 ∷ []))))))

abbrev pub three_workers_logs : DigestFunctions → List (List Command)
three_workers_logs functions =
    (setup_log
    ++ (NextEpoch ∷ (renewing left (values.Node empty_node) (stamp 0 1) 0 (stamp 1 2)
    ++ (NextEpoch ∷ (renewing left (values.Node empty_node) (stamp 1 2) 0 (stamp 2 2)
    ++ (NextEpoch ∷ (renewing left (values.Node empty_node) (stamp 2 2) 0 (stamp 3 2)
    ++ (NextEpoch ∷ []))))))))
    ∷ (NextEpoch ∷ (renewing right (values.Node empty_node) (stamp 0 2) 0 (stamp 1 2)
    ++ (NextEpoch ∷ (renewing right (values.Node empty_node) (stamp 1 2) 1 (stamp 2 2)
    ++ (NextEpoch ∷ (renewing right (values.Node empty_node) (stamp 2 2) 1 (stamp 3 2)
    ++ (NextEpoch ∷ [])))))))
    ∷ (NextEpoch ∷ (NextEpoch ∷ (NextEpoch ∷ (NextEpoch ∷ []))))
    ∷ []

-- A script of one phase: its round is that phase.
abbrev pub no_line_settings : Settings
no_line_settings = rolling 1 0 most

abbrev pub no_line_script : List (List Task)
no_line_script = (asking 0 (get 7) ∷ []) ∷ []

abbrev pub no_line_events : List (WorldEvent Request)
no_line_events =
    finishes 0 ∷ (serving_at 0 0 (get 7) ++ (advances 0 ∷ moves 0 0 ∷ moves 0 1 ∷ advances 0 ∷ []))

abbrev pub no_line_logs : DigestFunctions → List (List Command)
no_line_logs functions =
    (setup_log
    ++ (visiting left seven (values.Node empty_node) (stamp 0 1) 0 nothing (Get seven nothing) (stamp 0 4)
    ++ (NextEpoch ∷ (renewing left (node_0 functions seven nothing) (stamp 0 4) 0 (stamp 1 2)
    ++ (renewing right (values.Node empty_node) (stamp 0 2) 0 (stamp 1 4)
    ++ (NextEpoch ∷ []))))))
    ∷ []

-- One worker, of whom nothing is asked, goes from the first epoch to the second.
abbrev pub one_line_settings : Settings
one_line_settings = rolling 1 0 most

abbrev pub one_line_script : List (List Task)
one_line_script = [] ∷ [] ∷ []

abbrev pub one_line_events : List (WorldEvent Request)
one_line_events =
    raises 0 ∷ enters 0 ∷ (scanning_at 0 0 ++ (scanning_at 0 1 ++ (finishes 0 ∷ advances 0 ∷ moves 0 0 ∷ moves 0 1 ∷ advances 0
    ∷ [])))

abbrev pub one_line_logs : DigestFunctions → List (List Command)
one_line_logs functions =
    (setup_log
    ++ (NextEpoch ∷ (renewing left (values.Node empty_node) (stamp 0 1) 0 (stamp 1 2)
    ++ (renewing right (values.Node empty_node) (stamp 0 2) 0 (stamp 1 4)
    ++ (NextEpoch ∷ (renewing left (values.Node empty_node) (stamp 1 2) 0 (stamp 2 2)
    ++ (renewing right (values.Node empty_node) (stamp 1 4) 0 (stamp 2 4)
    ++ (NextEpoch ∷ []))))))))
    ∷ []

-- Worker 1 serves in the second epoch what waits since the first, so that its owner need not scan it.
abbrev pub above_settings : Settings
above_settings = rolling 2 0 most

abbrev pub above_script : List (List Task)
above_script = (asking 0 (put 5 (Some (97 ∷ []))) ∷ []) ∷ (asking 1 (get 5) ∷ []) ∷ []

abbrev pub above_events : List (WorldEvent Request)
above_events =
    serving_at 0 0 (put 5 (Some (97 ∷ []))) ++ (raises 1 ∷ enters 1 ∷ (scanning_at 1 1 ++ (finishes 1 ∷ (serving_at 1 0 (get 5)
    ++ (enters 0 ∷ finishes 0 ∷ advances 0 ∷ advances 1 ∷ moves 0 0 ∷ moves 1 1 ∷ advances 0 ∷ advances 1 ∷ [])))))

abbrev pub above_logs : DigestFunctions → List (List Command)
above_logs functions =
    (setup_log
    ++ (visiting left five (values.Node empty_node) (stamp 0 1) 0 nothing (Put five value_a) (stamp 0 4)
    ++ (NextEpoch ∷ (NextEpoch ∷ (renewing left (node_0 functions five value_a) (stamp 1 4) 1 (stamp 2 2)
    ++ (NextEpoch ∷ []))))))
    ∷ (NextEpoch ∷ (renewing right (values.Node empty_node) (stamp 0 2) 0 (stamp 1 2)
    ++ (visiting left five (node_0 functions five value_a) (stamp 0 4) 0 value_a (Get five value_a) (stamp 1 4)
    ++ (NextEpoch ∷ (renewing right (values.Node empty_node) (stamp 1 2) 1 (stamp 2 2)
    ++ (NextEpoch ∷ []))))))
    ∷ []

-- Worker 1 is in the second epoch while worker 0 serves in the first. Worker 0 takes a shard that was scanned, and enters to serve it.
abbrev pub beside_settings : Settings
beside_settings = rolling 2 0 most

abbrev pub beside_script : List (List Task)
beside_script = (asking 0 (put 5 (Some (97 ∷ []))) ∷ asking 0 (get middle) ∷ []) ∷ (asking 1 (get 5) ∷ []) ∷ []

abbrev pub beside_events : List (WorldEvent Request)
beside_events =
    raises 1 ∷ enters 1 ∷ (scanning_at 1 1 ++ (finishes 1 ∷ (serving_at 0 0 (put 5 (Some (97 ∷ []))) ++ (takes 0 (place_at 1) ∷
    enters 0 ∷ serves 0 (place_at 1) (get middle) ∷ gives 0 (place_at 1) ∷ (scanning_at 0 0 ++ (finishes 0 ∷ (serving_at 1 0
    (get 5) ++ (advances 0 ∷ advances 1 ∷ moves 0 0 ∷ moves 1 1 ∷ advances 0 ∷ advances 1 ∷ []))))))))

abbrev pub beside_logs : DigestFunctions → List (List Command)
beside_logs functions =
    (setup_log
    ++ (visiting left five (values.Node empty_node) (stamp 0 1) 0 nothing (Put five value_a) (stamp 0 4)
    ++ (NextEpoch ∷ (visiting right middle_path (values.Node empty_node) (stamp 1 2) 1 nothing (Get middle_path nothing) (stamp 1 4)
    ++ (renewing left (node_0 functions five value_a) (stamp 0 4) 0 (stamp 1 6)
    ++ (NextEpoch ∷ (renewing left (node_0 functions five value_a) (stamp 1 8) 1 (stamp 2 2)
    ++ (NextEpoch ∷ []))))))))
    ∷ (NextEpoch ∷ (renewing right (values.Node empty_node) (stamp 0 2) 0 (stamp 1 2)
    ++ (visiting left five (node_0 functions five value_a) (stamp 1 6) 0 value_a (Get five value_a) (stamp 1 8)
    ++ (NextEpoch ∷ (renewing right (node_0 functions middle_path nothing) (stamp 1 4) 0 (stamp 2 2)
    ++ (NextEpoch ∷ []))))))
    ∷ []

-- The last phase is of the last epoch that there is: none is left for the close.
abbrev pub last_epoch_settings : Settings
last_epoch_settings = rolling 1 4294967294 most

abbrev pub last_epoch_script : List (List Task)
last_epoch_script = [] ∷ (asking 0 (get 5) ∷ []) ∷ []

abbrev pub last_epoch_events : List (WorldEvent Request)
last_epoch_events =
    raises 0 ∷ enters 0 ∷ (scanning_at 0 0 ++ (scanning_at 0 1 ++ (finishes 0 ∷ (serving_at 0 0 (get 5) ++ (advances 0 ∷ [])))))

abbrev pub last_epoch_logs : DigestFunctions → List (List Command)
last_epoch_logs functions =
    (setup_in 4294967294
    ++ (NextEpoch ∷ (renewing left (values.Node empty_node) (stamp 4294967294 1) 0 (stamp 4294967295 2)
    ++ (renewing right (values.Node empty_node) (stamp 4294967294 2) 0 (stamp 4294967295 4)
    ++ (visiting left five (values.Node empty_node) (stamp 4294967295 2) 0 nothing (Get five nothing) (stamp 4294967295 6))))))
    ∷ []

-- The second phase would be of an epoch that there is not: the worker stops.
abbrev pub past_last_settings : Settings
past_last_settings = rolling 1 4294967295 most

abbrev pub past_last_script : List (List Task)
past_last_script = (asking 0 (put 5 (Some (97 ∷ []))) ∷ []) ∷ (asking 0 (get 5) ∷ []) ∷ []

abbrev pub past_last_events : List (WorldEvent Request)
past_last_events =
    serving_at 0 0 (put 5 (Some (97 ∷ []))) ++ (stops 0 None ∷ [])

abbrev pub past_last_logs : DigestFunctions → List (List Command)
past_last_logs functions =
    (setup_in 4294967295
    ++ (visiting left five (values.Node empty_node) (stamp 4294967295 1) 0 nothing (Put five value_a) (stamp 4294967295 4)))
    ∷ []

-- The counters of an epoch suffice for one of two scans.
abbrev pub ending_scan_settings : Settings
ending_scan_settings = rolling 1 0 3

abbrev pub ending_scan_script : List (List Task)
ending_scan_script = [] ∷ [] ∷ []

abbrev pub ending_scan_events : List (WorldEvent Request)
ending_scan_events =
    raises 0 ∷ enters 0 ∷ (scanning_at 0 0 ++ (scanning_at 0 1))

abbrev pub ending_scan_logs : DigestFunctions → List (List Command)
ending_scan_logs functions =
    (setup_log
    ++ (NextEpoch ∷ (renewing left (values.Node empty_node) (stamp 0 1) 0 (stamp 1 2))))
    ∷ []

-- The host that is shipped.
use Rattle.std.specs.Prelude.{ℕ, ◌^◌, ◌==◌, ◌&&◌, Bool, true, false, not, List, [], ◌∷◌, length, map, get_or, replicate, nat_lt, nat_le, Option, Some, None, if◌then◌else◌}
use Rattle.std.specs.List.{list_any}
use Rattle.tree_keys.specs.Path.{is_prefix}
use Rattle.lamport_clocks.specs.Reading.{Reading}
use Rattle.lamport_clocks.specs.declared.header.Header.{Header}
use Rattle.record_hash.specs.Functions.{DigestFunctions}
use Rattle.record_text.specs.declared.request.Request.{Request}
use Rattle.record_text.specs.Longest.{longest_of}
use Rattle.record_text.specs.Tree.{wide_of}
use Rattle.merkle_records.specs.Merkle.{Digest}
use Rattle.merkle_records.specs.Scheme.{scheme_of}
use Rattle.verifier_cache.specs.Cache.{Held}
use Rattle.host_core.specs.Host.{Done, Host}
use Rattle.host_shard.specs.Content.{Content, cold, hot, vacant, pending}
use Rattle.host_shard.specs.Shard.{key_path_in}
use Rattle.host_plan.specs.Plan.{clock_after, commands_of, content_after}
use Rattle.host_plan.specs.Setup.{setup_commands, setup_contents}
use Rattle.host_laws.specs.Served.{waiting}
use Rattle.host_laws.specs.SettingUp.{first_clock, set_up_state}
use Rattle.script_text.specs.declared.task.Task.{Task}
use Rattle.protection_moves.specs.Stage.{is_hot_at}
use Rattle.shipped_host.specs.declared.settings.Settings.{Settings}
use Rattle.shipped_host.specs.Links.{links_of}
use Rattle.shipped_host.specs.Settings.{frontier_bits}
use Rattle.shipped_host.specs.Moving.{stage_of, move_seats}

-- ---- places

-- how many hot places a shard has
abbrev pub hot_places : ℕ
hot_places = 4

-- the seats of a new shard: the shard, and its hot places
abbrev pub new_seats : Content → List Content
new_seats content = content ∷ replicate hot_places vacant

-- the value is one that a key may have
abbrev pub is_blob : ℕ → Option (List ℕ) → Bool
is_blob longest None = nat_le 0 0
is_blob longest (Some bytes) = nat_le (length bytes) longest

-- A content serves a key among the seats of its shard: a shard those below its frontier that are not hot, and a hot record
-- its own.
abbrev pub serves_key : List Content → ℕ → Content → Bool
serves_key seats key (cold shard) = is_prefix shard.frontier (key_path_in shard key) && not (list_any (is_hot_at key) seats)
serves_key seats key (hot record') = record'.key == key
serves_key seats key vacant = false

-- the seat is the place of the request
abbrev pub is_place_of : ℕ → List Content → ℕ → Request → Bool
is_place_of longest seats seat request =
    serves_key seats request.key (get_or seats seat vacant) && is_blob longest request.value

-- ---- what is done

-- a request as it is asked: a get asks for no value
abbrev pub told : Request → Request
told request = record { put = request.put; key = request.key; value = if request.put then request.value else None }

-- Serving a request: none where its two counters would pass their end.
abbrev pub serve_at : Bool → Digest → ℕ → Reading → Content → Request → Option (Done Content)
serve_at absent digest worker clock content request =
    if nat_lt clock.end (clock_after content clock).at.counter then None
    else Some (record {
      commands = commands_of absent content (links_of content request.key) request clock;
      after = content_after absent digest worker content (links_of content request.key) request clock;
      clock = clock_after content clock;
    })

-- the setup of 2^bits shards, by worker 0
abbrev pub set_up_by : Header → ℕ → Done (List (List Content))
set_up_by header bits = record {
  commands = setup_commands (wide_of header) header.first bits;
  after = map new_seats (setup_contents (wide_of header) header.first bits);
  clock = first_clock header.first header.end (2 ^ bits);
}

-- what a verifier caches between requests: the first the root as the setup leaves it, the others nothing
abbrev pub resting_cache : DigestFunctions → Header → ℕ → ℕ → Held
resting_cache functions header bits i = record {
  entries = if i == 0 then (set_up_state (scheme_of functions header) header bits).cache.entries else [];
  room = header.cache;
}

-- a task by its worker
abbrev pub turn_of : Task → ℕ × Request
turn_of task = (task.worker, task.request)

-- The shipped host with these numbers, for this script.
abbrev pub shipped_host : DigestFunctions → Settings → List (List Task) → Host Content Request
shipped_host functions settings script =
    let header = settings.header in
    let longest = longest_of header in
    let bits = frontier_bits settings.shards in
    record {
      functions = functions;
      header = header;
      cache = resting_cache functions header bits;
      vacant = vacant;
      pending = λ content. waiting (pending content);
      owns = λ s seats seat request. is_place_of longest seats seat request;
      telling = told;
      script = map (map turn_of) script;
      rolling = settings.rolling;
      setup = set_up_by header bits;
      serve = λ i clock content request. serve_at settings.absent functions.digest i clock content request;
      move = λ i clock s seats. move_seats functions.digest i settings.hot (stage_of clock seats);
    }

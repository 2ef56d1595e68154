-- What the shipped host does for a shard at a close, as a function of the shard's seats.
use Rattle.std.specs.Prelude.{ℕ, List, [], ◌∷◌, Option, Some, None, nat_lt, if◌then◌else◌}
use Rattle.lamport_clocks.specs.Reading.{Reading}
use Rattle.merkle_records.specs.Merkle.{Digest}
use Rattle.host_core.specs.Host.{Done}
use Rattle.host_shard.specs.declared.link.Link.{Link}
use Rattle.host_shard.specs.Shard.{key_path_in, Shard}
use Rattle.host_shard.specs.Content.{hot_path, Content, cold, hot, vacant}
use Rattle.protection_moves.specs.Stage.{Stage}
use Rattle.protection_moves.specs.Transfer.{Transfer, demotes, promotes, transfers_of, clock_needed}
use Rattle.protection_moves.specs.Descent.{Descent, with_back, done_by}
use Rattle.protection_moves.specs.Move.{begun, moved, move_commands}
use Rattle.shipped_host.specs.Promotable.{promotable_in}
use Rattle.shipped_host.specs.Links.{links_in}

-- the seats of a shard as a stage, for a worker whose clock stands so: the shard, then its hot places
abbrev pub stage_of : Reading → List Content → Option Stage
stage_of clock [] = None
stage_of clock (cold shard ∷ places) = Some (record { shard = shard; places = places; clock = clock })
stage_of clock (hot record' ∷ places) = None
stage_of clock (vacant ∷ places) = None

-- the same seats again
abbrev pub seats_of : Stage → List Content
seats_of stage = cold stage.shard ∷ stage.places

-- the links to a transfer's key
abbrev pub links_for : Shard → Transfer → List Link
links_for shard (demotes found) = links_in (with_back shard found) (hot_path found)
links_for shard (promotes key) = links_in shard (key_path_in shard key)

-- transfers as descents, one after another
abbrev pub descents_for : Digest → ℕ → Stage → List Transfer → List Descent
descents_for digest worker stage [] = []
descents_for digest worker stage (transfer ∷ transfers) =
    record { transfer = transfer; links = links_for stage.shard transfer }
    ∷ descents_for digest worker (done_by digest worker stage transfer (links_for stage.shard transfer)) transfers

-- the descents of a move after which these keys are to be hot
abbrev pub descents_of : Digest → ℕ → Stage → List ℕ → List Descent
descents_of digest worker stage promotable = descents_for digest worker (begun worker stage) (transfers_of stage promotable)

-- a move with these descents
abbrev pub done_with : Digest → ℕ → Stage → List Descent → Done (List Content)
done_with digest worker stage descents = record {
  commands = move_commands digest worker stage descents;
  after = seats_of (moved digest worker stage descents);
  clock = (moved digest worker stage descents).clock;
}

-- The move of a stage by this worker, where these keys are promotable to become hot: none where its counters would pass their end.
abbrev pub move_promotable : Digest → ℕ → Stage → List ℕ → Option (Done (List Content))
move_promotable digest worker stage promotable =
    if nat_lt stage.clock.end (clock_needed stage promotable).at.counter then None
    else Some (done_with digest worker stage (descents_of digest worker stage promotable))

-- The move of a shard's seats, for some threshold.
abbrev pub move_seats : Digest → ℕ → Option ℕ → Option Stage → Option (Done (List Content))
move_seats digest worker threshold None = None
move_seats digest worker threshold (Some stage) = move_promotable digest worker stage (promotable_in stage threshold)

-- What a shard, its hot places and a clock of the code show.
use Rattle.std.specs.Prelude.{List, map}
use Rattle.lamport_clocks.specs.Reading.{Reading}
use Rattle.host_shard.specs.declared.shard.Shard as code
use Rattle.host_shard.specs.declared.content.Content as place
use Rattle.host_shard.specs.Shown.{shown, shown_content}
use Rattle.protection_moves.specs.Stage.{Stage}

-- the stage that they are
abbrev pub shown_stage : code.Shard → List place.Content → Reading → Stage
shown_stage shard places clock = record { shard = shown shard; places = map shown_content places; clock = clock }

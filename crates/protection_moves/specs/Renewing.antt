-- Hot records that stay hot: each is taken in and handed out again.
use Rattle.std.specs.Prelude.{ℕ, List, [], ◌∷◌, ◌++◌}
use Rattle.lamport_clocks.specs.Reading.{Reading}
use Rattle.log_codec.specs.declared.command.Command.{Command}
use Rattle.host_shard.specs.declared.content.HotRecord.{HotRecord}
use Rattle.host_shard.specs.Content.{Content, hot, pending_hot}
use Rattle.host_plan.specs.Moments.{renewing}
use Rattle.host_plan.specs.Visit.{between}
use Rattle.protection_moves.specs.Stage.{replaced}

-- a hot record once this worker took it in and handed it out again
abbrev pub renewed_record : ℕ → Reading → HotRecord → HotRecord
renewed_record worker clock found = record {
  wide = found.wide;
  key = found.key;
  value = found.value;
  stamp = (renewing clock found.stamp).at;
  evictor = worker;
  touches = 0;
}

-- the clock once these were taken in and handed out again, one after another
abbrev pub renewing_each : Reading → List HotRecord → Reading
renewing_each clock [] = clock
renewing_each clock (found ∷ more) = renewing_each (renewing clock found.stamp) more

-- the hot places then
abbrev pub renewed_places : ℕ → Reading → List Content → List HotRecord → List Content
renewed_places worker clock places [] = places
renewed_places worker clock places (found ∷ more) =
    renewed_places worker (renewing clock found.stamp) (replaced found.key (hot (renewed_record worker clock found)) places) more

-- the commands
abbrev pub renewing_commands : Reading → List HotRecord → List Command
renewing_commands clock [] = []
renewing_commands clock (found ∷ more) =
    between (pending_hot found) (renewing clock found.stamp).at [] ++ renewing_commands (renewing clock found.stamp) more

-- What a worker does that scans a place: it renews the element there, with a stamp of its own epoch.
use Rattle.std.specs.Prelude.{ℕ, ◌<◌, List, []}
use Rattle.lamport_clocks.specs.Reading.{Reading}
use Rattle.log_codec.specs.declared.command.Command.{Command}
use Rattle.host_shard.specs.Content.{Content, cold, hot, vacant, pending_hot}
use Rattle.host_shard.specs.Shard.{pending_shard}
use Rattle.host_plan.specs.Moments.{renewing}
use Rattle.host_plan.specs.Visit.{between}

-- the element is taken in and handed out again
abbrev pub scan_commands : Content → Reading → List Command
scan_commands (cold shard) clock = between (pending_shard shard) (renewing clock shard.stamp).at []
scan_commands (hot record') clock = between (pending_hot record') (renewing clock record'.stamp).at []
scan_commands vacant clock = []

-- The content then: the worker is the evictor of the renewed element, and no touch is counted any more, as behind a move.
abbrev pub scanned : ℕ → Content → Reading → Content
scanned worker (cold shard) clock = cold (record shard { stamp = (renewing clock shard.stamp).at; evictor = worker; touches = λ k. 0 })
scanned worker (hot record') clock = hot (record record' { stamp = (renewing clock record'.stamp).at; evictor = worker; touches = 0 })
scanned worker vacant clock = vacant

-- the content waits with an element of an epoch before this one
abbrev pub IsStale : ℕ → Content → Type 0
IsStale epoch (cold shard) = shard.stamp.epoch < epoch
IsStale epoch (hot record') = record'.stamp.epoch < epoch
IsStale epoch vacant = ⊥

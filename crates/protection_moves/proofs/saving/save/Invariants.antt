use Rattle.std.proofs.Common.{◌≡◌, take}
use Rattle.host_shard.specs.Records.{values_of}
use Rattle.protection_moves.specs.Saving.{saved_along}
use Rattle.protection_moves.proofs.saving.save.Given as goal

abbrev pub invariant-loop-link : goal.invariant-loop-link
invariant-loop-link l = l.records.items ≡ saved_along (values_of l.shard.records) (take l.link-index l.links)

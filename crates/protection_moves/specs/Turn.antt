-- The end of a descent's chain, and what the code works out along it.
use Rattle.std.specs.Prelude.{◌≡◌, Bool, List, [], ◌∷◌, ◌++◌}
use Rattle.record_text.specs.declared.value.Value.{Value}
use Rattle.log_codec.specs.declared.command.Command.{Command}
use Rattle.merkle_records.specs.Merkle.{Digest, pointer_to, deferred_pointer}
use Rattle.host_shard.specs.declared.link.Link.{Link}
use Rattle.host_shard.specs.Chain.{aimed, last_value}
use Rattle.host_shard.specs.Shard.{Shard, rehashed}
use Rattle.protection_moves.specs.declared.descents.Turn.{Turn}
use Rattle.protection_moves.specs.declared.descents.Turn.TheVariants as turns
use Rattle.protection_moves.specs.Descent.{come_back, become_hot, without_record}

-- the commands of a turn
abbrev pub turn_commands : Turn → List Bool → Link → List Command
turn_commands (turns.ComesBack element) = come_back element
turn_commands (turns.BecomesHot stamp) = become_hot stamp

-- the path at a chain's end
abbrev pub last_path : List Bool → List Link → List Bool
last_path at [] = at
last_path at (link ∷ links) = last_path link.path links

-- the value of a path whose pointer to the link's path is deferred, with the digest of the value that was added
abbrev pub deferring : Digest → List Bool → Value → Link → Value
deferring digest at value link = aimed at value (deferred_pointer (pointer_to digest link.path link.value))

-- The shard once the record at the chain's end is lent, while its own record is still kept: the chain is rehashed up to the
-- link before, whose pointer is deferred.
pub record IsLent (digest : Digest) (old : Shard) (links : List Link) (new : Shard) : Type 0 where
  pub above : List Link
  pub link : Link
  pub parts : links ≡ above ++ link ∷ []
  pub rehashed : new ≡ rehashed digest old above
      (deferring digest (last_path old.frontier above) (last_value old.value above) link)

-- the shard without the record of a path
abbrev pub shard_but : Shard → List Bool → Shard
shard_but shard path = record shard { records = without_record shard.records path }

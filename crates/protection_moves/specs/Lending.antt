-- One record that becomes hot, as the code goes through it: its own record stays in the shard for a while.
use Rattle.std.specs.Prelude.{◌≡◌, ℕ, List, ◌++◌}
use Rattle.lamport_clocks.specs.declared.stamp.Stamp.{Stamp}
use Rattle.log_codec.specs.declared.command.Command.{Command}
use Rattle.merkle_records.specs.Merkle.{Digest}
use Rattle.host_shard.specs.declared.link.Link.{Link}
use Rattle.host_shard.specs.declared.content.HotRecord.{HotRecord}
use Rattle.host_shard.specs.Chain.{IsChain, last_value}
use Rattle.host_shard.specs.Shard.{key_path_in, wide_in, Shard, tree_of, rehashed}
use Rattle.record_text.specs.declared.value.Value.TheVariants as values
use Rattle.host_shard.specs.Content.{hot_path, pending_hot}
use Rattle.protection_moves.specs.Descent.{visit_but_last, come_back, become_hot, data_of, shard_without, with_back}
use Rattle.protection_moves.specs.Turn.{shard_but}

-- The record of a key becomes hot with this stamp. But for that record the shard is what it is without it.
pub record IsLending (digest : Digest) (worker : ℕ) (stamp : Stamp) (key : ℕ) (old : Shard) (before : List Command)
    (hot : HotRecord) (after : List Command) (new : Shard) : Type 0 where
  pub links : List Link
  pub way : IsChain (tree_of old) (key_path_in old key) old.frontier old.value links
  pub commands : after ≡ before ++ visit_but_last old.frontier links (become_hot stamp)
  pub record' : hot ≡ record { wide = wide_in old; key = key; value = data_of (last_value old.value links); stamp = stamp; evictor = worker; touches = 0 }
  pub shard : shard_but new (key_path_in old key) ≡ shard_without digest old key links

-- A hot record comes back to its shard.
pub record IsReturning (digest : Digest) (found : HotRecord) (old : Shard) (before after : List Command) (new : Shard) : Type 0 where
  pub links : List Link
  pub way : IsChain (tree_of (with_back old found)) (hot_path found) old.frontier old.value links
  pub commands : after ≡ before ++ visit_but_last old.frontier links (come_back (pending_hot found))
  pub shard : new ≡ rehashed digest (with_back old found) links (values.Blob found.value)

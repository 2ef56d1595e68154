-- A content that mirrors what the verifiers hold of it, where some keys are hot.
use Rattle.std.specs.Prelude.{ℕ, Bool, List}
use Rattle.std.specs.List.{IsAmong}
use Rattle.record_text.specs.Value.{IsBlob}
use Rattle.merkle_records.specs.Merkle.{Digest}
use Rattle.host_shard.specs.Shard.{key_path_in, Shard}
use Rattle.host_shard.specs.Content.{Content, cold, hot, vacant}
use Rattle.host_shard.specs.Mirrors.{IsShard, Mirrors}

-- a shard that mirrors, where these keys of it are hot
pub record IsMirrored (longest : ℕ) (digest : Digest) (shard : Shard) (hot_keys : List (List Bool)) : Type 0 where
  pub fits : IsShard longest shard
  pub mirrors : Mirrors digest shard hot_keys

-- The content mirrors: a shard does where these keys of it are hot, and a hot record has a value of its path's kind.
abbrev pub ContentMirrors : ℕ → Digest → List (List Bool) → Content → Type 0
ContentMirrors longest digest hot_keys (cold shard) = IsMirrored longest digest shard hot_keys
ContentMirrors longest digest hot_keys (hot record') = IsBlob longest record'.value
ContentMirrors longest digest hot_keys vacant = Unit {0}

-- the key is none of the hot keys of the content, where that is a shard
abbrev pub IsCold : List (List Bool) → Content → ℕ → Type 0
IsCold hot_keys (cold shard) key = IsAmong hot_keys (key_path_in shard key) → ⊥
IsCold hot_keys (hot record') key = Unit {0}
IsCold hot_keys vacant key = Unit {0}

-- When a stage mirrors what the verifiers hold of it.
use Rattle.std.specs.Prelude.{ℕ, ◌≡◌, ◌<◌, ◌⊎◌, List, [], ◌∷◌, IsTrue}
use Rattle.std.specs.List.{AllByRecursion}
use Rattle.lamport_clocks.specs.Reading.{Reading}
use Rattle.lamport_clocks.specs.Clock.{is_open}
use Rattle.record_text.specs.declared.element.Element.{Element}
use Rattle.record_text.specs.Value.{IsBlob}
use Rattle.merkle_records.specs.Merkle.{Digest}
use Rattle.verifier_commands.specs.Transition.{Rules}
use Rattle.host_shard.specs.declared.content.HotRecord.{HotRecord}
use Rattle.host_shard.specs.Mirrors.{HasKeyOf}
use Rattle.host_laws.specs.Mirroring.{IsMirrored}
use Rattle.protection_moves.specs.Stage.{Stage, hot_records, hot_paths}

-- The stage mirrors: the shard does where the records in hot places are hot, each of these has a value of its kind, and its
-- key is one of the shard's tree.
pub record StageMirrors (longest : ℕ) (digest : Digest) (stage : Stage) : Type 0 where
  pub shard : IsMirrored longest digest stage.shard (hot_paths stage.places)
  pub blobs : AllByRecursion (λ found. IsBlob longest found.value) (hot_records stage.places)
  pub in_range : AllByRecursion (HasKeyOf stage.shard) (hot_records stage.places)

-- an element that a verifier takes in: it is of one of the verifiers, and of an open epoch
abbrev pub IsTakable : Rules → Reading → Element → Type 0
IsTakable rules clock element = (element.verifier < rules.verifiers) × IsTrue (is_open clock element.stamp.epoch)

-- the record is one of these
abbrev pub IsOne : List HotRecord → HotRecord → Type 0
IsOne [] found = ⊥
IsOne (first ∷ records) found = (found ≡ first) ⊎ IsOne records found

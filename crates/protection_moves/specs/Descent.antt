-- A transfer along the links to its key, while the frontier of the shard stands in a cache.
use Rattle.std.specs.Prelude.{ℕ, Bool, true, List, [], ◌∷◌, ◌++◌, Option, None, if◌then◌else◌}
use Rattle.tree_keys.specs.Path.{same_path}
use Rattle.lamport_clocks.specs.declared.stamp.Stamp.{Stamp}
use Rattle.record_text.specs.declared.element.Element.{Element}
use Rattle.record_text.specs.declared.value.Value.{Value}
use Rattle.record_text.specs.declared.value.Value.TheVariants as values
use Rattle.log_codec.specs.declared.command.Command.{Command}
use Rattle.log_codec.specs.declared.command.Command.TheVariants.{AddM, EvictM, AddB, EvictBM}
use Rattle.merkle_records.specs.Merkle.{Digest}
use Rattle.host_shard.specs.declared.link.Link.{Link}
use Rattle.host_shard.specs.declared.content.HotRecord.{HotRecord}
use Rattle.host_shard.specs.Tree.{Tree, with_record}
use Rattle.host_shard.specs.Chain.{IsChain, last_value, closed_value, closed_records}
use Rattle.host_shard.specs.Shard.{key_path_in, wide_in, Shard, tree_of, rehashed}
use Rattle.host_shard.specs.Content.{hot_path, pending_hot, vacant}
use Rattle.host_plan.specs.Moments.{giving}
use Rattle.protection_moves.specs.Stage.{Stage, replaced, placed}
use Rattle.protection_moves.specs.Transfer.{Transfer, demotes, promotes, clock_by}

-- a transfer, and the links from the frontier to its key
pub record Descent : Type 0 where
  pub transfer : Transfer
  pub links : List Link

-- the data of a value
abbrev pub data_of : Value → Option (List ℕ)
data_of (values.Blob blob) = blob
data_of (values.Node node) = None

-- the records without that of a path
abbrev pub without_record : Tree → List Bool → Tree
without_record tree path = λ k. if same_path k path then None else tree k

-- the shard, with a record that comes back to it
abbrev pub with_back : Shard → HotRecord → Shard
with_back shard found =
    record shard { records = with_record shard.records (hot_path found) (values.Blob found.value) }

-- The links are the chain to the transfer's key. A record that comes back stands in the shard for that.
abbrev pub AreLinks : Shard → Transfer → List Link → Type 0
AreLinks shard (demotes found) links =
    IsChain (tree_of (with_back shard found)) (hot_path found) shard.frontier shard.value links
AreLinks shard (promotes key) links =
    IsChain (tree_of shard) (key_path_in shard key) shard.frontier shard.value links

-- ---- the commands

-- The paths of a chain are added, each under the one before, and evicted in reverse; only how the last one comes and
-- leaves is told apart.
abbrev pub visit_but_last : List Bool → List Link → (List Bool → Link → List Command) → List Command
visit_but_last at [] last = []
visit_but_last at (link ∷ []) last = last at link
visit_but_last at (link ∷ next ∷ links) last =
    AddM link.path link.value at ∷ (visit_but_last link.path (next ∷ links) last ++ EvictM link.path at ∷ [])

-- a hot record comes by its element, and stays under its node
abbrev pub come_back : Element → List Bool → Link → List Command
come_back element at link = AddB element.path element.value element.stamp element.verifier ∷ EvictM link.path at ∷ []

-- a record comes from under its node, and leaves with a stamp
abbrev pub become_hot : Stamp → List Bool → Link → List Command
become_hot stamp at link = AddM link.path link.value at ∷ EvictBM link.path at stamp ∷ []

abbrev pub commands_by : Stage → Transfer → List Link → List Command
commands_by stage (demotes found) links = visit_but_last stage.shard.frontier links (come_back (pending_hot found))
commands_by stage (promotes key) links = visit_but_last stage.shard.frontier links (become_hot (giving stage.clock).at)

-- ---- what they leave

-- the record that becomes hot
abbrev pub promoted_record : ℕ → Stage → ℕ → List Link → HotRecord
promoted_record worker stage key links = record {
  wide = wide_in stage.shard;
  key = key;
  value = data_of (last_value stage.shard.value links);
  stamp = (giving stage.clock).at;
  evictor = worker;
  touches = 0;
}

-- The shard without a record that became hot: its pointer is deferred.
abbrev pub shard_without : Digest → Shard → ℕ → List Link → Shard
shard_without digest shard key links =
    let last = last_value shard.value links in
    record shard {
      value = closed_value digest true shard.frontier shard.value links last;
      records = without_record (closed_records digest true shard.records links last) (key_path_in shard key);
    }

-- The place of a record that came back becomes vacant, and one that becomes hot takes the lowest vacant place.
abbrev pub done_by : Digest → ℕ → Stage → Transfer → List Link → Stage
done_by digest worker stage (demotes found) links = record {
  shard = rehashed digest (with_back stage.shard found) links (values.Blob found.value);
  places = replaced found.key vacant stage.places;
  clock = clock_by stage.clock (demotes found);
}
done_by digest worker stage (promotes key) links = record {
  shard = shard_without digest stage.shard key links;
  places = placed (promoted_record worker stage key links) stage.places;
  clock = clock_by stage.clock (promotes key);
}

-- ---- transfers one after another

-- each with its links in the shard as the ones before leave it
abbrev pub AreDescents : Digest → ℕ → Stage → List Descent → Type 0
AreDescents digest worker stage [] = Unit {0}
AreDescents digest worker stage (descent ∷ descents) =
    AreLinks stage.shard descent.transfer descent.links
    × AreDescents digest worker (done_by digest worker stage descent.transfer descent.links) descents

abbrev pub done_by_each : Digest → ℕ → Stage → List Descent → Stage
done_by_each digest worker stage [] = stage
done_by_each digest worker stage (descent ∷ descents) =
    done_by_each digest worker (done_by digest worker stage descent.transfer descent.links) descents

abbrev pub commands_by_each : Digest → ℕ → Stage → List Descent → List Command
commands_by_each digest worker stage [] = []
commands_by_each digest worker stage (descent ∷ descents) =
    commands_by stage descent.transfer descent.links
    ++ commands_by_each digest worker (done_by digest worker stage descent.transfer descent.links) descents

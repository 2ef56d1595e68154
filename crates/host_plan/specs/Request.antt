-- What one request does to a record, to a shard and to a hot record, and its commands.
use Rattle.std.specs.Prelude.{ℕ, Bool, false, not, ◌&&◌, ◌||◌, List, [], ◌∷◌, None, is_some, if◌then◌else◌}
use Rattle.tree_keys.specs.Path.{key_path}
use Rattle.lamport_clocks.specs.Reading.{Reading}
use Rattle.record_text.specs.declared.request.Request.{Request}
use Rattle.record_text.specs.declared.value.Value.{Value}
use Rattle.record_text.specs.declared.value.Value.TheVariants as values
use Rattle.log_codec.specs.declared.command.Command.{Command}
use Rattle.log_codec.specs.declared.command.Command.TheVariants.{Get, Put, Absent}
use Rattle.merkle_records.specs.Merkle.{Digest}
use Rattle.host_shard.specs.declared.link.Link.{Link}
use Rattle.host_shard.specs.declared.content.HotRecord.{HotRecord}
use Rattle.host_shard.specs.Chain.{last_value, end_path, known_links, ends_new, closed_value, closed_records}
use Rattle.host_shard.specs.Shard.{Shard, wide_in, key_path_in, pending_shard, one_more, touched}
use Rattle.host_shard.specs.Content.{pending_hot}
use Rattle.host_plan.specs.Moments.{renewing}
use Rattle.host_plan.specs.Visit.{visit, between}

-- its command in a tree, where the key has this value
abbrev pub command_of : Bool → Request → Value → Command
command_of wide request found =
    if request.put then Put (key_path wide request.key) (values.Blob request.value)
    else Get (key_path wide request.key) found

-- the key's value after it
abbrev pub value_after : Request → Value → Value
value_after request found = if request.put then values.Blob request.value else found

-- Where `absent`, a get misses a key that has no record yet: none is made for it.
abbrev pub is_missed : Bool → Shard → List Link → Request → Bool
is_missed absent shard links request =
    (absent && not request.put) && ends_new (key_path_in shard request.key) shard.frontier shard.value links

-- the links that have records on the way to the key
abbrev pub links_known : Shard → List Link → Request → List Link
links_known shard links request = known_links (key_path_in shard request.key) shard.frontier shard.value links

-- the links that a request goes along: the whole chain, or of a key that it misses those that have records
abbrev pub links_gone : Shard → List Link → Request → Bool → List Link
links_gone shard links request missed = if missed then links_known shard links request else links

-- the key's value before the request: none where it has no record
abbrev pub value_before : Shard → List Link → Bool → Value
value_before shard links missed = if missed then values.Blob None else last_value shard.value links

-- the command at the end of the links: that of the request, or that the key is absent under the last of them
abbrev pub end_command : Shard → List Link → Request → Bool → Command
end_command shard links request missed =
    if missed then Absent (key_path_in shard request.key) (end_path shard.frontier (links_known shard links request))
    else command_of (wide_in shard) request (last_value shard.value links)

-- The commands of a request for a key of a shard, along the chain to it, whether it misses the key or not.
abbrev pub cold_commands : Shard → List Link → Request → Reading → Bool → List Command
cold_commands shard links request clock missed =
    between (pending_shard shard) (renewing clock shard.stamp).at
    (visit shard.frontier (links_gone shard links request missed) (end_command shard links request missed ∷ []))

-- a get of a key that has a record
abbrev pub is_read : Shard → Request → Bool
is_read shard request = not request.put && is_some (shard.records (key_path_in shard request.key))

-- no record changes: the request misses its key, or reads its record
abbrev pub stays : Shard → Request → Bool → Bool
stays shard request missed = missed || is_read shard request

-- The shard behind these commands: the values that they leave, and one touch more of the key, but where that was missed.
abbrev pub gone_along : Digest → Shard → List Link → Request → Bool → Shard
gone_along digest shard links request missed =
    let same = stays shard request missed in
    let last = value_after request (last_value shard.value links) in
    record shard {
      value = if same then shard.value else closed_value digest false shard.frontier shard.value links last;
      records = if same then shard.records else closed_records digest false shard.records links last;
      touches = if missed then shard.touches else touched shard.touches (key_path_in shard request.key);
    }

-- The shard after it: that with the stamp of the last evict, and this worker as evictor.
abbrev pub served : Digest → ℕ → Shard → List Link → Request → Reading → Bool → Shard
served digest worker shard links request clock missed =
    record (gone_along digest shard links request missed) { stamp = (renewing clock shard.stamp).at; evictor = worker }

-- The commands of a request for a hot key.
abbrev pub hot_commands : HotRecord → Request → Reading → List Command
hot_commands hot request clock =
    between (pending_hot hot) (renewing clock hot.stamp).at
    (command_of hot.wide request (values.Blob hot.value) ∷ [])

-- The hot record after it.
abbrev pub served_hot : ℕ → HotRecord → Request → Reading → HotRecord
served_hot worker hot request clock = record {
  wide = hot.wide;
  key = hot.key;
  value = if request.put then request.value else hot.value;
  stamp = (renewing clock hot.stamp).at;
  evictor = worker;
  touches = one_more hot.touches;
}

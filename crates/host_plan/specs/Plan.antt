-- What a plan is, and of which contents there is one.
use Rattle.std.specs.Prelude.{◌≡◌, ℕ, ◌<◌, Bool, List, [], None, IsTrue}
use Rattle.std.specs.List.{IsAmong}
use Rattle.lamport_clocks.specs.Clock.{is_open}
use Rattle.lamport_clocks.specs.Reading.{Reading}
use Rattle.record_text.specs.declared.request.Request.{Request}
use Rattle.record_text.specs.declared.value.Value.{Value}
use Rattle.record_text.specs.declared.value.Value.TheVariants as values
use Rattle.log_codec.specs.declared.command.Command.{Command}
use Rattle.merkle_records.specs.Merkle.{Digest}
use Rattle.host_shard.specs.declared.link.Link.{Link}
use Rattle.host_shard.specs.Chain.{IsChain}
use Rattle.host_shard.specs.Shard.{Shard, key_path_in, tree_of}
use Rattle.host_shard.specs.Content.{Content, cold, hot, vacant}
use Rattle.host_shard.specs.Mirrors.{IsShard, IsKeyOf, Mirrors}
use Rattle.host_plan.specs.declared.plans.Plan.{Plan}
use Rattle.host_plan.specs.Moments.{renewing}
use Rattle.host_plan.specs.Request.{is_missed, value_before, cold_commands, hot_commands, served, served_hot, value_after}

-- The content owns the key: it is a shard below whose frontier the key lies, or the key's hot record.
abbrev pub Owns : ℕ → Content → ℕ → Type 0
Owns longest (cold shard) key = IsShard longest shard × IsKeyOf shard (key_path_in shard key)
Owns longest (hot record') key = record'.key ≡ key
Owns longest vacant key = ⊥

-- A shard that mirrors, for some hot keys of which the key is none.
pub record IsServable (longest : ℕ) (digest : Digest) (shard : Shard) (key : List Bool) : Type 0 where
  pub hot : List (List Bool)
  pub fits : IsShard longest shard
  pub mirrors : Mirrors digest shard hot
  pub own : IsKeyOf shard key
  pub cold : IsAmong hot key → ⊥

-- The content owns the key and mirrors.
abbrev pub CanServe : ℕ → Digest → Content → ℕ → Type 0
CanServe longest digest (cold shard) key = IsServable longest digest shard (key_path_in shard key)
CanServe longest digest (hot record') key = record'.key ≡ key
CanServe longest digest vacant key = ⊥

-- the stamp with which a content waits is of an epoch that the clock takes
abbrev pub IsOpenAt : Reading → Content → Type 0
IsOpenAt clock (cold shard) = IsTrue (is_open clock shard.stamp.epoch)
IsOpenAt clock (hot record') = IsTrue (is_open clock record'.stamp.epoch)
IsOpenAt clock vacant = Unit {0}

-- the clock once the content's element was taken in and handed out again
abbrev pub clock_after : Content → Reading → Reading
clock_after (cold shard) clock = renewing clock shard.stamp
clock_after (hot record') clock = renewing clock record'.stamp
clock_after vacant clock = clock

-- the two counters that a request takes pass the end
abbrev pub IsPastEnd : Content → Reading → Type 0
IsPastEnd content clock = clock.end < (clock_after content clock).at.counter

-- the links from what is taken in to the key: the chain in a shard, and none at a hot record
abbrev pub AreLinks : Content → ℕ → List Link → Type 0
AreLinks (cold shard) key links = IsChain (tree_of shard) (key_path_in shard key) shard.frontier shard.value links
AreLinks (hot record') key links = links ≡ []
AreLinks vacant key links = ⊥

-- the key's value before the request
abbrev pub value_found : Bool → Content → List Link → Request → Value
value_found absent (cold shard) links request = value_before shard links (is_missed absent shard links request)
value_found absent (hot record') links request = values.Blob record'.value
value_found absent vacant links request = values.Blob None

-- the commands of a request
abbrev pub commands_of : Bool → Content → List Link → Request → Reading → List Command
commands_of absent (cold shard) links request clock = cold_commands shard links request clock (is_missed absent shard links request)
commands_of absent (hot record') links request clock = hot_commands record' request clock
commands_of absent vacant links request clock = []

-- the content after it, where this worker serves it
abbrev pub content_after : Bool → Digest → ℕ → Content → List Link → Request → Reading → Content
content_after absent digest worker (cold shard) links request clock =
    cold (served digest worker shard links request clock (is_missed absent shard links request))
content_after absent digest worker (hot record') links request clock = hot (served_hot worker record' request clock)
content_after absent digest worker vacant links request clock = vacant

-- The plan of a request: its commands along the links to the key and its answer, which is the key's value after it, and
-- the content and the clock that it leaves. Where `absent`, a get of a key that has no record makes none.
pub record IsPlan (absent : Bool) (digest : Digest) (worker : ℕ) (old : Content) (request : Request) (start : Reading)
    (plan : Plan) (new : Content) (end : Reading) : Type 0 where
  pub links : List Link
  pub way : AreLinks old request.key links
  pub commands : plan.commands ≡ commands_of absent old links request start
  pub answer : values.Blob plan.answer ≡ value_after request (value_found absent old links request)
  pub content : new ≡ content_after absent digest worker old links request start
  pub clock : end ≡ clock_after old start

-- What a request's commands do to the verifier of its worker.
use Rattle.std.specs.Prelude.{◌≡◌, ◌⊎◌, ℕ, ◌<◌, ◌≤◌, Bool, List, [], ◌∷◌, Option, Some, None, IsTrue, Ok}
use Rattle.std.specs.List.{AllByRecursion}
use Rattle.tree_keys.specs.Path.{IsBelow, key_bits, key_path}
use Rattle.lamport_clocks.specs.declared.stamp.Stamp.{Stamp}
use Rattle.lamport_clocks.specs.Stamp.{IsLater}
use Rattle.lamport_clocks.specs.Reading.{Reading}
use Rattle.record_text.specs.declared.element.Element.{Element}
use Rattle.record_text.specs.declared.request.Request.{Request}
use Rattle.record_text.specs.declared.value.Value.{Value}
use Rattle.record_text.specs.declared.value.Value.TheVariants as values
use Rattle.verifier_cache.specs.declared.entry.Entry.{Entry}
use Rattle.verifier_commands.specs.declared.state.State.{State}
use Rattle.verifier_commands.specs.Transition.{Rules, is_root}
use Rattle.host_shard.specs.Content.{wide_at, Content, cold, hot, vacant, pending}
use Rattle.host_plan.specs.Plan.{IsOpenAt, clock_after}
use Rattle.host_plan.specs.declared.plans.Plan.{Plan}
use Rattle.host_laws.specs.Running.{Told, Access, run, added_told, evicted_told, accesses_told}
use Rattle.host_laws.specs.Carried.{IsCarried, carried}

-- nothing is cached but a root, if even that
abbrev pub IsBare : List Entry → Type 0
IsBare entries = (entries ≡ []) ⊎ ((root : Entry) × IsTrue (is_root root.path) × (entries ≡ root ∷ []))

-- A verifier at rest that may take a content in: there is room for each path above a key, and the content's element is of
-- one of the verifiers and of an open epoch.
pub record IsResting (rules : Rules) (state : State) (content : Content) : Type 0 where
  pub bare : IsBare state.cache.entries
  pub room : key_bits (wide_at content) < state.cache.room
  pub known : (element : Element) → pending content ≡ Some element → element.verifier < rules.verifiers
  pub open_epoch : IsOpenAt state.clock content

-- and it can, where its clock has the two counters left that this takes
pub record CanTake (rules : Rules) (state : State) (content : Content) : Type 0 where
  pub rest : IsResting rules state content
  pub counters : (clock_after content state.clock).at.counter ≤ state.clock.end

-- the element with which a content waits, if it does
abbrev pub waiting : Option Element → List Element
waiting None = []
waiting (Some element) = element ∷ []

-- the record that a content keeps of a path
abbrev pub kept_in : Content → List Bool → Option Value
kept_in (cold shard) path = shard.records path
kept_in (hot record') path = None
kept_in vacant path = None

-- the path lies below the content's frontier
abbrev pub IsOwned : Content → List Bool → Type 0
IsOwned (cold shard) path = IsBelow shard.frontier path
IsOwned (hot record') path = ⊥
IsOwned vacant path = ⊥

-- the first stamp is the other or a later one
abbrev pub IsFrom : Stamp → Stamp → Type 0
IsFrom t s = IsLater t s ⊎ (t ≡ s)

-- what was done is later than the stamp with which one content waits, and up to that with which the other does
abbrev pub IsWithin : Option Element → Option Element → Stamp → Type 0
IsWithin None after at = ⊥
IsWithin (Some before) None at = ⊥
IsWithin (Some before) (Some after) at = IsLater at before.stamp × IsFrom after.stamp at

-- the get or put of a request for a key of a tree that was answered so
abbrev pub access_for : Bool → Request → Option (List ℕ) → Access
access_for wide request answer = record { put = request.put; path = key_path wide request.key; value = values.Blob answer }

-- The plan of a request runs: the verifier accepts its commands, the same entries are cached afterwards, and the clock is
-- the plan's. They add the element with which the content waited and no other, and evict that with which the content
-- after it waits and no other; they do the request's access with the answer. Each record below the frontier is carried
-- once at most, as it is kept before and after, and no other record; and all is done after the one stamp, up to the other.
pub record PlanRuns (rules : Rules) (state : State) (content after : Content) (request : Request) (plan : Plan) (later : Reading) : Type 0 where
  pub told : Told
  pub runs : run rules state plan.commands ≡ Ok (told, record state { clock = later })
  pub added : added_told told ≡ waiting (pending content)
  pub evicted : evicted_told told ≡ waiting (pending after)
  pub access : accesses_told told ≡ access_for (wide_at content) request plan.answer ∷ []
  pub once : (path : List Bool) → IsCarried path (kept_in content path) (kept_in after path) (carried path told)
  pub own : (path : List Bool) → (IsOwned content path → ⊥) → carried path told ≡ []
  pub within : AllByRecursion (λ one. IsWithin (pending content) (pending after) one.0) told

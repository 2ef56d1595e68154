-- What a host does at its places, as a machine over all places and workers sees it.
use Rattle.std.specs.Prelude.{ℕ, suc, ◌+◌, ◌==◌, Bool, List, [], ◌∷◌, ◌++◌, map, filter, Option}
use Rattle.lamport_clocks.specs.declared.header.Header.{Header}
use Rattle.lamport_clocks.specs.Reading.{Reading}
use Rattle.record_hash.specs.Functions.{DigestFunctions}
use Rattle.record_text.specs.declared.element.Element.{Element}
use Rattle.record_text.specs.declared.request.Request.{Request}
use Rattle.log_codec.specs.declared.command.Command.{Command}
use Rattle.merkle_records.specs.Scheme.{Scheme, scheme_of}
use Rattle.verifier_cache.specs.Cache.{Held}
use Rattle.verifier_commands.specs.declared.state.State.{State}
use Rattle.soundness.specs.StateHistory.{Machinery, rules_under}
use Rattle.soundness.specs.PathHistory.{path_machinery_under}

-- what a worker did: the commands that join its log, what it made of what it had, and its clock after
pub record Done (X : Type 0) : Type 0 where
  pub commands : List Command
  pub after : X
  pub clock : Reading

-- A host over contents of places and requests of any kind: its numbers, what each verifier caches between requests, the
-- script, phase by phase, with the worker of each request, and what a worker does for the setup, for a request at a
-- place and for a shard at a close. The last two are none where the clock would pass its end. `vacant` is the content of
-- a place with no record, `owns` whether a request is served at a seat of a shard with these contents, and `rolling` whether
-- the whole script is served in one round, in which workers go on to the next epoch without waiting for a phase's end.
pub record Host (Content Ask : Type 0) : Type 0 where
  pub functions : DigestFunctions
  pub header : Header
  pub cache : ℕ → Held
  pub vacant : Content
  pub pending : Content → List Element
  pub owns : ℕ → List Content → ℕ → Ask → Bool
  pub telling : Ask → Request
  pub script : List (List (ℕ × Ask))
  pub rolling : Bool
  pub setup : Done (List (List Content))
  pub serve : ℕ → Reading → Content → Ask → Option (Done Content)
  pub move : ℕ → Reading → ℕ → List Content → Option (Done (List Content))

-- the scheme of the host's logs
abbrev pub scheme : {C R : Type 0} → Host C R → Scheme
scheme host = scheme_of host.functions host.header

-- the verifier of this number
abbrev pub machinery : {C R : Type 0} → Host C R → ℕ → Machinery State Command
machinery host i = path_machinery_under (rules_under (scheme host) host.header i)

-- the state of a verifier between requests, where its clock stands so
abbrev pub resting : {C R : Type 0} → Host C R → ℕ → Reading → State
resting host i clock = record { cache = host.cache i; clock = clock }

-- ---- the script

-- what a phase asks of a worker, in order, each with the phase's number
abbrev pub asked_in : {R : Type 0} → ℕ → ℕ → List (ℕ × R) → List (ℕ × R)
asked_in i phase turns = map (λ turn. (phase, turn.1)) (filter (λ turn. turn.0 == i) turns)

-- the same of phases, the first of which has this number
abbrev pub asked_from : {R : Type 0} → ℕ → ℕ → List (List (ℕ × R)) → List (ℕ × R)
asked_from i phase [] = []
asked_from i phase (turns ∷ script) = asked_in i phase turns ++ asked_from i (suc phase) script

-- What the script asks of a worker, in order, each request with the number of its phase.
abbrev pub asked : {C R : Type 0} → Host C R → ℕ → List (ℕ × R)
asked host i = asked_from i 0 host.script

-- the same as gets and puts, with the epochs in which they are to be answered
abbrev pub script_of : {C R : Type 0} → Host C R → ℕ → List (ℕ × Request)
script_of host i = map (λ ask. (host.header.first + ask.0, host.telling ask.1)) (asked host i)

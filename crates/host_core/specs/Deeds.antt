-- What the machine takes of a host: that the commands of the setup, of a request and of a moved shard fit the verifiers.
-- `mirrors s contents` says of the contents of shard s that their pointers lead to their records.
use Rattle.std.specs.Prelude.{◌≡◌, ℕ, suc, ◌+◌, ◌<◌, ◌≤◌, true, false, List, [], ◌∷◌, map, length, get_or, set, None, Some, if◌then◌else◌}
use Rattle.std.specs.List.{flat_map, AllByRecursion}
use Rattle.lamport_clocks.specs.Reading.{Reading, IsReading}
use Rattle.lamport_clocks.specs.Clock.{is_open, opening_reading}
use Rattle.record_text.specs.declared.element.Element.{Element}
use Rattle.record_text.specs.declared.operation.Operation.{Operation}
use Rattle.record_text.specs.declared.request.Request.{Request}
use Rattle.record_text.specs.Tree.{wide_of}
use Rattle.record_text.specs.Longest.{longest_of}
use Rattle.log_codec.specs.declared.command.Command.{Command}
use Rattle.verifier_commands.specs.declared.state.State.{State}
use Rattle.verifier_commands.specs.State.{opening}
use Rattle.soundness.specs.History.{Event}
use Rattle.soundness.specs.StateHistory.{events_from}
use Rattle.soundness.specs.Certified.{operations_in, sealed_count}
use Rattle.soundness.specs.Timed.{added_among, evicted_among}
use Rattle.soundness.specs.Typed.{IsPathTypedIn}
use Rattle.soundness.specs.Permutation.{count_of}
use Rattle.host_core.specs.Accepted.{state_from, IsAccepted}
use Rattle.host_core.specs.Host.{Done, Host, machinery, resting}

-- ---- elements and answers

-- the pending elements of contents
abbrev pub pending_of : {C R : Type 0} → Host C R → List C → List Element
pending_of host contents = flat_map host.pending contents

-- the same elements, each as often
abbrev pub AreSame : List Element → List Element → Type 0
AreSame xs ys = (x : Element) → count_of x xs ≡ count_of x ys

-- what an operation answers: a get asks for no value
abbrev pub request_of : Operation → Request
request_of operation = record {
  put = operation.put;
  key = operation.key;
  value = if operation.put then operation.value else None;
}

-- the answers among events, each with its epoch
abbrev pub answers_in : List Event → List (ℕ × Request)
answers_in events = map (λ operation. (operation.stamp.epoch, request_of operation)) (operations_in events)

-- an answer in this epoch to a request of this phase: the epoch is the phase's, or of a rolling host that or a later one
abbrev pub IsInTime : {C R : Type 0} → Host C R → ℕ → ℕ → Type 0
IsInTime host epoch phase = (host.header.first + phase ≤ epoch) × (host.rolling ≡ false → epoch ≡ host.header.first + phase)

-- these answers, each with its epoch, are to these requests, each with its phase
abbrev pub IsAnswering : {C R : Type 0} → Host C R → List (ℕ × Request) → List (ℕ × R) → Type 0
IsAnswering host [] [] = Unit {0}
IsAnswering host [] (ask ∷ asks) = ⊥
IsAnswering host (answer ∷ answers) [] = ⊥
IsAnswering host (answer ∷ answers) (ask ∷ asks) =
    (answer.1 ≡ host.telling ask.1) × IsInTime host answer.0 ask.0 × IsAnswering host answers asks

-- a worker below the host's number of verifiers evicted the element in this epoch
abbrev pub IsStamped : {C R : Type 0} → Host C R → ℕ → Element → Type 0
IsStamped host epoch element = (element.verifier < host.header.verifiers) × (element.stamp.epoch ≡ epoch)

-- the pending elements of these contents are of this epoch
abbrev pub AreStamped : {C R : Type 0} → Host C R → ℕ → List C → Type 0
AreStamped host epoch contents = AllByRecursion (IsStamped host epoch) (pending_of host contents)

-- a worker whose clock stands so can take the element in: a verifier of the host evicted it, in the clock's epoch or, where
-- that is not the first, in the one before
abbrev pub IsOpenElement : {C R : Type 0} → Host C R → Reading → Element → Type 0
IsOpenElement host clock element = (element.verifier < host.header.verifiers) × (is_open clock element.stamp.epoch ≡ true)

-- the clock is one of a worker of this host
pub record IsClock {C R : Type 0} (host : Host C R) (clock : Reading) : Type 0 where
  pub first : clock.first ≡ host.header.first
  pub end : clock.end ≡ host.header.end
  pub reading : IsReading clock

-- ---- deeds

-- From this state the verifier accepts the commands, and is at rest behind them, in the same epoch. They add the
-- pending elements of the contents before, evict those of the contents after, and answer these requests.
pub record IsDeed {C R : Type 0} (host : Host C R) (i : ℕ) (from : State) (commands : List Command) (clock : Reading)
    (old new : List C) (answers : List (ℕ × Request)) : Type 0 where
  pub typed : AllByRecursion (IsPathTypedIn (wide_of host.header) (longest_of host.header)) commands
  pub accepted : IsAccepted (machinery host i) from commands
  pub rests : state_from (machinery host i) from commands ≡ resting host i clock
  pub is_clock : IsClock host clock
  pub epoch : clock.at.epoch ≡ from.clock.at.epoch
  pub stamped : AreStamped host clock.at.epoch new
  pub added : (index : ℕ) → AreSame (added_among (events_from (machinery host i) i index from commands)) (pending_of host old)
  pub evicted : (index : ℕ) → AreSame (evicted_among (events_from (machinery host i) i index from commands)) (pending_of host new)
  pub answered : (index : ℕ) → answers_in (events_from (machinery host i) i index from commands) ≡ answers
  pub unsealed : (index : ℕ) → sealed_count (events_from (machinery host i) i index from commands) ≡ 0

module _ {C R : Type 0} (mirrors : ℕ → List C → Type 0) where
  -- a worker's clock, and a shard at which it may do something: the shard mirrors, and its elements are of this epoch
  pub record IsReady (host : Host C R) (i : ℕ) (clock : Reading) (epoch s : ℕ) (contents : List C) : Type 0 where
    pub known : i < host.header.verifiers
    pub is_clock : IsClock host clock
    pub mirrored : mirrors s contents
    pub stamped : AreStamped host epoch contents

  -- A worker's clock, and a seat of a shard at which it may serve: the shard mirrors, and the clock can take in what waits at the
  -- seat. In a host that is not rolling all that waits in the shard is of the clock's epoch.
  pub record IsReadyAt (host : Host C R) (i : ℕ) (clock : Reading) (s seat : ℕ) (contents : List C) : Type 0 where
    pub known : i < host.header.verifiers
    pub is_clock : IsClock host clock
    pub mirrored : mirrors s contents
    pub open_epochs : AllByRecursion (IsOpenElement host clock) (host.pending (get_or contents seat host.vacant))
    pub level : host.rolling ≡ false → AreStamped host clock.at.epoch contents

  -- a served request fits: it is a deed at its seat alone, and the shard mirrors again
  pub record ServeFits (host : Host C R) (i : ℕ) (clock : Reading) (s seat : ℕ) (contents : List C) (request : R)
      (done : Done C) : Type 0 where
    pub deed : IsDeed host i (resting host i clock) done.commands done.clock
        (get_or contents seat host.vacant ∷ []) (done.after ∷ []) ((clock.at.epoch, host.telling request) ∷ [])
    pub mirrored : mirrors s (set contents seat done.after)

  -- a moved shard fits: it is a deed at all of its seats, and the shard mirrors again
  pub record MoveFits (host : Host C R) (i : ℕ) (clock : Reading) (s : ℕ) (contents : List C)
      (done : Done (List C)) : Type 0 where
    pub deed : IsDeed host i (resting host i clock) done.commands done.clock contents done.after []
    pub mirrored : mirrors s done.after

  -- Whatever the host does fits. In a rolling host something waits at each place that owns a request.
  pub record IsFit (host : Host C R) : Type 0 where
    pub some : 1 ≤ host.header.verifiers
    pub others : (i : ℕ) → 1 ≤ i → opening i host.header ≡ resting host i (opening_reading host.header.first host.header.end)
    pub setup : IsDeed host 0 (opening 0 host.header) host.setup.commands host.setup.clock
        [] (flat_map (λ contents. contents) host.setup.after) []
    pub waits : host.rolling ≡ true → (s seat : ℕ) (contents : List C) (request : R) → host.owns s contents seat request ≡ true
        → host.pending (get_or contents seat host.vacant) ≡ [] → ⊥
    pub setup_mirrored : (s : ℕ) → s < length host.setup.after → mirrors s (get_or host.setup.after s [])
    pub serve : (i : ℕ) (clock : Reading) (s seat : ℕ) (contents : List C) (request : R) (done : Done C)
        → IsReadyAt host i clock s seat contents → seat < length contents → host.owns s contents seat request ≡ true
        → host.serve i clock (get_or contents seat host.vacant) request ≡ Some done
        → ServeFits host i clock s seat contents request done
    pub move : (i epoch : ℕ) (clock : Reading) (s : ℕ) (contents : List C) (done : Done (List C))
        → IsReady host i clock epoch s contents → clock.at.epoch ≡ suc epoch
        → host.move i clock s contents ≡ Some done
        → MoveFits host i clock s contents done

-- What the only worker of a host does, one deed after another: which deeds a script asks of it, and what each makes of the shards, its
-- clock and its log.
use Rattle.std.specs.Prelude.{◌≡◌, ℕ, zero, suc, ◌<◌, ◌==◌, Bool, true, List, [], ◌∷◌, ◌++◌, map, filter, length, get_or, set, Option, Some}
use Rattle.lamport_clocks.specs.Reading.{Reading}
use Rattle.log_codec.specs.declared.command.Command.{Command}
use Rattle.log_codec.specs.declared.command.Command.TheVariants.{NextEpoch}
use Rattle.record_text.specs.declared.element.Element.{Element}
use Rattle.host_core.specs.Host.{Host, Done}
use Rattle.host_core.specs.World.{Place, World, worker_at}
use Rattle.host_core.specs.WorldEvent.{next_clock}

-- a deed of a worker
pub data Deed (Ask : Type 0) : Type 0 where
  -- it serves a request
  serving : Ask → Deed Ask
  -- it takes a shard's element in and hands it out again
  renewing : ℕ → Deed Ask
  -- it goes on to the next epoch
  turning : Deed Ask

-- ---- which deeds a script asks

-- the requests that a phase asks of worker 0
abbrev pub own_turns : {R : Type 0} → List (ℕ × R) → List (ℕ × R)
own_turns turns = filter (λ turn. turn.0 == 0) turns

-- each is served, in order
abbrev pub served_in : {R : Type 0} → List (ℕ × R) → List (Deed R)
served_in turns = map (λ turn. serving turn.1) turns

-- so many shards are renewed, in order, from one on
abbrev pub renewals : {R : Type 0} → ℕ → ℕ → List (Deed R)
renewals s zero = []
renewals s (suc count) = renewing s ∷ renewals (suc s) count

-- an epoch begins: the worker goes on to it, and renews so many shards
abbrev pub new_epoch : {R : Type 0} → ℕ → List (Deed R)
new_epoch shards = turning ∷ renewals 0 shards

-- of each phase a new epoch, and the phase's requests
abbrev pub phases_behind : {R : Type 0} → ℕ → List (List (ℕ × R)) → List (Deed R)
phases_behind shards [] = []
phases_behind shards (turns ∷ script) = new_epoch shards ++ (served_in (own_turns turns) ++ phases_behind shards script)

-- the requests of the first phase, and then the other phases
abbrev pub phases : {R : Type 0} → ℕ → List (List (ℕ × R)) → List (Deed R)
phases shards [] = []
phases shards (turns ∷ script) = served_in (own_turns turns) ++ phases_behind shards script

-- The deeds of a whole run where there are so many shards: the phases, and then the last close, which is a new epoch and one more.
abbrev pub all_deeds : {R : Type 0} → ℕ → List (List (ℕ × R)) → List (Deed R)
all_deeds shards script = phases shards script ++ (new_epoch shards ++ turning ∷ [])

-- ---- what a deed makes

-- what a host does at its places, whatever its mode
pub record Acts (Content Ask : Type 0) : Type 0 where
  pub vacant : Content
  pub pending : Content → List Element
  pub owns : ℕ → List Content → ℕ → Ask → Bool
  pub serve : ℕ → Reading → Content → Ask → Option (Done Content)
  pub move : ℕ → Reading → ℕ → List Content → Option (Done (List Content))

abbrev pub acts_of : {C R : Type 0} → Host C R → Acts C R
acts_of host = record { vacant = host.vacant; pending = host.pending; owns = host.owns; serve = host.serve; move = host.move }

-- the contents of each shard's seats, and the clock and the log of the only worker
pub record Standing (Content : Type 0) : Type 0 where
  pub shards : List (List Content)
  pub clock : Reading
  pub log : List Command

-- how a world with one worker stands
abbrev pub standing_in : {C R : Type 0} → Host C R → World C → Standing C
standing_in host world = record {
  shards = map (λ shard. shard.contents) world.shards;
  clock = (worker_at host world 0).clock;
  log = (worker_at host world 0).log;
}

-- the contents of a shard's seats
abbrev pub seats_of : {C : Type 0} → Standing C → ℕ → List C
seats_of standing s = get_or standing.shards s []

-- once a shard has other contents
abbrev pub standing_behind : {C : Type 0} → Standing C → ℕ → Done (List C) → Standing C
standing_behind from s done = record {
  shards = set from.shards s done.after;
  clock = done.clock;
  log = from.log ++ done.commands;
}

module _ {C R : Type 0} (acts : Acts C R) where
  -- it serves the request at a place that owns it
  pub record IsServed (from : Standing C) (request : R) (to : Standing C) : Type 0 where
    pub place : Place
    pub done : Done C
    pub there : place.shard < length from.shards
    pub seated : place.seat < length (seats_of from place.shard)
    pub owns : acts.owns place.shard (seats_of from place.shard) place.seat request ≡ true
    pub serves : acts.serve 0 from.clock (get_or (seats_of from place.shard) place.seat acts.vacant) request ≡ Some done
    pub is : to ≡ standing_behind from place.shard
        (record { commands = done.commands; after = set (seats_of from place.shard) place.seat done.after; clock = done.clock })

  -- it renews the shard as the host moves it
  pub record IsRenewed (from : Standing C) (s : ℕ) (to : Standing C) : Type 0 where
    pub done : Done (List C)
    pub there : s < length from.shards
    pub moves : acts.move 0 from.clock s (seats_of from s) ≡ Some done
    pub is : to ≡ standing_behind from s done

  abbrev pub IsDone : Standing C → Deed R → Standing C → Type 0
  IsDone from (serving request) to = IsServed from request to
  IsDone from (renewing s) to = IsRenewed from s to
  IsDone from turning to = to ≡ record from { clock = next_clock from.clock; log = from.log ++ NextEpoch ∷ [] }

  -- these deeds lead from one to the other
  abbrev pub AreDone : Standing C → List (Deed R) → Standing C → Type 0
  AreDone from [] to = from ≡ to
  AreDone from (deed ∷ deeds) to = (middle : Standing C) × IsDone from deed middle × AreDone middle deeds to

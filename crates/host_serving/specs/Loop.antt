-- What the loop of the only worker of a rolling host keeps to, as its list of turns shows.
use Rattle.std.specs.Prelude.{◌≡◌, ◌≢◌, ◌⊎◌, ℕ, ◌+◌, ◌<◌, ◌≤◌, List, [], ◌∷◌, slice_get, Option, Some, None}
use Rattle.std.specs.List.{AllByRecursion}
use Rattle.host_core.specs.Host.{Host, asked}
use Rattle.round_order.specs.Turn.{Turn, served_more}

-- ---- what waits

module _ {C R : Type 0} (host : Host C R) where
  -- a turn that serves a request finds what waits at its place of its clock's epoch
  abbrev pub IsFresh : Turn C R → Option R → Type 0
  IsFresh turn None = Unit {0}
  IsFresh turn (Some request) = AllByRecursion (λ element. element.stamp.epoch ≡ turn.clock.at.epoch) (host.pending turn.before)

  abbrev pub AreFresh : List (Turn C R) → Type 0
  AreFresh turns = AllByRecursion (λ turn. IsFresh turn turn.request) turns

-- ---- in which order shards are scanned

-- no turn was before, or one of another epoch
abbrev pub IsFirstOf : Option ℕ → ℕ → Type 0
IsFirstOf None epoch = Unit {0}
IsFirstOf (Some before) epoch = before ≢ epoch

-- A scan of this shard in the same epoch may follow a turn that is a scan of a lower shard, or that serves a request and is the first
-- turn of its epoch. The number is the epoch of the turn before that.
abbrev pub MayBeScanned : {C R : Type 0} → Option ℕ → Turn C R → Option R → ℕ → Type 0
MayBeScanned before turn None s = turn.place.shard < s
MayBeScanned before turn (Some request) s = IsFirstOf before turn.clock.at.epoch

-- each scan that follows a turn of its epoch may follow it
abbrev pub AreInOrderBehind : {C R : Type 0} → Option ℕ → Turn C R → List (Turn C R) → Type 0
AreInOrderBehind before turn [] = Unit {0}
AreInOrderBehind before turn (next ∷ turns) =
    (next.request ≡ None → next.clock.at.epoch ≡ turn.done.clock.at.epoch → MayBeScanned before turn turn.request next.place.shard)
    × AreInOrderBehind (Some turn.done.clock.at.epoch) next turns

abbrev pub AreInOrder : {C R : Type 0} → List (Turn C R) → Type 0
AreInOrder [] = Unit {0}
AreInOrder (turn ∷ turns) = AreInOrderBehind None turn turns

-- ---- when it goes on

-- the epoch of the last turn that served a request
abbrev pub serving_epoch : {C R : Type 0} → ℕ → Turn C R → Option R → ℕ
serving_epoch epoch turn None = epoch
serving_epoch epoch turn (Some request) = turn.clock.at.epoch

module _ {C R : Type 0} (host : Host C R) where
  -- a request, the worker's next, is served in no later epoch than this, or than that of its phase
  abbrev pub IsNoLater : ℕ → ℕ → Turn C R → Option R → Type 0
  IsNoLater served epoch turn None = Unit {0}
  IsNoLater served epoch turn (Some request) = (phase : ℕ) → slice_get (asked host 0) served ≡ Some (phase, request)
      → (turn.clock.at.epoch ≤ epoch) ⊎ (turn.clock.at.epoch ≤ host.header.first + phase)

  -- Each request is served in no later epoch than the one before it, where its phase does not ask for a later one; the first, behind
  -- so many, in no later epoch than this.
  abbrev pub AreNoLater : ℕ → ℕ → List (Turn C R) → Type 0
  AreNoLater served epoch [] = Unit {0}
  AreNoLater served epoch (turn ∷ turns) =
      IsNoLater served epoch turn turn.request
      × AreNoLater (served_more served turn.request) (serving_epoch epoch turn turn.request) turns

  -- What the loop keeps to, from this epoch on, where so many requests were served before.
  pub record KeepsToLoop (served epoch : ℕ) (turns : List (Turn C R)) : Type 0 where
    pub fresh : AreFresh host turns
    pub in_order : AreInOrder turns
    pub no_later : AreNoLater served epoch turns

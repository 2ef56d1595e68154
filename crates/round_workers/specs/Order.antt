-- In what order a worker does its turns of a round, what its requests find at its own places, and how soon it goes on.
use Rattle.std.specs.Prelude.{◌≡◌, ◌⊎◌, ℕ, ◌+◌, ◌%◌, ◌<◌, ◌≤◌, max, List, [], ◌∷◌, Option, Some, None}
use Rattle.std.specs.List.{AllByRecursion}
use Rattle.record_text.specs.declared.request.Request.{Request}
use Rattle.host_shard.specs.Content.{Content}
use Rattle.round_order.specs.Turn.{Turn}
use Rattle.host_epochs.specs.Terms.{Waits}

-- ---- what is found

-- a request at a place of its worker's own finds an element of its clock's epoch
abbrev pub IsFresh : ℕ → Turn Content Request → Option Request → Type 0
IsFresh workers turn None = Unit {0}
IsFresh workers turn (Some request) = turn.place.shard % workers ≡ turn.worker → Waits (λ epoch. epoch ≡ turn.clock.at.epoch) turn.before

abbrev pub AreFresh : ℕ → List (Turn Content Request) → Type 0
AreFresh workers turns = AllByRecursion (λ turn. IsFresh workers turn turn.request) turns

-- ---- scans first

-- Whether a scan of a shard may come directly behind a turn in the same epoch, where that turn's worker came from an epoch: behind a
-- scan one of a later shard, and behind a request any, but only where the request was the first turn of its epoch.
abbrev pub MayFollow : {C R : Type 0} → ℕ → Turn C R → Option R → ℕ → Type 0
MayFollow from turn None shard = turn.place.shard < shard
MayFollow from turn (Some request) shard = from < turn.clock.at.epoch

-- before its first turn a worker doesn't scan in the epoch in which it began
abbrev pub NoneMay : ℕ → Type 0
NoneMay shard = ⊥

-- a scan is at the first place of a shard, and is the first turn of its epoch, or may follow the turn before it
abbrev pub IsInOrder : {C R : Type 0} → ℕ → (ℕ → Type 0) → Turn C R → Option R → Type 0
IsInOrder from Follows turn None = (turn.place.seat ≡ 0) × ((from < turn.clock.at.epoch) ⊎ Follows turn.place.shard)
IsInOrder from Follows turn (Some request) = Unit {0}

-- A worker that came from an epoch does its scans before all else in each epoch, in the order of the shards, but for one request at
-- most with which it may have come there.
abbrev pub AreInOrder : {C R : Type 0} → ℕ → (ℕ → Type 0) → List (Turn C R) → Type 0
AreInOrder from Follows [] = Unit {0}
AreInOrder from Follows (turn ∷ turns) =
    IsInOrder from Follows turn turn.request × AreInOrder turn.done.clock.at.epoch (MayFollow from turn turn.request) turns

-- ---- no sooner than it is asked

-- The last epoch that is called for: that of the last request served, or that of the next one's phase, where this is later; and where
-- nothing is left to do the final one.
abbrev pub called_epoch : {R : Type 0} → ℕ → ℕ → ℕ → List (ℕ × R) → ℕ
called_epoch first final served [] = final
called_epoch first final served (next ∷ asked) = max served (first + next.0)

-- what is left to do behind a turn of this request, or of none
abbrev pub left_behind : {R : Type 0} → Option R → List (ℕ × R) → List (ℕ × R)
left_behind None asked = asked
left_behind (Some request) [] = []
left_behind (Some request) (next ∷ asked) = asked

-- the epoch of the last request served
abbrev pub served_in : {C R : Type 0} → ℕ → Turn C R → Option R → ℕ
served_in served turn None = served
served_in served turn (Some request) = turn.clock.at.epoch

-- No turn is of a later epoch than is called for, and neither is the last epoch that was entered.
abbrev pub AreCalledFor : {C R : Type 0} → ℕ → ℕ → ℕ → List (ℕ × R) → List (Turn C R) → ℕ → Type 0
AreCalledFor first final served asked [] last = last ≤ called_epoch first final served asked
AreCalledFor first final served asked (turn ∷ turns) last = (turn.clock.at.epoch ≤ called_epoch first final served asked)
    × AreCalledFor first final (served_in served turn turn.request) (left_behind turn.request asked) turns last

-- what is left calls for so many epochs: nothing is left, or the next request is of that phase or a later one
abbrev pub CallsFor : {R : Type 0} → List (ℕ × R) → ℕ → Type 0
CallsFor [] epochs = Unit {0}
CallsFor (next ∷ asked) epochs = epochs ≤ next.0

-- ---- in the middle of it

-- the epoch of the last turn, or that before all
abbrev pub epoch_behind : {C R : Type 0} → ℕ → List (Turn C R) → ℕ
epoch_behind from [] = from
epoch_behind from (turn ∷ turns) = epoch_behind turn.done.clock.at.epoch turns

-- a scan of a shard, in this epoch, may come behind the turns
abbrev pub MayScan : {C R : Type 0} → ℕ → ℕ → (ℕ → Type 0) → List (Turn C R) → ℕ → Type 0
MayScan now from Follows [] shard = (from < now) ⊎ Follows shard
MayScan now from Follows (turn ∷ turns) shard = MayScan now turn.done.clock.at.epoch (MayFollow from turn turn.request) turns shard

-- What soundness knows of a history, whatever the commands of its log are and however its verifier keeps entries: how the
-- clock moves with each event (Lamport 1978), that a verifier evicts elements of its own number alone (Blum et al. 1994), and
-- that each event does what it tells to what the cache shows.
use Rattle.std.specs.Prelude.{◌≡◌, ℕ, suc, List, [], ◌∷◌}
use Rattle.std.specs.List.{AllByRecursion}
use Rattle.lamport_clocks.specs.declared.header.Header.{Header}
use Rattle.lamport_clocks.specs.Reading.{Reading}
use Rattle.lamport_clocks.specs.Clock.{opening_reading}
use Rattle.merkle_records.specs.Merkle.{Digest}
use Rattle.verifier_commands.specs.Ticks.{Ticks}
use Rattle.soundness.specs.History.{Event}
use Rattle.soundness.specs.Timed.{evicted_among}
use Rattle.soundness.specs.Showing.{Shown, opening_shown, HasDone, shown_after, IsFresh}

-- Each event is of the verifier and of the next index, and the clock moved to where it shows with what was done.
abbrev pub IsTicking : ℕ → ℕ → Reading → List Event → Type 0
IsTicking number index clock [] = Unit {0}
IsTicking number index clock (event ∷ events) =
    (next : Reading) × (event.verifier ≡ number) × (event.index ≡ index) × (event.at ≡ next.at)
    × Ticks clock next event.change × IsTicking number (suc index) next events

-- each element that events evict is of the verifier of this number
abbrev pub EvictsOwn : ℕ → List Event → Type 0
EvictsOwn number events = AllByRecursion (λ element. element.verifier ≡ number) (evicted_among events)

-- Each event does what it tells to what is shown. Where its add is of a path that wasn't shown, what the change tells is
-- then shown, and the rest goes on from there. Of a path that was shown, nothing is said of what follows: a verifier may
-- keep a path twice.
abbrev pub IsChain : ℕ → Digest → Shown → List Event → Type 0
IsChain longest digest shown [] = Unit {0}
IsChain longest digest shown (event ∷ events) =
    HasDone longest digest shown (shown_after shown event.change) event.change
    × (IsFresh shown event.change → IsChain longest digest (shown_after shown event.change) events)

-- events of the verifier of this number, whose clock rises with them from the first epoch on, and which evicts its own
pub record IsTimely (header : Header) (number : ℕ) (events : List Event) : Type 0 where
  pub ticks : IsTicking number 0 (opening_reading header.first header.end) events
  pub own : EvictsOwn number events

-- Timely events, each of which does what it tells, from what the verifier's cache shows at the start.
pub record IsHistory (longest : ℕ) (digest : Digest) (header : Header) (number : ℕ) (events : List Event) : Type 0 where
  pub timely : IsTimely header number events
  pub chain : IsChain longest digest (opening_shown header number) events

-- this holds of each list with the number of its verifier, the first of which is this number
abbrev pub EachByNumber : (ℕ → List Event → Type 0) → ℕ → List (List Event) → Type 0
EachByNumber holds number [] = Unit {0}
EachByNumber holds number (events ∷ histories) = holds number events × EachByNumber holds (suc number) histories

-- each list is timely
abbrev pub AreTimely : Header → ℕ → List (List Event) → Type 0
AreTimely header number histories = EachByNumber (IsTimely header) number histories

-- each list is a history
abbrev pub AreHistories : ℕ → Digest → Header → ℕ → List (List Event) → Type 0
AreHistories longest digest header number histories = EachByNumber (IsHistory longest digest header) number histories

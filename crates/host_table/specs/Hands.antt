-- What a worker's hand shows of a phase.
use Rattle.std.specs.Prelude.{◌≡◌, ℕ, List, [], ◌∷◌, Option, Some, None}
use Rattle.atomic_table.specs.Seated.{TableId}
use Rattle.record_text.specs.declared.request.Request.{Request}
use Rattle.host_shard.specs.declared.content.Content.{Content}
use Rattle.host_shard.specs.declared.content.Content.TheVariants.{Vacant}
use Rattle.host_epochs.specs.declared.hand.Hand.{Hand}
use Rattle.host_epochs.specs.declared.told.Meeting.{Meeting}
use Rattle.host_epochs.specs.declared.told.Stop as rounds
use Rattle.host_epochs.specs.declared.views.Held.{Held}
use Rattle.host_epochs.specs.declared.views.Held.TheVariants.{Idle, Has}
use Rattle.host_epochs.specs.Hands as hands
use Rattle.host_epochs.specs.Hands.{content, entered}
use Rattle.host_table.specs.declared.told.Service.{Service}
use Rattle.host_table.specs.declared.told.Stop.{Stop}
use Rattle.host_table.specs.Services.{services_of, stop_of}
pub use Rattle.host_epochs.specs.Hands.{worker_of, losses, content}

-- what it served, in order
abbrev pub services : Hand → List Service
services hand = services_of (hands.entries hand)

-- where its clock ended
abbrev pub stop : Hand → Option Stop
stop hand = stop_of (hands.stop hand)

-- the history that the place which it holds had when it took it, and what it served there since
abbrev pub history : Hand → List Service
history hand = services_of (hands.history hand)

-- where a worker stopped, it did so at a request
abbrev pub IsAtRequest : Option Meeting → Type 0
IsAtRequest (Some met) = (request : Request) × (met.request ≡ Some request)
IsAtRequest None = ⊥

abbrev pub IsEnd : Option rounds.Stop → Type 0
IsEnd (Some stop) = IsAtRequest stop.met
IsEnd None = Unit {0}

-- it sits at the table, in the epoch of the making, with this in hand, and these cells out
pub record Sits (table : TableId) (hand : Hand) (held : Held) (out : List (ℕ × Content)) : Type 0 where
  pub sits : hands.Sits table hand held out
  pub first : entered hand ≡ 0
  pub ended : IsEnd (hands.stop hand)

-- it holds nothing
abbrev pub IsFree : TableId → Hand → Type 0
IsFree table hand = Sits table hand Idle []

-- it holds this place
abbrev pub Holds : TableId → Hand → ℕ → Type 0
Holds table hand place = Sits table hand (Has place (content hand) (hands.history hand)) ((place, Vacant) ∷ [])

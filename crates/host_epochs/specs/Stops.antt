-- Why a worker stops: its counter ends, or there is no epoch to come where one is due.
use Rattle.std.specs.Prelude.{◌≡◌, ◌⊎◌, ℕ, ◌+◌, ◌<◌, List, Option, Some, None}
use Rattle.lamport_clocks.specs.Clock.{last_epoch}
use Rattle.lamport_clocks.specs.Reading.{Reading}
use Rattle.record_text.specs.declared.request.Request.{Request}
use Rattle.record_text.specs.Longest.{longest_blob}
use Rattle.record_text.specs.Value.{IsBlob}
use Rattle.host_shard.specs.Shown.{shown_content}
use Rattle.host_plan.specs.Plan.{IsPastEnd}
use Rattle.host_epochs.specs.declared.told.Entry.{Entry}
use Rattle.host_epochs.specs.declared.told.Meeting.{Meeting}
use Rattle.host_epochs.specs.declared.told.Stop.{Stop}
use Rattle.host_epochs.specs.Terms.{Terms, IsPlaceOf, first_at, final_epoch, place_count}
use Rattle.host_epochs.specs.Told.{IsHad, IsClockBehind}

-- where there is a request, the place is that of its key
abbrev pub IsFor : Terms → ℕ → Option Request → Type 0
IsFor terms place None = Unit {0}
IsFor terms place (Some request) = IsPlaceOf terms place request.key × IsBlob longest_blob request.value

-- the two counters that the clock would take at this content, which the place has had, pass the end
pub record EndsAt (terms : Terms) (past : List Entry) (clock : Reading) (met : Meeting) : Type 0 where
  pub there : met.place < place_count terms
  pub had : IsHad (first_at terms met.place) past met.content
  pub ends : IsPastEnd (shown_content met.content) clock
  pub asked : IsFor terms met.place met.request

-- there is no epoch to come though one is due, or two counters more pass the end
abbrev pub IsAtEnd : Terms → Reading → Type 0
IsAtEnd terms clock = ((clock.at.epoch ≡ last_epoch) × (clock.at.epoch < final_epoch terms)) ⊎ (clock.end < clock.at.counter + 2)

-- at the content that it met, or at none
abbrev pub EndsSo : Terms → (ℕ → List Entry) → Reading → Option Meeting → Type 0
EndsSo terms past clock None = IsAtEnd terms clock
EndsSo terms past clock (Some met) = EndsAt terms (past met.place) clock met

-- A worker that did this and entered so many epochs stopped behind that, with cause.
pub record IsStop (terms : Terms) (past : ℕ → List Entry) (entries : List Entry) (entered : ℕ) (stop : Stop) : Type 0 where
  pub behind : IsClockBehind terms entries entered stop.clock
  pub ends : EndsSo terms past stop.clock stop.met

-- What is told of a phase: the histories of its places, and what each worker served.
use Rattle.std.specs.Prelude.{◌≡◌, ◌⊎◌, ℕ, zero, suc, ◌<◌, List, [], ◌∷◌, ◌++◌}
use Rattle.std.specs.List.{AllByRecursion}
use Rattle.lamport_clocks.specs.Reading.{Reading}
use Rattle.record_text.specs.Value.{IsBlob}
use Rattle.record_text.specs.Longest.{longest_blob}
use Rattle.host_shard.specs.declared.content.Content.{Content}
use Rattle.host_shard.specs.Shown.{shown_content}
use Rattle.host_plan.specs.Plan.{IsPlan, IsPastEnd}
pub use Rattle.host_epochs.specs.Told.{IsSame}
use Rattle.host_table.specs.declared.told.Service.{Service}
use Rattle.host_table.specs.declared.told.Stop.{Stop}
use Rattle.host_table.specs.Terms.{Terms, IsPlaceOf, IsClockOf, first_at}

-- The service is a request that its worker served at the key's place: by its plan, whose counters don't pass their end.
pub record IsServed (terms : Terms) (service : Service) : Type 0 where
  pub by : service.worker < terms.workers
  pub at : IsPlaceOf terms service.place service.request.key
  pub value : IsBlob longest_blob service.request.value
  pub clock : IsClockOf terms service.clock
  pub plan : IsPlan terms.absent terms.digest service.worker (shown_content service.before) service.request service.clock
      service.plan (shown_content service.after) service.later
  pub within : IsPastEnd (shown_content service.before) service.clock → ⊥

-- The history of a place makes one content of another: each service takes up the content that the one before it left.
abbrev pub Leads : Terms → ℕ → Content → List Service → Content → Type 0
Leads terms place x [] y = IsSame x y
Leads terms place x (service ∷ services) y =
    (service.place ≡ place) × IsSame x service.before × IsServed terms service × Leads terms place service.after services y

-- each service takes up the clock that the one before it left, this one at first, and the last one leaves that one
abbrev pub Continues : Reading → List Service → Reading → Type 0
Continues clock [] later = later ≡ clock
Continues clock (service ∷ services) later = (service.clock ≡ clock) × Continues service.later services later

-- the clock is the one that a worker's last service left, if it has one
abbrev pub TakesUp : List Service → Reading → Type 0
TakesUp [] clock = Unit {0}
TakesUp (service ∷ services) clock = Continues service.later services clock

-- a worker's list: what it served, each from the clock that the one before left
pub record IsListOf (terms : Terms) (worker : ℕ) (services : List Service) : Type 0 where
  pub own : AllByRecursion (λ service. service.worker ≡ worker) services
  pub served : AllByRecursion (IsServed terms) services
  pub last : Reading
  pub chained : TakesUp services last

-- a content that a place has had: the first, or what a service of its history left
abbrev pub IsHad : Content → List Service → Content → Type 0
IsHad x [] had = IsSame x had
IsHad x (service ∷ services) had = IsSame x had ⊎ IsHad service.after services had

-- A worker's clock ended behind its list, at a request and a content that the request's place has had.
pub record IsStop (terms : Terms) (past services : List Service) (stop : Stop) : Type 0 where
  pub at : IsPlaceOf terms stop.place stop.request.key
  pub value : IsBlob longest_blob stop.request.value
  pub clock : IsClockOf terms stop.clock
  pub behind : TakesUp services stop.clock
  pub had : IsHad (first_at terms stop.place) past stop.content
  pub ends : IsPastEnd (shown_content stop.content) stop.clock

-- so many lists, from one number on, one after another
abbrev pub joined_from : ℕ → ℕ → (ℕ → List Service) → List Service
joined_from number zero lists = []
joined_from number (suc count) lists = lists number ++ joined_from (suc number) count lists

-- Requests that workers served at places, as they are told of a phase; and what such a list makes of contents and clocks.
use Rattle.std.specs.Prelude.{◌≡◌, ◌⊎◌, ℕ, suc, ◌==◌, ◌&&◌, Bool, List, [], ◌∷◌, get_or, slice_get, Some}
use Rattle.std.specs.List.{flat_map}
use Rattle.lamport_clocks.specs.Reading.{Reading}
use Rattle.log_codec.specs.declared.command.Command.{Command}
use Rattle.stamp_order.specs.declared.moment.Moment.{Moment}
use Rattle.stamp_order.specs.Merged.{merged}
use Rattle.host_core.specs.Host.{Host, Done, asked}
use Rattle.host_core.specs.World.{Place, World, shard_at}
use Rattle.host_core.specs.WorldEvent.{WorldEvent, takes, serves, gives}

-- a request that a worker served at a place, from its clock and the content there
pub record Serving (Content Ask : Type 0) : Type 0 where
  pub place : Place
  pub worker : ℕ
  pub clock : Reading
  pub before : Content
  pub request : Ask
  pub done : Done Content

-- when it was: the stamp of its evict, which is the clock after it, and its worker
abbrev pub serving_moment : {C R : Type 0} → Serving C R → Moment
serving_moment serving = record { at = serving.done.clock.at; verifier = serving.worker; index = 0 }

abbrev pub same_place : Place → Place → Bool
same_place p q = p.shard == q.shard && p.seat == q.seat

abbrev pub is_at : {C R : Type 0} → Place → Serving C R → Bool
is_at place serving = same_place serving.place place

abbrev pub is_by : {C R : Type 0} → ℕ → Serving C R → Bool
is_by i serving = serving.worker == i

-- those of a place: each finds the content that the one before it left
abbrev pub IsPlaceChain : {C R : Type 0} → C → List (Serving C R) → Type 0
IsPlaceChain content [] = Unit {0}
IsPlaceChain content (serving ∷ servings) = (serving.before ≡ content) × IsPlaceChain serving.done.after servings

-- those of a worker: each is of its next request of the phase, from the clock that the one before it left
abbrev pub IsWorkerChain : {C R : Type 0} → Host C R → ℕ → ℕ → Reading → ℕ → List (Serving C R) → Type 0
IsWorkerChain host phase i clock served [] = Unit {0}
IsWorkerChain host phase i clock served (serving ∷ servings) =
    (serving.clock ≡ clock) × (slice_get (asked host i) served ≡ Some (phase, serving.request))
    × IsWorkerChain host phase i serving.done.clock (suc served) servings

abbrev pub content_behind : {C R : Type 0} → C → List (Serving C R) → C
content_behind content [] = content
content_behind content (serving ∷ servings) = content_behind serving.done.after servings

abbrev pub clock_behind : {C R : Type 0} → Reading → List (Serving C R) → Reading
clock_behind clock [] = clock
clock_behind clock (serving ∷ servings) = clock_behind serving.done.clock servings

abbrev pub commands_in : {C R : Type 0} → List (Serving C R) → List Command
commands_in servings = flat_map (λ serving. serving.done.commands) servings

abbrev pub content_at : {C R : Type 0} → Host C R → World C → Place → C
content_at host world place = get_or (shard_at world place.shard).contents place.seat host.vacant

-- a content that a place has had: the first, or what one of its servings left
abbrev pub IsHad : {C R : Type 0} → C → List (Serving C R) → C → Type 0
IsHad content [] noted = noted ≡ content
IsHad content (serving ∷ servings) noted = (noted ≡ content) ⊎ IsHad serving.done.after servings noted

-- all of them in the one order of their moments
abbrev pub in_one_order : {C R : Type 0} → List (Serving C R) → List (Serving C R)
in_one_order servings = merged serving_moment servings

-- each as a take, a serve and a give
abbrev pub replay : {C R : Type 0} → List (Serving C R) → List (WorldEvent R)
replay [] = []
replay (serving ∷ servings) =
    takes serving.worker serving.place ∷ serves serving.worker serving.place serving.request ∷ gives serving.worker serving.place ∷ replay servings

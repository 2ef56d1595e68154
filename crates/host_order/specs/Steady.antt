-- What a served request does to its clock and its place, whatever else there is. That shards mirror is not taken here: it
-- follows from the order of a phase, and not the other way round.
use Rattle.std.specs.Prelude.{◌≡◌, ℕ, ◌<◌, ◌≤◌, true, List, [], ◌∷◌, get_or, set, None, Some}
use Rattle.std.specs.List.{AllByRecursion}
use Rattle.lamport_clocks.specs.Reading.{Reading}
use Rattle.record_text.specs.declared.element.Element.{Element}
use Rattle.host_core.specs.Host.{Host, Done}

-- the content has one pending element
abbrev pub HasOne : {C R : Type 0} → Host C R → C → Type 0
HasOne host content = (element : Element) × (host.pending content ≡ element ∷ [])

-- a served request moves the clock on in its epoch, above the elements that came of it, and leaves one element with it
pub record MovesOn {C R : Type 0} (host : Host C R) (clock : Reading) (before : C) (done : Done C) : Type 0 where
  pub epoch : done.clock.at.epoch ≡ clock.at.epoch
  pub later : clock.at.counter < done.clock.at.counter
  pub above : AllByRecursion (λ element. element.stamp.epoch ≡ clock.at.epoch) (host.pending before)
      → AllByRecursion (λ element. element.stamp.counter < done.clock.at.counter) (host.pending before)
  pub new : (element : Element) × (host.pending done.after ≡ element ∷ []) × (element.stamp ≡ done.clock.at)

-- each content has one pending element, of this epoch, and that of the new one has no lower counter
pub record IsUpFrom {C R : Type 0} (host : Host C R) (epoch : ℕ) (old new : C) : Type 0 where
  pub was : Element
  pub now : Element
  pub was_there : host.pending old ≡ was ∷ []
  pub now_there : host.pending new ≡ now ∷ []
  pub was_of : was.stamp.epoch ≡ epoch
  pub now_of : now.stamp.epoch ≡ epoch
  pub rises : was.stamp.counter ≤ now.stamp.counter

-- Whatever is served at a content with one pending element: the clock moves on; the places own what they owned. A place
-- that owns a request has one, and a request that would end a clock at a content would end it at a later one.
pub record IsSteady {C R : Type 0} (host : Host C R) : Type 0 where
  pub moves_on : (i : ℕ) (clock : Reading) (before : C) (request : R) (done : Done C)
      → HasOne host before → host.serve i clock before request ≡ Some done → MovesOn host clock before done
  pub owners : (i : ℕ) (clock : Reading) (s seat : ℕ) (contents : List C) (request : R) (done : Done C)
      → HasOne host (get_or contents seat host.vacant)
      → host.serve i clock (get_or contents seat host.vacant) request ≡ Some done
      → (other : ℕ) (ask : R) → host.owns s (set contents seat done.after) other ask ≡ host.owns s contents other ask
  pub waits : (s seat : ℕ) (contents : List C) (request : R)
      → host.owns s contents seat request ≡ true → HasOne host (get_or contents seat host.vacant)
  pub ends : (i : ℕ) (clock : Reading) (old new : C) (request : R)
      → IsUpFrom host clock.at.epoch old new → host.serve i clock old request ≡ None → host.serve i clock new request ≡ None

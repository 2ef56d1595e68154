-- What a served request or a scan does to its clock and its place, whatever else there is.
use Rattle.std.specs.Prelude.{◌≡◌, ℕ, ◌<◌, Bool, true, List, [], ◌∷◌, get_or, set, Some}
use Rattle.std.specs.List.{AllByRecursion}
use Rattle.lamport_clocks.specs.Reading.{Reading}
use Rattle.record_text.specs.declared.element.Element.{Element}
use Rattle.host_core.specs.Host.{Host, Done}
use Rattle.host_core.specs.Deeds.{pending_of}

-- the content has one pending element
abbrev pub HasOne : {C R : Type 0} → Host C R → C → Type 0
HasOne host content = (element : Element) × (host.pending content ≡ element ∷ [])

-- it moves the clock on in its epoch, above the elements of that epoch that came of it, and leaves one element with it
pub record MovesOn {C R : Type 0} (host : Host C R) (clock : Reading) (before : C) (done : Done C) : Type 0 where
  pub epoch : done.clock.at.epoch ≡ clock.at.epoch
  pub later : clock.at.counter < done.clock.at.counter
  pub above : AllByRecursion (λ element. element.stamp.epoch ≡ clock.at.epoch) (host.pending before)
      → AllByRecursion (λ element. element.stamp.counter < done.clock.at.counter) (host.pending before)
  pub new : (element : Element) × (host.pending done.after ≡ element ∷ []) × (element.stamp ≡ done.clock.at)

-- the same of the first place of a shard, where nothing waits at its others
abbrev pub scanned_done : {C : Type 0} → List C → Done C → Done (List C)
scanned_done others done = record { commands = done.commands; after = done.after ∷ others; clock = done.clock }

-- Whatever is done at a content with one pending element, where places are scanned or not: the clock moves on; the places own what
-- they owned. A place that owns a request has one.
pub record IsSteady {C R : Type 0} (host : Host C R) (scans : Bool) : Type 0 where
  pub serves_on : (i : ℕ) (clock : Reading) (before : C) (request : R) (done : Done C)
      → HasOne host before → host.serve i clock before request ≡ Some done → MovesOn host clock before done
  pub scans_on : scans ≡ true → (i s : ℕ) (clock : Reading) (before : C) (others : List C) (done : Done C)
      → HasOne host before → pending_of host others ≡ [] → host.move i clock s (before ∷ others) ≡ Some (scanned_done others done)
      → MovesOn host clock before done
  pub owners : (i : ℕ) (clock : Reading) (s seat : ℕ) (contents : List C) (request : R) (done : Done C)
      → HasOne host (get_or contents seat host.vacant)
      → host.serve i clock (get_or contents seat host.vacant) request ≡ Some done
      → (other : ℕ) (ask : R) → host.owns s (set contents seat done.after) other ask ≡ host.owns s contents other ask
  pub scan_owners : scans ≡ true → (i s : ℕ) (clock : Reading) (before : C) (others : List C) (done : Done C)
      → HasOne host before → pending_of host others ≡ [] → host.move i clock s (before ∷ others) ≡ Some (scanned_done others done)
      → (other : ℕ) (ask : R) → host.owns s (done.after ∷ others) other ask ≡ host.owns s (before ∷ others) other ask
  pub waits : (s seat : ℕ) (contents : List C) (request : R)
      → host.owns s contents seat request ≡ true → HasOne host (get_or contents seat host.vacant)

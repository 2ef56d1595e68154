-- What the clock tells of the elements that come and go (Lamport 1978).
use Rattle.std.specs.Prelude.{◌≡◌, ℕ, ◌≤◌, true, List, [], ◌∷◌}
use Rattle.std.specs.List.{flat_map, AllByRecursion}
use Rattle.std.specs.Ordering.{is_lt}
use Rattle.lamport_clocks.specs.declared.stamp.Stamp.{Stamp}
use Rattle.lamport_clocks.specs.Stamp.{stamp_cmp}
use Rattle.record_text.specs.declared.element.Element.{Element}
use Rattle.verifier_commands.specs.Change.{Change, did_add_m, did_evict_m, did_add_b, did_evict_b, did_evict_bm, did_get, did_put, did_next_epoch}
use Rattle.soundness.specs.History.{Event}
use Rattle.soundness.specs.Certified.{added_by, evicted_by}

-- a stamp is before another
abbrev pub IsEarlier : Stamp → Stamp → Type 0
IsEarlier s t = is_lt (stamp_cmp s t) ≡ true

-- an element that comes was stamped before, in an epoch from the first on
pub record IsOfBefore (first : ℕ) (at : Stamp) (element : Element) : Type 0 where
  pub earlier : IsEarlier element.stamp at
  pub from_first : first ≤ element.stamp.epoch

-- An element that comes was stamped before the clock, and one that goes is stamped with it.
abbrev pub IsTimed : ℕ → Stamp → Change → Type 0
IsTimed first at (did_add_m parent after child) = Unit {0}
IsTimed first at (did_evict_m parent after child) = Unit {0}
IsTimed first at (did_add_b child element) = IsOfBefore first at element
IsTimed first at (did_evict_b child element) = element.stamp ≡ at
IsTimed first at (did_evict_bm parent after child element) = element.stamp ≡ at
IsTimed first at (did_get entry) = Unit {0}
IsTimed first at (did_put before after) = Unit {0}
IsTimed first at (did_next_epoch sealed) = Unit {0}

-- each of these events is timed
abbrev pub AreTimed : ℕ → List Event → Type 0
AreTimed first events = AllByRecursion (λ event. IsTimed first event.at event.change) events

-- the elements that come with events
abbrev pub added_among : List Event → List Element
added_among events = flat_map (λ event. added_by event.change) events

-- the elements that go with events
abbrev pub evicted_among : List Event → List Element
evicted_among events = flat_map (λ event. evicted_by event.change) events

-- each element is stamped before all that stand behind it
abbrev pub IsRising : List Element → Type 0
IsRising [] = Unit {0}
IsRising (element ∷ elements) =
    AllByRecursion (λ later. IsEarlier element.stamp later.stamp) elements × IsRising elements

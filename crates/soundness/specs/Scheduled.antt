-- Events in which each element that comes was evicted before and waits.
use Rattle.std.specs.Prelude.{◌≡◌, ℕ, ◌≤◌, true, List, [], ◌∷◌, Some}
use Rattle.record_text.specs.declared.element.Element.{Element}
use Rattle.verifier_commands.specs.Change.{Change, did_add_m, did_evict_m, did_add_b, did_evict_b, did_evict_bm, did_get, did_put, did_next_epoch}
use Rattle.soundness.specs.History.{Event}
use Rattle.soundness.specs.Certified.{added_in, evicted_in}
use Rattle.soundness.specs.Permutation.{without_one, is_permutation}

-- what holds of a change where these elements wait, and of what follows with those that wait behind it
abbrev pub IsScheduledBy : List Element → Change → (List Element → Type 0) → Type 0
IsScheduledBy pending (did_add_m parent after child) next = next pending
IsScheduledBy pending (did_evict_m parent after child) next = next pending
IsScheduledBy pending (did_add_b child element) next = (rest : List Element) × (without_one element pending ≡ Some rest) × next rest
IsScheduledBy pending (did_evict_b child element) next = next (element ∷ pending)
IsScheduledBy pending (did_evict_bm parent after child element) next = next (element ∷ pending)
IsScheduledBy pending (did_get entry) next = next pending
IsScheduledBy pending (did_put before after) next = next pending
IsScheduledBy pending (did_next_epoch sealed) next = next pending

-- each element that comes waits, from these on
abbrev pub IsScheduled : List Element → List Event → Type 0
IsScheduled pending [] = Unit {0}
IsScheduled pending (event ∷ events) = IsScheduledBy pending event.change (λ after. IsScheduled after events)

-- of each epoch from the first up to the last, the added elements are a permutation of the evicted ones
abbrev pub ArePermuted : ℕ → ℕ → List Event → Type 0
ArePermuted first last events =
    (epoch : ℕ) → first ≤ epoch → epoch ≤ last → is_permutation (added_in epoch events) (evicted_in epoch events) ≡ true

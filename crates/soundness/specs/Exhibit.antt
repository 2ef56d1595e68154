-- What a check has to show: nothing, two strings with one digest, or two multisets of elements with one sum.
use Rattle.std.specs.Prelude.{ℕ, zero, suc, List, map, Option, Some, None, if◌then◌else◌}
use Rattle.record_text.specs.declared.exhibit.Exhibit.{Exhibit}
use Rattle.record_text.specs.declared.exhibit.Exhibit.TheVariants as exhibits
use Rattle.soundness.specs.History.{Event}
use Rattle.soundness.specs.Certified.{order_of, order_within, added_in, evicted_in}
use Rattle.soundness.specs.Clash.{Strings, none_evicted, first_clash}
use Rattle.soundness.specs.Permutation.{is_permutation}

-- the first of so many epochs from this one on whose added elements are no permutation of its evicted ones
abbrev pub first_uneven : List Event → ℕ → ℕ → Option ℕ
first_uneven events epoch zero = None
first_uneven events epoch (suc count) =
    if is_permutation (added_in epoch events) (evicted_in epoch events) then first_uneven events (suc epoch) count else Some epoch

-- the multisets of an uneven epoch, if there is one, or else the strings of a clash, if there is one
abbrev pub exhibit_by : List Event → Option ℕ → Option Strings → Exhibit
exhibit_by events (Some epoch) clash = exhibits.Multisets epoch (added_in epoch events) (evicted_in epoch events)
exhibit_by events None (Some shown) = exhibits.Strings shown.0 shown.1
exhibit_by events None None = exhibits.Clean

-- The exhibit of so many epochs from the first on.
abbrev pub exhibit_of : ℕ → ℕ → List (List Event) → Exhibit
exhibit_of first count histories =
    exhibit_by (order_of histories) (first_uneven (order_of histories) first count)
    (first_clash none_evicted (map (λ event. event.change) (order_within first count histories)))

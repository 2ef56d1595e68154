-- Elements of epochs: which are looked at together, when each was evicted, and where two lists of them part.
use Rattle.std.specs.Prelude.{ℕ, ◌+◌, ◌==◌, ◌&&◌, nat_le, nat_lt, min, Bool, List, [], ◌∷◌, Option, Some, None, filter, if◌then◌else◌}
use Rattle.std.specs.List.{IsDistinct}
use Rattle.stamp_order.specs.declared.moment.Moment.{Moment}
use Rattle.record_text.specs.declared.element.Element.{Element}
use Rattle.soundness.specs.Permutation.{same_stamp, same_element}

-- ---- stamps

-- one verifier evicted both with one stamp
abbrev pub same_evict : Element → Element → Bool
same_evict a b = same_stamp a.stamp b.stamp && a.verifier == b.verifier

-- No verifier evicted two of the elements with one stamp (Blum et al. 1994: an evict is stamped with the clock, which
-- goes up with it).
abbrev pub HaveOwnStamps : List Element → Type 0
HaveOwnStamps elements = IsDistinct same_evict elements

-- when an element was evicted, as far as it tells: not by which command
abbrev pub evict_moment : Element → Moment
evict_moment element = record { at = element.stamp; verifier = element.verifier; index = 0 }

-- ---- epochs

-- an element of one of so many epochs from this one on
abbrev pub is_within : ℕ → ℕ → Element → Bool
is_within first epochs element = nat_le first element.stamp.epoch && nat_lt element.stamp.epoch (first + epochs)

-- the elements of so many epochs from this one on
abbrev pub within : ℕ → ℕ → List Element → List Element
within first epochs elements = filter (is_within first epochs) elements

-- The epoch at which two lists part: the lower of the two where their elements first differ, or that of the element
-- at which the other list has ended.
abbrev pub parting : List Element → List Element → Option ℕ
parting [] [] = None
parting [] (y ∷ ys) = Some y.stamp.epoch
parting (x ∷ xs) [] = Some x.stamp.epoch
parting (x ∷ xs) (y ∷ ys) = if same_element x y then parting xs ys else Some (min x.stamp.epoch y.stamp.epoch)

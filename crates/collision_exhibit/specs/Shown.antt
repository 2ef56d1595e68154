-- What audit events show, in the order in which they were done.
use Rattle.std.specs.Prelude.{ℕ, zero, suc, ◌+◌, List, [], ◌∷◌, Option, Some, None, if◌then◌else◌}
use Rattle.std.specs.List.{flat_map}
use Rattle.std.specs.Option.{option_or}
use Rattle.record_text.specs.declared.element.Element.{Element}
use Rattle.record_text.specs.declared.exhibit.Exhibit.{Exhibit}
use Rattle.record_text.specs.declared.exhibit.Exhibit.TheVariants as exhibits
use Rattle.stamp_order.specs.Merged.{up_to}
use Rattle.soundness.specs.Certified.{of_epoch}
use Rattle.soundness.specs.Clash.{LastEvicted, Strings, none_evicted, with_last_evicted, differing}
use Rattle.soundness.specs.Permutation.{is_permutation}
use Rattle.collision_exhibit.specs.declared.audit_event.AuditEvent.{AuditEvent}
use Rattle.collision_exhibit.specs.declared.audit_event.AuditChange.{AuditChange}
use Rattle.collision_exhibit.specs.declared.audit_event.AuditChange.TheVariants as audits
use Rattle.collision_exhibit.specs.AuditEvent.{audit_moment}

-- ---- elements

-- the element that was added, if one was
abbrev pub added_element : AuditChange → List Element
added_element (audits.AddM path value) = []
added_element (audits.EvictM path value) = []
added_element (audits.AddB element) = element ∷ []
added_element (audits.EvictB element) = []

-- the element that was evicted, if one was
abbrev pub evicted_element : AuditChange → List Element
evicted_element (audits.AddM path value) = []
evicted_element (audits.EvictM path value) = []
evicted_element (audits.AddB element) = []
evicted_element (audits.EvictB element) = element ∷ []

-- the elements that were added
abbrev pub added_elements : List AuditEvent → List Element
added_elements audited = flat_map (λ item. added_element item.change) audited

-- the elements that were evicted
abbrev pub evicted_elements : List AuditEvent → List Element
evicted_elements audited = flat_map (λ item. evicted_element item.change) audited

-- of so many epochs from this one on, the first whose added elements are no permutation of its evicted ones
abbrev pub uneven_among : List AuditEvent → ℕ → ℕ → Option ℕ
uneven_among audited epoch zero = None
uneven_among audited epoch (suc count) =
    if is_permutation (of_epoch epoch (added_elements audited)) (of_epoch epoch (evicted_elements audited)) then uneven_among audited (suc epoch) count else Some epoch

-- ---- records that came back by their digests

-- what was last evicted, once this was done
abbrev pub last_evicted_by : LastEvicted → AuditChange → LastEvicted
last_evicted_by last (audits.AddM path value) = last
last_evicted_by last (audits.EvictM path value) = with_last_evicted last path value
last_evicted_by last (audits.AddB element) = last
last_evicted_by last (audits.EvictB element) = last

-- what went out and what came back for it, if their texts differ
abbrev pub clash_by : LastEvicted → AuditChange → Option Strings
clash_by last (audits.AddM path value) = differing (last path) value
clash_by last (audits.EvictM path value) = None
clash_by last (audits.AddB element) = None
clash_by last (audits.EvictB element) = None

-- the first clash among audit events
abbrev pub clash_among : LastEvicted → List AuditEvent → Option Strings
clash_among last [] = None
clash_among last (item ∷ audited) = option_or (clash_by last item.change) (clash_among (last_evicted_by last item.change) audited)

-- the audit events of so many epochs from this one on
abbrev pub audit_events_within : ℕ → ℕ → List AuditEvent → List AuditEvent
audit_events_within first zero audited = []
audit_events_within first (suc count) audited = up_to audit_moment (first + count) audited

-- ---- the exhibit

-- the multisets of an uneven epoch, if there is one, or else the strings of a clash, if there is one
abbrev pub shown_by : List AuditEvent → Option ℕ → Option Strings → Exhibit
shown_by audited (Some epoch) clash = exhibits.Multisets epoch (of_epoch epoch (added_elements audited)) (of_epoch epoch (evicted_elements audited))
shown_by audited None (Some shown) = exhibits.Strings shown.0 shown.1
shown_by audited None None = exhibits.Clean

-- The exhibit of so many epochs from the first on, by audit events that stand in order.
abbrev pub exhibit_among : ℕ → ℕ → List AuditEvent → Exhibit
exhibit_among first count audited = shown_by audited (uneven_among audited first count) (clash_among none_evicted (audit_events_within first count audited))

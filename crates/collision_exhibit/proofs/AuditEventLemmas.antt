-- What the audit events of events show is what the events do: elements, clashes, and the exhibit.
use Rattle.std.proofs.Common.{◌≡◌, ℕ, zero, suc, ◌+◌, nat_le, Bool, true, false, if◌then◌else◌, List, [], ◌∷◌, ◌++◌, Option, Some, None, refl, sym, ◌∙◌, ap, map, flat_map}
use Rattle.std.specs.Option.{option_or}
use Rattle.std.proofs.lemmas.Bool.{cond-true, cond-false}
use Rattle.std.proofs.lemmas.Grind.{flat_map-append}
use Rattle.std.proofs.lemmas.List.Elements.{filter-append}
use Rattle.record_text.specs.declared.element.Element.{Element}
use Rattle.stamp_order.specs.Merged.{up_to}
use Rattle.verifier_cache.specs.declared.entry.Entry.{Entry}
use Rattle.verifier_commands.specs.Changes.{above}
use Rattle.verifier_commands.specs.Change.{Change, did_add_m, did_evict_m, did_add_b, did_evict_b, did_evict_bm, did_get, did_put, did_next_epoch}
use Rattle.soundness.specs.History.{Event}
use Rattle.soundness.specs.Certified.{event_moment, order_of, of_epoch, added_by, evicted_by, added_in, evicted_in, order_within}
use Rattle.soundness.specs.Clash.{LastEvicted, Strings, is_known, none_evicted, differing, clash_at, last_evicted_after, first_clash}
use Rattle.soundness.specs.Permutation.{is_permutation}
use Rattle.soundness.specs.Exhibit.{first_uneven, exhibit_by, exhibit_of}
use Rattle.record_text.specs.declared.exhibit.Exhibit.TheVariants as exhibits
use Rattle.collision_exhibit.specs.declared.audit_event.AuditEvent.{AuditEvent}
use Rattle.collision_exhibit.specs.declared.audit_event.AuditChange.{AuditChange}
use Rattle.collision_exhibit.specs.declared.audit_event.AuditChange.TheVariants as audits
use Rattle.collision_exhibit.specs.AuditEvent.{audit_changes_by, audit_event_at, audit_events_by, audit_events_in, audit_moment}
use Rattle.collision_exhibit.specs.Shown.{added_element, evicted_element, added_elements, evicted_elements, uneven_among, clash_among, audit_events_within, shown_by, exhibit_among}

-- ---- elements

-- a join adds and evicts nothing, whether or not it is told
came_known : (event : Event) (change : AuditChange) (known : Bool) → added_element change ≡ []
    → added_elements (map (audit_event_at event) (if known then change ∷ [] else [])) ≡ []
came_known event change true none = ap (λ (elements : List Element). elements ++ []) none
came_known event change false none = refl

went_known : (event : Event) (change : AuditChange) (known : Bool) → evicted_element change ≡ []
    → evicted_elements (map (audit_event_at event) (if known then change ∷ [] else [])) ≡ []
went_known event change true none = ap (λ (elements : List Element). elements ++ []) none
went_known event change false none = refl

came_at : (event : Event) (change : Change) → added_elements (map (audit_event_at event) (audit_changes_by change)) ≡ added_by change
came_at event (did_add_m parent after child) =
    came_known event (audits.AddM child.path child.value) (is_known (above parent child.path) child.path) refl
came_at event (did_evict_m parent after child) = refl
came_at event (did_add_b child element) = refl
came_at event (did_evict_b child element) = refl
came_at event (did_evict_bm parent after child element) = refl
came_at event (did_get entry) = refl
came_at event (did_put before after) = refl
came_at event (did_next_epoch sealed) = refl

went_at : (event : Event) (change : Change) → evicted_elements (map (audit_event_at event) (audit_changes_by change)) ≡ evicted_by change
went_at event (did_add_m parent after child) =
    went_known event (audits.AddM child.path child.value) (is_known (above parent child.path) child.path) refl
went_at event (did_evict_m parent after child) = refl
went_at event (did_add_b child element) = refl
went_at event (did_evict_b child element) = refl
went_at event (did_evict_bm parent after child element) = refl
went_at event (did_get entry) = refl
went_at event (did_put before after) = refl
went_at event (did_next_epoch sealed) = refl

-- the elements that audit events add are those that their events add
pub came_in : (events : List Event) → added_elements (audit_events_in events) ≡ flat_map (λ event. added_by event.change) events
came_in [] = refl
came_in (event ∷ events) =
    flat_map-append (λ (item : AuditEvent). added_element item.change) (audit_events_by event) (audit_events_in events)
    ∙ ap (λ (elements : List Element). elements ++ added_elements (audit_events_in events)) (came_at event event.change)
    ∙ ap (λ (elements : List Element). added_by event.change ++ elements) (came_in events)

-- and the elements that they evict are those that their events evict
pub went_in : (events : List Event) → evicted_elements (audit_events_in events) ≡ flat_map (λ event. evicted_by event.change) events
went_in [] = refl
went_in (event ∷ events) =
    flat_map-append (λ (item : AuditEvent). evicted_element item.change) (audit_events_by event) (audit_events_in events)
    ∙ ap (λ (elements : List Element). elements ++ evicted_elements (audit_events_in events)) (went_at event event.change)
    ∙ ap (λ (elements : List Element). evicted_by event.change ++ elements) (went_in events)

-- The elements of an epoch, added and evicted.
pub came_of_epoch : (epoch : ℕ) (events : List Event) → of_epoch epoch (added_elements (audit_events_in events)) ≡ added_in epoch events
came_of_epoch epoch events = ap (of_epoch epoch) (came_in events)

pub went_of_epoch : (epoch : ℕ) (events : List Event) → of_epoch epoch (evicted_elements (audit_events_in events)) ≡ evicted_in epoch events
went_of_epoch epoch events = ap (of_epoch epoch) (went_in events)

-- The first uneven epoch.
pub uneven_in : (events : List Event) (epoch count : ℕ) → uneven_among (audit_events_in events) epoch count ≡ first_uneven events epoch count
uneven_in events epoch zero = refl
uneven_in events epoch (suc count) =
    ap (λ (added : List Element). if is_permutation added (of_epoch epoch (evicted_elements (audit_events_in events))) then uneven_among (audit_events_in events) (suc epoch) count else Some epoch)
    (came_of_epoch epoch events)
    ∙ ap (λ (evicted : List Element). if is_permutation (added_in epoch events) evicted then uneven_among (audit_events_in events) (suc epoch) count else Some epoch)
    (went_of_epoch epoch events)
    ∙ ap (λ (later : Option ℕ). if is_permutation (added_in epoch events) (evicted_in epoch events) then later else Some epoch)
    (uneven_in events (suc epoch) count)

-- ---- clashes

-- a join clashes where its pointer led to the child, with what was last evicted out
clash_known : (event : Event) (child : Entry) (last : LastEvicted) (audited : List AuditEvent) (later : Option Strings) (known : Bool)
    → clash_among last audited ≡ later
    → clash_among last (map (audit_event_at event) (if known then audits.AddM child.path child.value ∷ [] else []) ++ audited)
    ≡ option_or (clash_at last known child) later
clash_known event child last audited later true behind =
    ap (option_or (differing (last child.path) child.value)) behind
clash_known event child last audited later false behind = behind

-- the audit events of an event and those behind it clash where the event and what is behind it do
clash_at_event : (event : Event) (change : Change) (last : LastEvicted) (audited : List AuditEvent) (changes : List Change)
    → ((now : LastEvicted) → clash_among now audited ≡ first_clash now changes)
    → clash_among last (map (audit_event_at event) (audit_changes_by change) ++ audited) ≡ first_clash last (change ∷ changes)
clash_at_event event (did_add_m parent after child) last audited changes behind =
    clash_known event child last audited (first_clash last changes)
    (is_known (above parent child.path) child.path) (behind last)
clash_at_event event (did_evict_m parent after child) last audited changes behind = behind (last_evicted_after last (did_evict_m parent after child))
clash_at_event event (did_add_b child element) last audited changes behind = behind last
clash_at_event event (did_evict_b child element) last audited changes behind = behind last
clash_at_event event (did_evict_bm parent after child element) last audited changes behind = behind last
clash_at_event event (did_get entry) last audited changes behind = behind last
clash_at_event event (did_put before after) last audited changes behind = behind last
clash_at_event event (did_next_epoch sealed) last audited changes behind = behind last

-- The first clash.
pub clash_in : (events : List Event) (last : LastEvicted)
    → clash_among last (audit_events_in events) ≡ first_clash last (map (λ event. event.change) events)
clash_in [] last = refl
clash_in (event ∷ events) last =
    clash_at_event event event.change last (audit_events_in events) (map (λ (event : Event). event.change) events) (clash_in events)

-- ---- the exhibit

-- the audit events of an event are all of epochs up to one, or none is
up_to_deeds : (epoch : ℕ) (event : Event) (changes : List AuditChange) (within : Bool) → nat_le (event_moment event).at.epoch epoch ≡ within
    → up_to audit_moment epoch (map (audit_event_at event) changes) ≡ (if within then map (audit_event_at event) changes else [])
up_to_deeds epoch event [] true is = refl
up_to_deeds epoch event [] false is = refl
up_to_deeds epoch event (change ∷ changes) true is =
    cond-true (nat_le (event_moment event).at.epoch epoch) _ _ is
    ∙ ap (λ (audited : List AuditEvent). audit_event_at event change ∷ audited) (up_to_deeds epoch event changes true is)
up_to_deeds epoch event (change ∷ changes) false is =
    cond-false (nat_le (event_moment event).at.epoch epoch) _ _ is ∙ up_to_deeds epoch event changes false is

-- the audit events of events up to an epoch are those of the audit events
pub up_to_acts : (epoch : ℕ) (events : List Event) → up_to audit_moment epoch (audit_events_in events) ≡ audit_events_in (up_to event_moment epoch events)
up_to_acts epoch [] = refl
up_to_acts epoch (event ∷ events) =
    filter-append (λ (item : AuditEvent). nat_le (audit_moment item).at.epoch epoch) (audit_events_by event) (audit_events_in events)
    ∙ ap (λ (audited : List AuditEvent). up_to audit_moment epoch (audit_events_by event) ++ audited) (up_to_acts epoch events)
    ∙ go (nat_le (event_moment event).at.epoch epoch) refl
  where
    go : (within : Bool) → nat_le (event_moment event).at.epoch epoch ≡ within
        → up_to audit_moment epoch (audit_events_by event) ++ audit_events_in (up_to event_moment epoch events)
        ≡ audit_events_in (up_to event_moment epoch (event ∷ events))
    go true is =
        ap (λ (audited : List AuditEvent). audited ++ audit_events_in (up_to event_moment epoch events))
        (up_to_deeds epoch event (audit_changes_by event.change) true is)
        ∙ sym (ap audit_events_in (cond-true (nat_le (event_moment event).at.epoch epoch) (event ∷ up_to event_moment epoch events) (up_to event_moment epoch events) is))
    go false is =
        ap (λ (audited : List AuditEvent). audited ++ audit_events_in (up_to event_moment epoch events))
        (up_to_deeds epoch event (audit_changes_by event.change) false is)
        ∙ sym (ap audit_events_in (cond-false (nat_le (event_moment event).at.epoch epoch) (event ∷ up_to event_moment epoch events) (up_to event_moment epoch events) is))

-- The audit events within so many epochs.
pub within_acts : (first count : ℕ) (histories : List (List Event))
    → audit_events_within first count (audit_events_in (order_of histories)) ≡ audit_events_in (order_within first count histories)
within_acts first zero histories = refl
within_acts first (suc count) histories = up_to_acts (first + count) (order_of histories)

-- what is shown by an uneven epoch, if there is one, and else by a clash
shown_in : (events : List Event) (uneven : Option ℕ) (clash : Option Strings)
    → shown_by (audit_events_in events) uneven clash ≡ exhibit_by events uneven clash
shown_in events (Some epoch) clash =
    ap (λ (added : List Element). exhibits.Multisets epoch added (of_epoch epoch (evicted_elements (audit_events_in events))))
    (came_of_epoch epoch events)
    ∙ ap (exhibits.Multisets epoch (added_in epoch events)) (went_of_epoch epoch events)
shown_in events None (Some shown) = refl
shown_in events None None = refl

-- The exhibit of the audit events is the exhibit of the histories.
pub exhibit_audit_events : (histories : List (List Event)) (first count : ℕ)
    → exhibit_among first count (audit_events_in (order_of histories)) ≡ exhibit_of first count histories
exhibit_audit_events histories first count =
    ap (λ (uneven : Option ℕ). shown_by audited uneven (clash_among none_evicted (audit_events_within first count audited)))
    (uneven_in events first count)
    ∙ ap (λ (kept : List AuditEvent). shown_by audited (first_uneven events first count) (clash_among none_evicted kept))
    (within_acts first count histories)
    ∙ ap (shown_by audited (first_uneven events first count)) (clash_in (order_within first count histories) none_evicted)
    ∙ shown_in events (first_uneven events first count)
    (first_clash none_evicted (map (λ (event : Event). event.change) (order_within first count histories)))
  where
    events : List Event
    events = order_of histories

    audited : List AuditEvent
    audited = audit_events_in events

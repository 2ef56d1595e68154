-- The sums that a verifier keeps are those of the elements that it added and evicted in its clock's epoch and in the
-- one before.
use Rattle.std.proofs.Common.{◌≡◌, ◌≢◌, ◌⊎◌, ℕ, ◌+◌, ◌<◌, ◌==◌, Bool, cond, List, [], ◌∷◌, ◌++◌, map, Option, Ok, inl, inr, refl, sym, ◌∙◌, ap, subst, append-nil, arith}
use Rattle.merkle_records.specs.Scheme.{lanes_of, Scheme}
use Rattle.std.proofs.lemmas.Bool.{cond_both, eq-eqb, ne_eqb, eqb-true, eqb-false}
use Rattle.std.proofs.lemmas.List.{map-append}
use Rattle.std.proofs.lemmas.List.Elements.{filter-append}
use Rattle.lamport_clocks.specs.declared.stamp.Stamp.{Stamp}
use Rattle.lamport_clocks.specs.Reading.{Reading}
use Rattle.lamport_clocks.specs.Clock.{received, sent, advanced}
use Rattle.lamport_clocks.proofs.ClockLaws.{received-ok, received-epoch, open_epochs, sent-ok, sent-at, advanced-at}
use Rattle.record_text.specs.declared.element.Element.{Element}
use Rattle.multiset_sum.specs.Tally.{Tally}
use Rattle.multiset_sum.specs.Sum.{zero_sum, with_lanes, sum_of}
use Rattle.multiset_sum.proofs.SumLaws.{with_lanes-sum_of}
use Rattle.verifier_commands.specs.declared.sums.Sums.{Sums}
use Rattle.verifier_commands.specs.Change.{Change, did_add_m, did_evict_m, did_add_b, did_evict_b, did_evict_bm, did_get, did_put, did_next_epoch}
use Rattle.verifier_commands.specs.Outcome.{outcome_of}
use Rattle.verifier_commands.specs.Sums.{zero_sums, add_to, evict_to, advanced_sums, sums_after}
use Rattle.verifier_commands.specs.Machine.{Machine}
use Rattle.soundness.specs.Certified.{added_by, evicted_by, of_epoch, sum_over}
use Rattle.verifier_commands.specs.Ticks.{Ticks}

-- ---- one element more

module _ (elements : List Element) (element : Element) (epoch : ℕ) where
  -- of its own epoch
  push_own : element.stamp.epoch ≡ epoch
      → of_epoch epoch (elements ++ element ∷ []) ≡ of_epoch epoch elements ++ element ∷ []
  push_own own =
      filter-append (λ (e : Element). e.stamp.epoch == epoch) elements (element ∷ [])
      ∙ ap (λ (b : Bool). of_epoch epoch elements ++ cond b (element ∷ []) []) (eq-eqb _ _ own)

  -- and of another
  push_other : element.stamp.epoch ≢ epoch → of_epoch epoch (elements ++ element ∷ []) ≡ of_epoch epoch elements
  push_other other =
      filter-append (λ (e : Element). e.stamp.epoch == epoch) elements (element ∷ [])
      ∙ ap (λ (b : Bool). of_epoch epoch elements ++ cond b (element ∷ []) []) (ne_eqb _ _ other)
      ∙ append-nil (of_epoch epoch elements)

-- the sum with an element more
sum_over-push : (scheme : Scheme) (elements : List Element) (element : Element)
    → with_lanes (sum_over scheme elements) (lanes_of scheme element)
    ≡ sum_over scheme (elements ++ element ∷ [])
sum_over-push scheme elements element =
    let hash : Element → List ℕ = λ e. lanes_of scheme e in
    with_lanes-sum_of (map hash elements) (hash element)
    ∙ ap sum_of (sym (map-append hash elements (element ∷ [])))

-- ---- two sums

-- One sum is of the elements of an epoch, the other of those of the epoch before, and there are none of a later one.
pub record Counted (scheme : Scheme) (epoch : ℕ) (own before : Tally) (elements : List Element) : Type 0 where
  pub own_is : own ≡ sum_over scheme (of_epoch epoch elements)
  pub before_is : (last : ℕ) → last + 1 ≡ epoch → before ≡ sum_over scheme (of_epoch last elements)
  pub none_later : (later : ℕ) → epoch < later → of_epoch later elements ≡ []

-- in the same epoch
counted_at : (scheme : Scheme) (next epoch : ℕ) (own before : Tally) (elements : List Element) → next ≡ epoch
    → Counted scheme epoch own before elements → Counted scheme next own before elements
counted_at scheme next epoch own before elements is counted =
    subst (λ (e : ℕ). Counted scheme e own before elements) (sym is) counted

module _ (scheme : Scheme) (epoch : ℕ) (own before : Tally) (elements : List Element)
    (counted : Counted scheme epoch own before elements) where
  -- one element more of the epoch
  counted_own : (element : Element) → element.stamp.epoch ≡ epoch
      → Counted scheme epoch (with_lanes own (lanes_of scheme element)) before (elements ++ element ∷ [])
  counted_own element is = record {
    own_is =
        ap (λ (s : Tally). with_lanes s (lanes_of scheme element)) counted.own_is
        ∙ sum_over-push scheme (of_epoch epoch elements) element
        ∙ ap (sum_over scheme) (sym (push_own elements element epoch is));
    before_is = λ last next.
        counted.before_is last next
        ∙ ap (sum_over scheme) (sym (push_other elements element last (λ same. absurd (omega arith))));
    none_later = λ later above.
        push_other elements element later (λ same. absurd (omega arith)) ∙ counted.none_later later above;
  }

  -- one of the epoch before
  counted_before : (element : Element) → element.stamp.epoch + 1 ≡ epoch
      → Counted scheme epoch own (with_lanes before (lanes_of scheme element)) (elements ++ element ∷ [])
  counted_before element is = record {
    own_is =
        counted.own_is ∙ ap (sum_over scheme) (sym (push_other elements element epoch (λ same. absurd (omega arith))));
    before_is = λ last next.
        ap (λ (s : Tally). with_lanes s (lanes_of scheme element)) (counted.before_is last next)
        ∙ sum_over-push scheme (of_epoch last elements) element
        ∙ ap (sum_over scheme) (sym (push_own elements element last (omega arith)));
    none_later = λ later above.
        push_other elements element later (λ same. absurd (omega arith)) ∙ counted.none_later later above;
  }

  -- the epoch turned
  counted_turn : Counted scheme (epoch + 1) zero_sum own elements
  counted_turn = record {
    own_is = ap (sum_over scheme) (sym (counted.none_later (epoch + 1) (omega arith)));
    before_is = λ last next.
        let same : epoch ≡ last = omega arith in
        counted.own_is ∙ ap (λ (e : ℕ). sum_over scheme (of_epoch e elements)) same;
    none_later = λ later above. counted.none_later later (omega arith);
  }

  -- nothing more
  counted_same : (next : ℕ) → next ≡ epoch → Counted scheme next own before (elements ++ [])
  counted_same next is =
      counted_at scheme next epoch own before (elements ++ []) is
      (subst (Counted scheme epoch own before) (sym (append-nil elements)) counted)

-- ---- four sums

-- the sums of what was added and of what was evicted
abbrev pub Keeps : Scheme → ℕ → Sums → List Element → List Element → Type 0
Keeps scheme epoch sums added evicted =
    Counted scheme epoch sums.added sums.added_before added
    × Counted scheme epoch sums.evicted sums.evicted_before evicted

-- the sums that a verifier begins with
pub keeps-opening : (scheme : Scheme) (epoch : ℕ) → Keeps scheme epoch zero_sums [] []
keeps-opening scheme epoch = (none, none)
  where
    none : Counted scheme epoch zero_sum zero_sum []
    none = record { own_is = refl; before_is = λ last next. refl; none_later = λ later above. refl }

module _ (scheme : Scheme) (machine : Machine) (added evicted : List Element) (old new : Reading)
    (keeps : Keeps scheme old.at.epoch machine.sums added evicted) where
  keeps_same : new ≡ old → Keeps scheme new.at.epoch machine.sums (added ++ []) (evicted ++ [])
  keeps_same is =
      let epoch = ap (λ (r : Reading). r.at.epoch) is in (
        counted_same scheme old.at.epoch _ _ added keeps.0 new.at.epoch epoch,
        counted_same scheme old.at.epoch _ _ evicted keeps.1 new.at.epoch epoch,
      )

  -- an element came in, of the clock's epoch or of the one before
  keeps_received : (element : Element) → received old element.stamp ≡ Ok new
      → Keeps scheme new.at.epoch (add_to scheme old.at.epoch machine.sums element)
      (added ++ element ∷ []) (evicted ++ [])
  keeps_received element is =
      let epoch = received-epoch old new element.stamp is in
      let evicted_same = counted_same scheme old.at.epoch _ _ evicted keeps.1 new.at.epoch epoch in
      let hash = lanes_of scheme element in
      cond_both (element.stamp.epoch == old.at.epoch)
      (record machine.sums { added = with_lanes machine.sums.added hash })
      (record machine.sums { added_before = with_lanes machine.sums.added_before hash })
      (λ sums. Keeps scheme new.at.epoch sums (added ++ element ∷ []) (evicted ++ []))
      (λ own. (
        counted_at scheme new.at.epoch old.at.epoch _ _ (added ++ element ∷ []) epoch
            (counted_own scheme old.at.epoch _ _ added keeps.0 element (eqb-true _ _ own)),
        evicted_same,
      ))
      (λ other. (
        counted_at scheme new.at.epoch old.at.epoch _ _ (added ++ element ∷ []) epoch
            (counted_before scheme old.at.epoch _ _ added keeps.0 element
            (before (eqb-false _ _ other)
            (open_epochs old element.stamp.epoch (received-ok old new element.stamp is).0))),
        evicted_same,
      ))
    where
      before : element.stamp.epoch ≢ old.at.epoch
          → (element.stamp.epoch ≡ old.at.epoch)
          ⊎ ((old.first < old.at.epoch) × (element.stamp.epoch + 1 ≡ old.at.epoch))
          → element.stamp.epoch + 1 ≡ old.at.epoch
      before other (inl own) = absurd (other own)
      before other (inr last) = last.1

  -- an element went out, of the clock's epoch
  keeps_sent : (element : Element) → sent old element.stamp ≡ Ok new
      → Keeps scheme new.at.epoch (evict_to scheme machine.sums element)
      (added ++ []) (evicted ++ element ∷ [])
  keeps_sent element is =
      let own = (sent-ok old new element.stamp is).0 in
      let at = sent-at old new element.stamp is in
      let epoch : new.at.epoch ≡ old.at.epoch = ap (λ (s : Stamp). s.epoch) at ∙ own in (
        counted_same scheme old.at.epoch _ _ added keeps.0 new.at.epoch epoch,
        counted_at scheme new.at.epoch old.at.epoch _ _ (evicted ++ element ∷ []) epoch
            (counted_own scheme old.at.epoch _ _ evicted keeps.1 element own),
      )

  -- the epoch turned
  keeps_turned : (sealed : Option ℕ) → advanced old ≡ Ok (sealed, new)
      → Keeps scheme new.at.epoch (advanced_sums machine.sums) (added ++ []) (evicted ++ [])
  keeps_turned sealed is =
      let epoch : new.at.epoch ≡ old.at.epoch + 1 = ap (λ (s : Stamp). s.epoch) (advanced-at old new sealed is) in (
        counted_same scheme (old.at.epoch + 1) _ _ added
            (counted_turn scheme old.at.epoch _ _ added keeps.0) new.at.epoch epoch,
        counted_same scheme (old.at.epoch + 1) _ _ evicted
            (counted_turn scheme old.at.epoch _ _ evicted keeps.1) new.at.epoch epoch,
      )

  -- The sums after a change are those of the elements with its own.
  pub keeps-after : (change : Change) → Ticks old new change
      → Keeps scheme new.at.epoch
      (sums_after scheme old.at.epoch machine.sums (outcome_of change))
      (added ++ added_by change) (evicted ++ evicted_by change)
  keeps-after (did_add_m parent after child) is = keeps_same is
  keeps-after (did_evict_m parent after child) is = keeps_same is
  keeps-after (did_add_b child element) is = keeps_received element is
  keeps-after (did_evict_b child element) is = keeps_sent element is
  keeps-after (did_evict_bm parent after child element) is = keeps_sent element is
  keeps-after (did_get entry) is = keeps_same is
  keeps-after (did_put before after) is = keeps_same is
  keeps-after (did_next_epoch sealed) is = keeps_turned sealed is

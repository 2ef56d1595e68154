-- Each add and each evict raises the counter: so the sums of a verifier stay bounded by its clock with each command.
use Rattle.std.proofs.Common.{◌≡◌, ℕ, ◌<◌, ◌==◌, Option, Ok, inl, inr, refl, sym, ap, subst, arith}
use Rattle.std.proofs.lemmas.Bool.{cond_both}
use Rattle.merkle_records.specs.Scheme.{lanes_of, Scheme}
use Rattle.lamport_clocks.specs.declared.stamp.Stamp.{Stamp}
use Rattle.lamport_clocks.specs.Stamp.{IsLater}
use Rattle.lamport_clocks.specs.Reading.{Reading}
use Rattle.lamport_clocks.specs.Clock.{received, sent, advanced}
use Rattle.lamport_clocks.proofs.ClockLaws.{received-ok, received-later, received-epoch, received-bounds, sent-ok, sent-bounds, advanced-ok, advanced-bounds}
use Rattle.multiset_sum.specs.Sum.{with_lanes}
use Rattle.record_text.specs.declared.element.Element.{Element}
use Rattle.verifier_commands.specs.declared.sums.Sums.{Sums}
use Rattle.verifier_commands.specs.Change.{Change, did_add_m, did_evict_m, did_add_b, did_evict_b, did_evict_bm, did_get, did_put, did_next_epoch}
use Rattle.verifier_commands.specs.Outcome.{outcome_of}
use Rattle.verifier_commands.specs.Sums.{add_to, evict_to, advanced_sums, sums_after}
use Rattle.verifier_commands.specs.Machine.{AreBounded, CountsAdd}
use Rattle.verifier_commands.specs.Ticks.{Ticks}
use Rattle.verifier_commands.proofs.BoundLaws.{bounded_add, bounded_evict, bounded_turn}

-- an element more is counted once
counts_add : (scheme : Scheme) (epoch : ℕ) (sums : Sums) (element : Element)
    → CountsAdd sums (add_to scheme epoch sums element)
counts_add scheme epoch sums element =
    cond_both (element.stamp.epoch == epoch)
    (record sums { added = with_lanes sums.added (lanes_of scheme element) })
    (record sums { added_before = with_lanes sums.added_before (lanes_of scheme element) })
    (CountsAdd sums)
    (λ _. record { added = omega arith; added_before = omega arith; evicted = refl; evicted_before = refl })
    (λ _. record { added = omega arith; added_before = omega arith; evicted = refl; evicted_before = refl })

-- a later stamp of the same epoch has a greater counter
counter_later : (s t : Stamp) → t.epoch ≡ s.epoch → IsLater t s → s.counter < t.counter
counter_later s t same (inl later) = absurd (omega arith)
counter_later s t same (inr later) = later.1

module _ (scheme : Scheme) (old new : Reading) (sums : Sums) (bounded : AreBounded sums old) where
  bounded_same : new ≡ old → AreBounded sums new
  bounded_same is = subst (AreBounded sums) (sym is) bounded

  bounded_received : (epoch : ℕ) (element : Element) → received old element.stamp ≡ Ok new
      → AreBounded (add_to scheme epoch sums element) new
  bounded_received epoch element is =
      let having_read = received-ok old new element.stamp is in
      let end = (received-bounds old new element.stamp is).end in
      let counter = ap (λ (r : Reading). r.at.counter) having_read.2 in
      bounded_add sums (add_to scheme epoch sums element) old new bounded (counts_add scheme epoch sums element) (
        end,
        counter_later old.at new.at (received-epoch old new element.stamp is)
            (received-later old new element.stamp is),
      )
      (omega (arith, having_read.1, end, counter))

  bounded_sent : (element : Element) → sent old element.stamp ≡ Ok new
      → AreBounded (evict_to scheme sums element) new
  bounded_sent element is =
      let gave = sent-ok old new element.stamp is in
      let end = (sent-bounds old new element.stamp is).end in
      let counter = ap (λ (r : Reading). r.at.counter) gave.3 in
      bounded_evict sums (evict_to scheme sums element) old new bounded refl refl
      (end, omega (arith, gave.1, counter))
      (omega (arith, gave.2, end, counter))

  bounded_turned : (sealed : Option ℕ) → advanced old ≡ Ok (sealed, new) → AreBounded (advanced_sums sums) new
  bounded_turned sealed is =
      let turn = advanced-ok old new sealed is in
      bounded_turn sums (advanced_sums sums) old new bounded refl
      ((advanced-bounds old new sealed is).end, ap (λ (r : Reading). r.at.counter) turn.2)

  -- The sums stay bounded after a change.
  pub bounded-after : (change : Change) → Ticks old new change
      → AreBounded (sums_after scheme old.at.epoch sums (outcome_of change)) new
  bounded-after (did_add_m parent after child) is = bounded_same is
  bounded-after (did_evict_m parent after child) is = bounded_same is
  bounded-after (did_add_b child element) is = bounded_received old.at.epoch element is
  bounded-after (did_evict_b child element) is = bounded_sent element is
  bounded-after (did_evict_bm parent after child element) is = bounded_sent element is
  bounded-after (did_get entry) is = bounded_same is
  bounded-after (did_put before after) is = bounded_same is
  bounded-after (did_next_epoch sealed) is = bounded_turned sealed is

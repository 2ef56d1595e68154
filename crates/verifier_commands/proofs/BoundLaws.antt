-- Each add and each evict raises the counter, so the sums stay bounded by it.
use Rattle.std.proofs.Common.{◌≡◌, ◌+◌, ◌<◌, ◌≤◌, arith, ap}
use Rattle.lamport_clocks.specs.Reading.{Reading}
use Rattle.multiset_sum.specs.Tally.{Tally}
use Rattle.verifier_commands.specs.declared.sums.Sums.{Sums}
use Rattle.verifier_commands.specs.Sums.{advanced_sums}
use Rattle.verifier_commands.specs.Machine.{AreBounded, CountsAdd}

pub bounded_add : (old new : Sums) (before after : Reading) → AreBounded old before → CountsAdd old new
    → (after.end ≡ before.end) × (before.at.counter < after.at.counter) → after.at.counter ≤ after.end → AreBounded new after
bounded_add old new before after bounded counts moved within =
    let evicted : new.evicted.count ≡ old.evicted.count = ap (λ (t : Tally). t.count) counts.evicted in
    let evicted_before : new.evicted_before.count ≡ old.evicted_before.count = ap (λ (t : Tally). t.count) counts.evicted_before in
    record {
      end = omega arith;
      counter = within;
      added = omega arith;
      evicted = omega arith;
      added_before = omega arith;
      evicted_before = omega arith;
    }

pub bounded_evict : (old new : Sums) (before after : Reading) → AreBounded old before → new ≡ record old { evicted = new.evicted } → new.evicted.count ≡ old.evicted.count + 1
    → (after.end ≡ before.end) × (before.at.counter < after.at.counter) → after.at.counter ≤ after.end → AreBounded new after
bounded_evict old new before after bounded others count moved within =
    let added : new.added.count ≡ old.added.count = ap (λ (s : Sums). s.added.count) others in
    let added_before : new.added_before.count ≡ old.added_before.count = ap (λ (s : Sums). s.added_before.count) others in
    let evicted_before : new.evicted_before.count ≡ old.evicted_before.count = ap (λ (s : Sums). s.evicted_before.count) others in
    record {
      end = omega arith;
      counter = within;
      added = omega arith;
      evicted = omega arith;
      added_before = omega arith;
      evicted_before = omega arith;
    }

pub bounded_turn : (old new : Sums) (before after : Reading) → AreBounded old before → new ≡ advanced_sums old
    → (after.end ≡ before.end) × (after.at.counter ≡ 0) → AreBounded new after
bounded_turn old new before after bounded advanced moved =
    let added_before : new.added_before.count ≡ old.added.count = ap (λ (s : Sums). s.added_before.count) advanced in
    let evicted_before : new.evicted_before.count ≡ old.evicted.count = ap (λ (s : Sums). s.evicted_before.count) advanced in
    let added : new.added.count ≡ 0 = ap (λ (s : Sums). s.added.count) advanced in
    let evicted : new.evicted.count ≡ 0 = ap (λ (s : Sums). s.evicted.count) advanced in
    record {
      end = omega arith;
      counter = omega arith;
      added = omega arith;
      evicted = omega arith;
      added_before = omega arith;
      evicted_before = omega arith;
    }

pub ruleset bounds = (bounded_add, bounded_evict, bounded_turn)

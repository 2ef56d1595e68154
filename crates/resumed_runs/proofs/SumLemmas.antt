-- The sums of a verifier stay such as multisets have, and bounded by its clock.
use Rattle.std.proofs.Common.{ℕ, zero, suc, ◌+◌, ◌-◌, ◌*◌, ◌^◌, ◌<◌, ◌≤◌, ◌==◌, List, [], ◌∷◌, refl, arith}
use Rattle.std.specs.Prelude.{EachIndex, slice_index}
use Rattle.std.specs.List.{AllByRecursion}
use Rattle.std.proofs.lemmas.Bool.{cond_both}
use Rattle.lamport_clocks.specs.Reading.{Reading}
use Rattle.record_hash.specs.Digests.{AreLanes}
use Rattle.multiset_sum.specs.Tally.{Tally, IsTally}
use Rattle.multiset_sum.specs.Sum.{zero_sum, with_lanes}
use Rattle.record_text.specs.declared.element.Element.{Element}
use Rattle.merkle_records.specs.Scheme.{Scheme, lanes_of}
use Rattle.verifier_commands.specs.declared.sums.Sums.{Sums}
use Rattle.verifier_commands.specs.Change.{Change, did_add_m, did_evict_m, did_add_b, did_evict_b, did_evict_bm, did_get, did_put, did_next_epoch}
use Rattle.verifier_commands.specs.Outcome.{outcome_of}
use Rattle.verifier_commands.specs.Sums.{zero_sums, add_to, evict_to, advanced_sums, sums_after}
use Rattle.verifier_commands.specs.Machine.{AreBounded}
use Rattle.verifier_commands.specs.Ticks.{Ticks}
use Rattle.bundle_report.proofs.BoundedLaws.{bounded-after}

-- ---- a sum

-- what holds of each holds at each index
each_index : (most : ℕ) (lanes : List ℕ) → AllByRecursion (λ lane. lane ≤ most) lanes → EachIndex lanes (λ lane. slice_index lanes lane ≤ most)
each_index most [] all i within = absurd (omega (arith, within))
each_index most (lane ∷ lanes) all zero within = all.0
each_index most (lane ∷ lanes) all (suc i) within = each_index most lanes all.1 i (omega (arith, within))

zero_tally : IsTally zero_sum
zero_tally = record { eight = refl; count = omega arith; bounded = each_index 0 zero_sum.lanes (omega arith, (omega arith, (omega arith, (omega arith, (omega arith, (omega arith, (omega arith, (omega arith, tt)))))))) }

-- one lane more
lane_within : (sum : Tally) (lanes : List ℕ) → IsTally sum → AreLanes lanes → (i : ℕ) → i < 8 → slice_index sum.lanes i + slice_index lanes i ≤ (sum.count + 1) * (2 ^ 32 - 1)
lane_within sum lanes is are i within =
    let own : slice_index sum.lanes i ≤ sum.count * (2 ^ 32 - 1) = is.bounded i (omega (arith, within, is.eight)) in
    omega (arith, own, are.words i)

-- one element more
pub more_tally : (sum : Tally) (lanes : List ℕ) → IsTally sum → AreLanes lanes → sum.count + 1 < 2 ^ 31 → IsTally (with_lanes sum lanes)
more_tally sum lanes is are room =
    let lane = lane_within sum lanes is are in
    record {
      eight = refl;
      count = room;
      bounded = each_index ((sum.count + 1) * (2 ^ 32 - 1)) (with_lanes sum lanes).lanes
          (lane 0 (omega arith), (lane 1 (omega arith), (lane 2 (omega arith), (lane 3 (omega arith), (lane 4 (omega arith), (lane 5 (omega arith), (lane 6 (omega arith), (lane 7 (omega arith), tt))))))));
    }

-- ---- four sums

-- each is such as a multiset has
pub record AreTallies (sums : Sums) : Type 0 where
  pub added : IsTally sums.added
  pub evicted : IsTally sums.evicted
  pub added_before : IsTally sums.added_before
  pub evicted_before : IsTally sums.evicted_before

-- and no more than the clock allows
pub record SumsStand (sums : Sums) (clock : Reading) : Type 0 where
  pub bounded : AreBounded sums clock
  pub tallies : AreTallies sums

-- at the start
pub zero_stand : (clock : Reading) → clock.end ≤ 16777215 → clock.at.counter ≤ clock.end → SumsStand zero_sums clock
zero_stand clock end counter = record {
  bounded = record { end = end; counter = counter; added = omega arith; evicted = omega arith; added_before = omega arith; evicted_before = omega arith };
  tallies = record { added = zero_tally; evicted = zero_tally; added_before = zero_tally; evicted_before = zero_tally };
}

module _ (scheme : Scheme) (lanes : (text : List ℕ) → AreLanes (scheme.lanes text)) (old : Reading) (sums : Sums) (stand : SumsStand sums old) where
  -- an element more
  more_of : (sum : Tally) (element : Element) → IsTally sum → sum.count ≤ old.end + old.at.counter → IsTally (with_lanes sum (lanes_of scheme element))
  more_of sum element is few =
      more_tally sum (lanes_of scheme element) is (lanes _) (omega (arith, few, stand.bounded.end, stand.bounded.counter))

  added_tallies : (epoch : ℕ) (element : Element) → AreTallies (add_to scheme epoch sums element)
  added_tallies epoch element =
      cond_both (element.stamp.epoch == epoch)
      (record sums { added = with_lanes sums.added (lanes_of scheme element) })
      (record sums { added_before = with_lanes sums.added_before (lanes_of scheme element) })
      AreTallies
      (λ _. record { added = more_of sums.added element stand.tallies.added (omega (arith, stand.bounded.added)); evicted = stand.tallies.evicted; added_before = stand.tallies.added_before; evicted_before = stand.tallies.evicted_before })
      (λ _. record { added = stand.tallies.added; evicted = stand.tallies.evicted; added_before = more_of sums.added_before element stand.tallies.added_before stand.bounded.added_before; evicted_before = stand.tallies.evicted_before })

  evicted_tallies : (element : Element) → AreTallies (evict_to scheme sums element)
  evicted_tallies element = record {
    added = stand.tallies.added;
    evicted = more_of sums.evicted element stand.tallies.evicted (omega (arith, stand.bounded.evicted));
    added_before = stand.tallies.added_before;
    evicted_before = stand.tallies.evicted_before;
  }

  turned_tallies : AreTallies (advanced_sums sums)
  turned_tallies = record { added = zero_tally; evicted = zero_tally; added_before = stand.tallies.added; evicted_before = stand.tallies.evicted }

  tallies-after : (change : Change) → AreTallies (sums_after scheme old.at.epoch sums (outcome_of change))
  tallies-after (did_add_m parent after child) = stand.tallies
  tallies-after (did_evict_m parent after child) = stand.tallies
  tallies-after (did_add_b child element) = added_tallies old.at.epoch element
  tallies-after (did_evict_b child element) = evicted_tallies element
  tallies-after (did_evict_bm parent after child element) = evicted_tallies element
  tallies-after (did_get entry) = stand.tallies
  tallies-after (did_put before after) = stand.tallies
  tallies-after (did_next_epoch sealed) = turned_tallies

  -- So they stand behind each change.
  pub sums_stand : (new : Reading) (change : Change) → Ticks old new change → SumsStand (sums_after scheme old.at.epoch sums (outcome_of change)) new
  sums_stand new change is = record { bounded = bounded-after scheme old new sums stand.bounded change is; tallies = tallies-after change }

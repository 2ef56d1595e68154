-- The sums that a verifier keeps: of the elements that it added and evicted in its clock's epoch and in the
-- one before (Blum et al. 1994: what was written and what was read of an epoch are one multiset).
use Rattle.std.specs.Prelude.{ℕ, ◌==◌, if◌then◌else◌}
use Rattle.record_text.specs.declared.element.Element.{Element}
use Rattle.multiset_sum.specs.Sum.{zero_sum, with_lanes}
use Rattle.verifier_commands.specs.declared.sums.Sums.{Sums}
use Rattle.verifier_commands.specs.Outcome.{Outcome, AddM, EvictM, AddB, EvictB, EvictBM, Get, Put, NextEpoch}
use Rattle.merkle_records.specs.Scheme.{Scheme, lanes_of}

-- before anything was added or evicted
abbrev pub zero_sums : Sums
zero_sums = record { added_before = zero_sum; evicted_before = zero_sum; added = zero_sum; evicted = zero_sum }

-- an element more that was added, in its own stamp's epoch
abbrev pub add_to : Scheme → ℕ → Sums → Element → Sums
add_to scheme epoch sums element =
    if element.stamp.epoch == epoch
    then record sums { added = with_lanes sums.added (lanes_of scheme element) }
    else record sums { added_before = with_lanes sums.added_before (lanes_of scheme element) }

-- an element more that was evicted
abbrev pub evict_to : Scheme → Sums → Element → Sums
evict_to scheme sums element = record sums { evicted = with_lanes sums.evicted (lanes_of scheme element) }

-- the sums in the next epoch: those of its epoch are of the one before, and those of the new one are zero
abbrev pub advanced_sums : Sums → Sums
advanced_sums sums = record { added_before = sums.added; evicted_before = sums.evicted; added = zero_sum; evicted = zero_sum }

-- the sums after a command with this outcome, at a clock in this epoch
abbrev pub sums_after : Scheme → ℕ → Sums → Outcome → Sums
sums_after scheme epoch sums AddM = sums
sums_after scheme epoch sums EvictM = sums
sums_after scheme epoch sums (AddB element) = add_to scheme epoch sums element
sums_after scheme epoch sums (EvictB element) = evict_to scheme sums element
sums_after scheme epoch sums (EvictBM element) = evict_to scheme sums element
sums_after scheme epoch sums (Get wide key value) = sums
sums_after scheme epoch sums (Put wide key value) = sums
sums_after scheme epoch sums (NextEpoch sealed) = advanced_sums sums

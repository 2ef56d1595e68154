-- The sum of a multiset as a text, the part of a sealed epoch, and what bytes mean as such.
use Rattle.std.specs.Prelude.{◌≡◌, ◌<◌, ◌≤◌, ◌^◌, ℕ, ◌*◌, ◌-◌, ◌&&◌, nat_le, Bool, true, List, ◌++◌, length, Option, Some, None, if◌then◌else◌}
use Rattle.std.specs.Int.{w32, w64, to_be_bytes}
use Rattle.std.specs.List.{flat_map, AllByRecursion}
use Rattle.multiset_sum.specs.Tally.{Tally}
use Rattle.multiset_sum.specs.Sum.{sum_with, is_tally}
use Rattle.multiset_sum.specs.declared.part.Part.{Part}
use Rattle.record_text.specs.Fields.{Parsed}
use Rattle.record_text.specs.Reading.{u32_at, u64_at}
use Rattle.seals.specs.declared.bounds.Bounds.{Bounds}
use Rattle.seals.specs.Combined.{then_at, pick_at, row_at}
use Rattle.seals.specs.Bounds.{most_sealed}

-- these may be the lanes of so many elements, which are no more than these
abbrev pub is_sum : ℕ → List ℕ → ℕ → Bool
is_sum most lanes count = nat_le count most && is_tally lanes count

-- the sum of at most so many elements with these lanes and this count
abbrev pub sum_in : ℕ → List ℕ × ℕ → Option Tally
sum_in most f = if is_sum most f.0 f.1 then Some (sum_with f.0 f.1) else None

-- the eight lanes of a sum
unfoldable pub lanes_at : List ℕ → Parsed (List ℕ)
lanes_at bytes = row_at (λ before lane. true) u64_at None 8 bytes

-- what bytes mean as the sum of at most so many elements: its lanes and its count
unfoldable pub sum_at : ℕ → List ℕ → Parsed Tally
sum_at most bytes = pick_at (sum_in most) (then_at lanes_at (λ lanes. u64_at)) bytes

abbrev pub sum_text : Tally → List ℕ
sum_text sum = flat_map (to_be_bytes w64) sum.lanes ++ to_be_bytes w64 sum.count

-- which sums have a text: those of at most so many elements
pub record IsGoodSum (most : ℕ) (sum : Tally) : Type 0 where
  pub eight : length sum.lanes ≡ 8
  pub lanes : AllByRecursion (λ lane. lane < 2 ^ 64) sum.lanes
  pub count : sum.count < 2 ^ 31
  pub within : sum.count ≤ most
  pub bounded : AllByRecursion (λ lane. lane ≤ sum.count * (2 ^ 32 - 1)) sum.lanes

-- ---- the part of a sealed epoch

-- the epoch, and the sums of what was added and of what was evicted
abbrev pub PartFields : Type 0
PartFields = ℕ × (Tally × Tally)

abbrev pub part_of_fields : ℕ → PartFields → Option Part
part_of_fields number f = Some (record { verifier = number; epoch = f.0; added = f.1.0; evicted = f.1.1 })

-- what bytes mean as a part of a verifier
unfoldable pub part_at : Bounds → List ℕ → Parsed Part
part_at bounds bytes =
    pick_at (part_of_fields bounds.number) (then_at u32_at (λ epoch. then_at (sum_at (most_sealed bounds)) (λ added. sum_at (most_sealed bounds)))) bytes

abbrev pub part_text : Part → List ℕ
part_text part = to_be_bytes w32 part.epoch ++ (sum_text part.added ++ sum_text part.evicted)

-- which parts of a verifier have a text
pub record IsGoodPart (bounds : Bounds) (part : Part) : Type 0 where
  pub verifier : part.verifier ≡ bounds.number
  pub epoch : part.epoch < 2 ^ 32
  pub added : IsGoodSum (most_sealed bounds) part.added
  pub evicted : IsGoodSum (most_sealed bounds) part.evicted

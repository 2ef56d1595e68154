-- What holds of all hot records holds of those that were touched, in whatever order.
use Rattle.std.proofs.Common.{Bool, true, false, not, List, [], ◌∷◌, cond, nat_lt}
use Rattle.std.specs.Prelude.{filter}
use Rattle.std.specs.List.{AllByRecursion}
use Rattle.stamp_order.specs.InOrder.{put_in_order, in_order}
use Rattle.host_shard.specs.declared.content.HotRecord.{HotRecord}
use Rattle.host_shard.specs.Content.{Content}
use Rattle.protection_moves.specs.Stage.{hot_records, is_touched, touched_in, untouched_in}

pub all-filter : (P : HotRecord → Type 0) (test : HotRecord → Bool) (records : List HotRecord) → AllByRecursion P records → AllByRecursion P (filter test records)
all-filter P test [] all = tt
all-filter P test (found ∷ records) all =
    elim (test found) as (λ b. AllByRecursion P (cond b (found ∷ filter test records) (filter test records))) [
      | true ↦ (all.0, all-filter P test records all.1)
      | false ↦ all-filter P test records all.1
    ]

pub all-put : (P : HotRecord → Type 0) (before : HotRecord → HotRecord → Bool) (found : HotRecord) (records : List HotRecord) → P found → AllByRecursion P records
    → AllByRecursion P (put_in_order before found records)
all-put P before found [] one all = (one, tt)
all-put P before found (first ∷ records) one all =
    elim (before first found) as (λ b. AllByRecursion P (cond b (first ∷ put_in_order before found records) (found ∷ first ∷ records))) [
      | true ↦ (all.0, all-put P before found records one all.1)
      | false ↦ (one, all)
    ]

pub all-order : (P : HotRecord → Type 0) (before : HotRecord → HotRecord → Bool) (records : List HotRecord) → AllByRecursion P records
    → AllByRecursion P (in_order before records)
all-order P before [] all = tt
all-order P before (found ∷ records) all = all-put P before found (in_order before records) all.0 (all-order P before records all.1)

pub touched_all : (P : HotRecord → Type 0) (places : List Content) → AllByRecursion P (hot_records places) → AllByRecursion P (touched_in places)
touched_all P places all = all-order P (λ a b. nat_lt a.key b.key) _ (all-filter P is_touched (hot_records places) all)

pub untouched_all : (P : HotRecord → Type 0) (places : List Content) → AllByRecursion P (hot_records places) → AllByRecursion P (untouched_in places)
untouched_all P places all = all-order P (λ a b. nat_lt a.key b.key) _ (all-filter P (λ found. not (is_touched found)) (hot_records places) all)

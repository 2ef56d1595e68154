-- Each hot record of a stage was touched in the epoch that closes, or was not.
use Rattle.std.proofs.Common.{◌≡◌, ◌⊎◌, ◌+◌, Bool, true, false, not, List, [], ◌∷◌, ◌++◌, cond, nat_lt, inl, inr, arith}
use Rattle.std.specs.Prelude.{filter}
use Rattle.std.specs.List.{AllByRecursion}
use Rattle.record_text.specs.declared.element.Element.{Element}
use Rattle.stamp_order.specs.InOrder.{put_in_order, in_order}
use Rattle.host_shard.specs.declared.content.HotRecord.{HotRecord}
use Rattle.host_shard.specs.Content.{Content}
use Rattle.protection_moves.specs.Stage.{hot_records, is_touched, touched_in, untouched_in}
use Rattle.protection_moves.proofs.TouchedLaws.{all-filter, all-order}
use Rattle.move_laws.specs.Stages.{IsOne}
use Rattle.move_laws.proofs.CountLaws.{weight, weight-order, weight-split}
use Rattle.move_laws.proofs.PlaceLaws.{AreApart, all-are, all-map, apart-filter, apart-order}

-- ---- those that were touched, and those that were not

one-put : (before : HotRecord → HotRecord → Bool) (new found : HotRecord) (records : List HotRecord) → IsOne (new ∷ records) found
    → IsOne (put_in_order before new records) found
one-put before new found [] is = is
one-put before new found (first ∷ records) is =
    elim (before first new) as (λ b. IsOne (cond b (first ∷ put_in_order before new records) (new ∷ first ∷ records)) found) [
      | true ↦ elim is [
        | inl same ↦ inr (one-put before new found records (inl same))
        | inr rest ↦ elim rest [
          | inl same ↦ inl same
          | inr further ↦ inr (one-put before new found records (inr further))
        ]
      ]
      | false ↦ is
    ]

pub one-order : (before : HotRecord → HotRecord → Bool) (found : HotRecord) (records : List HotRecord) → IsOne records found → IsOne (in_order before records) found
one-order before found [] is = is
one-order before found (first ∷ records) (inl same) = one-put before first found (in_order before records) (inl same)
one-order before found (first ∷ records) (inr is) = one-put before first found (in_order before records) (inr (one-order before found records is))

one-split : (test : HotRecord → Bool) (found : HotRecord) (records : List HotRecord) → IsOne records found
    → IsOne (filter test records) found ⊎ IsOne (filter (λ other. not (test other)) records) found
one-split test found [] is = absurd is
one-split test found (first ∷ records) is =
    elim (test first) as (λ b. IsOne (cond b (first ∷ filter test records) (filter test records)) found
    ⊎ IsOne (cond (not b) (first ∷ filter (λ other. not (test other)) records) (filter (λ other. not (test other)) records)) found) [
      | true ↦ elim is [
        | inl same ↦ inl (inl same)
        | inr rest ↦ elim (one-split test found records rest) [ inl one ↦ inl (inr one) | inr one ↦ inr one ]
      ]
      | false ↦ elim is [
        | inl same ↦ inr (inl same)
        | inr rest ↦ elim (one-split test found records rest) [ inl one ↦ inl one | inr one ↦ inr (inr one) ]
      ]
    ]

one-left : (xs ys : List HotRecord) (found : HotRecord) → IsOne xs found → IsOne (xs ++ ys) found
one-left [] ys found is = absurd is
one-left (x ∷ xs) ys found (inl same) = inl same
one-left (x ∷ xs) ys found (inr is) = inr (one-left xs ys found is)

one-right : (xs ys : List HotRecord) (found : HotRecord) → IsOne ys found → IsOne (xs ++ ys) found
one-right [] ys found is = is
one-right (x ∷ xs) ys found is = inr (one-right xs ys found is)

-- each hot record is one or the other
pub all_split : (places : List Content) → AllByRecursion (IsOne (touched_in places ++ untouched_in places)) (hot_records places)
all_split places =
    all-map (IsOne (hot_records places)) (IsOne (touched_in places ++ untouched_in places)) (λ found is. go found (one-split is_touched found (hot_records places) is))
    (hot_records places) (all-are (hot_records places))
  where
    go : (found : HotRecord) → IsOne (filter is_touched (hot_records places)) found ⊎ IsOne (filter (λ other. not (is_touched other)) (hot_records places)) found
        → IsOne (touched_in places ++ untouched_in places) found
    go found (inl is) = one-left (touched_in places) (untouched_in places) found (one-order _ found _ is)
    go found (inr is) = one-right (touched_in places) (untouched_in places) found (one-order _ found _ is)

-- together they are all
pub weight_split : (x : Element) (places : List Content)
    → weight x (hot_records places) ≡ weight x (touched_in places) + weight x (untouched_in places)
weight_split x places =
    omega (
      arith,
      weight-split x is_touched (hot_records places),
      weight-order x (λ a b. nat_lt a.key b.key) (filter is_touched (hot_records places)),
      weight-order x (λ a b. nat_lt a.key b.key) (filter (λ found. not (is_touched found)) (hot_records places)),
    )

-- what holds of all hot records holds of those that were touched, and of the others
pub all_untouched : (P : HotRecord → Type 0) (places : List Content) → AllByRecursion P (hot_records places) → AllByRecursion P (untouched_in places)
all_untouched P places all = all-order P _ _ (all-filter P _ (hot_records places) all)

pub apart_touched : (places : List Content) → AreApart (hot_records places) → AreApart (touched_in places)
apart_touched places apart = apart-order _ _ (apart-filter is_touched (hot_records places) apart)

pub apart_untouched : (places : List Content) → AreApart (hot_records places) → AreApart (untouched_in places)
apart_untouched places apart = apart-order _ _ (apart-filter _ (hot_records places) apart)

-- How often an element stands among those with which hot records wait.
use Rattle.std.proofs.Common.{◌≡◌, ℕ, zero, suc, ◌+◌, Bool, true, false, not, List, [], ◌∷◌, ◌++◌, map, cond, if◌then◌else◌, refl, arith}
use Rattle.std.specs.Prelude.{filter}
use Rattle.record_text.specs.declared.element.Element.{Element}
use Rattle.stamp_order.specs.InOrder.{put_in_order, in_order}
use Rattle.soundness.specs.Permutation.{same_element, count_of}
use Rattle.host_shard.specs.declared.content.HotRecord.{HotRecord}
use Rattle.host_shard.specs.Content.{pending_hot}

-- an element in front
pub count-front : (x y : Element) (ys : List Element) → count_of x (y ∷ ys) ≡ count_of x (y ∷ []) + count_of x ys
count-front x y ys = go (same_element x y)
  where
    go : (b : Bool) → (if b then suc (count_of x ys) else count_of x ys) ≡ (if b then suc zero else zero) + count_of x ys
    go true = omega arith
    go false = omega arith

-- one list behind another
pub count-append : (x : Element) (xs ys : List Element) → count_of x (xs ++ ys) ≡ count_of x xs + count_of x ys
count-append x [] ys = omega arith
count-append x (y ∷ xs) ys = omega (arith, count-front x y (xs ++ ys), count-front x y xs, count-append x xs ys)

-- how often the element stands among those of hot records
abbrev pub weight : Element → List HotRecord → ℕ
weight x records = count_of x (map pending_hot records)

pub weight-front : (x : Element) (found : HotRecord) (records : List HotRecord)
    → weight x (found ∷ records) ≡ weight x (found ∷ []) + weight x records
weight-front x found records = count-front x (pending_hot found) (map pending_hot records)

-- whatever the order
weight-put : (x : Element) (before : HotRecord → HotRecord → Bool) (found : HotRecord) (records : List HotRecord)
    → weight x (put_in_order before found records) ≡ weight x (found ∷ []) + weight x records
weight-put x before found [] = omega arith
weight-put x before found (first ∷ records) =
    elim (before first found) as (λ b. weight x (cond b (first ∷ put_in_order before found records) (found ∷ first ∷ records))
    ≡ weight x (found ∷ []) + weight x (first ∷ records)) [
      | true ↦ omega (
        arith,
        weight-front x first (put_in_order before found records),
        weight-front x first records,
        weight-put x before found records,
      )
      | false ↦ weight-front x found (first ∷ records)
    ]

pub weight-order : (x : Element) (before : HotRecord → HotRecord → Bool) (records : List HotRecord)
    → weight x (in_order before records) ≡ weight x records
weight-order x before [] = refl
weight-order x before (found ∷ records) =
    omega (
      arith,
      weight-put x before found (in_order before records),
      weight-order x before records,
      weight-front x found records,
    )

-- those that pass a test, and those that don't
pub weight-split : (x : Element) (test : HotRecord → Bool) (records : List HotRecord)
    → weight x records ≡ weight x (filter test records) + weight x (filter (λ found. not (test found)) records)
weight-split x test [] = refl
weight-split x test (found ∷ records) =
    elim (test found) as (λ b. weight x (found ∷ records)
    ≡ weight x (cond b (found ∷ filter test records) (filter test records))
    + weight x (cond (not b) (found ∷ filter (λ other. not (test other)) records) (filter (λ other. not (test other)) records))) [
      | true ↦ omega (
        arith,
        weight-front x found records,
        weight-front x found (filter test records),
        weight-split x test records,
      )
      | false ↦ omega (
        arith,
        weight-front x found records,
        weight-front x found (filter (λ other. not (test other)) records),
        weight-split x test records,
      )
    ]

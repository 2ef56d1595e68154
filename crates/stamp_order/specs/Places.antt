-- The places of lists of operations, in the order in which the lists begin: of those of one moment the first list comes first.
use Rattle.std.specs.Prelude.{◌≡◌, ℕ, ◌+◌, ◌<◌, ◌≤◌, Bool, true, false, List, [], ◌∷◌, ◌++◌, length, map, take, drop, get_or, ⊤}
use Rattle.std.specs.declared.cmp.Ordering.{Ordering}
use Rattle.std.specs.Ordering.{nat_cmp, ordering_then, is_lt}
use Rattle.std.specs.List.{AllByRecursion, flat_map, insert}
use Rattle.record_text.specs.declared.operation.Operation.{Operation}
use Rattle.stamp_order.specs.InOrder.{in_order}
use Rattle.stamp_order.specs.Moment.{moment_cmp}
use Rattle.stamp_order.specs.Operations.{moment_of}
use Rattle.stamp_order.specs.Lists.{AreMerged}

-- operations with the places of their lists: by their moments, and then by the places
abbrev pub placed_cmp : ℕ × Operation → ℕ × Operation → Ordering
placed_cmp x y = ordering_then (moment_cmp (moment_of x.1) (moment_of y.1)) (nat_cmp x.0 y.0)

-- whether x comes before y
abbrev pub is_sooner : ℕ × Operation → ℕ × Operation → Bool
is_sooner x y = is_lt (placed_cmp x y)

-- the list at a place
abbrev pub list_at : List (List Operation) → ℕ → List Operation
list_at lists place = get_or lists place []

-- the operations of a list, each with its place
abbrev pub placed : ℕ → List Operation → List (ℕ × Operation)
placed place list = map (λ operation. (place, operation)) list

-- those of the lists at these places
abbrev pub all_at : List (List Operation) → List ℕ → List (ℕ × Operation)
all_at lists places = flat_map (λ place. placed place (list_at lists place)) places

-- those of lists one after another, the first of which stands at this place
abbrev pub all_from : ℕ → List (List Operation) → List (ℕ × Operation)
all_from place [] = []
all_from place (list ∷ lists) = placed place list ++ all_from (place + 1) lists

-- the operations of the lists at these places, in the one order
abbrev pub left_at : List (List Operation) → List ℕ → List Operation
left_at lists places = map (λ x. x.1) (in_order is_sooner (all_at lists places))

-- whether the first of one list, at its place, comes before the first of another
abbrev pub heads_sooner : ℕ → List Operation → ℕ → List Operation → Bool
heads_sooner p (x ∷ xs) q (y ∷ ys) = is_sooner (p, x) (q, y)
heads_sooner p _ q _ = false

-- whether the list at p begins sooner than that at q
abbrev pub begins_sooner : List (List Operation) → ℕ → ℕ → Bool
begins_sooner lists p q = heads_sooner p (list_at lists p) q (list_at lists q)

-- Lists at these places have operations, and each begins sooner than those at the places in front of its own.
abbrev pub StandByStart : List (List Operation) → List ℕ → Type 0
StandByStart lists [] = ⊤
StandByStart lists (p ∷ places) = (0 < length (list_at lists p)) × AllByRecursion (λ q. begins_sooner lists q p ≡ true) places × StandByStart lists places

-- a place goes behind those whose lists begin later, and in front of those whose lists begin sooner
pub record GoesTo (lists : List (List Operation)) (place : ℕ) (places : List ℕ) (at : ℕ) : Type 0 where
  pub within : at ≤ length places
  pub later : AllByRecursion (λ q. begins_sooner lists place q ≡ true) (take at places)
  pub sooner : AllByRecursion (λ q. begins_sooner lists q place ≡ true) (drop at places)

-- a place was put where it goes
abbrev pub IsPutIn : List (List Operation) → ℕ → List ℕ → List ℕ → Type 0
IsPutIn lists place before after = (at : ℕ) × GoesTo lists place before at × (after ≡ insert before at place)

-- the places of lists that stand in order, and how many operations these have
pub record IsStanding (lists : List (List Operation)) (places : List ℕ) (left : ℕ) : Type 0 where
  pub in_order : AreMerged lists
  pub by_start : StandByStart lists places
  pub count : left ≡ length (left_at lists places)

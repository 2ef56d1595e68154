-- What stands for each member goes to its place where the members are merged, as what references point to does.
use Rattle.std.proofs.Common.{◌≡◌, Bool, true, false, cond, List, [], ◌∷◌, map, refl, ◌∙◌, ap}
use Rattle.stamp_order.specs.declared.moment.Moment.{Moment}
use Rattle.stamp_order.specs.InOrder.{put_in_order}
use Rattle.stamp_order.specs.Merged.{comes_before, merged}

-- what stands for each member goes to its place
put-map : {X Y : Type 0} (lt : Y → Y → Bool) (f : X → Y) (x : X) (xs : List X)
    → map f (put_in_order (λ a b. lt (f a) (f b)) x xs) ≡ put_in_order lt (f x) (map f xs)
put-map lt f x [] = refl
put-map lt f x (y ∷ ys) = go (lt (f y) (f x)) (put-map lt f x ys)
  where
    go : (b : Bool) → map f (put_in_order (λ a b. lt (f a) (f b)) x ys) ≡ put_in_order lt (f x) (map f ys)
        → map f (cond b (y ∷ put_in_order (λ a b. lt (f a) (f b)) x ys) (x ∷ y ∷ ys)) ≡ cond b (f y ∷ put_in_order lt (f x) (map f ys)) (f x ∷ f y ∷ map f ys)
    go true further = ap (λ zs. f y ∷ zs) further
    go false further = refl

-- the merged list of what stands for each member
pub merged-map : {X Y : Type 0} (at : Y → Moment) (f : X → Y) (xs : List X) → map f (merged (λ x. at (f x)) xs) ≡ merged at (map f xs)
merged-map at f [] = refl
merged-map at f (x ∷ xs) =
    put-map (comes_before at) f x (merged (λ x. at (f x)) xs) ∙ ap (put_in_order (comes_before at) (f x)) (merged-map at f xs)

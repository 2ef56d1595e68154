-- Hot records in the order of their keys, and the place of one of them.
use Rattle.std.proofs.Common.{◌≡◌, ℕ, zero, suc, ◌<◌, ◌≤◌, Bool, List, [], ◌∷◌, ◌++◌, map, length, take, drop, cond, nat_lt, get_or, set, if◌then◌else◌, refl, sym, ◌∙◌, ap, arith}
use Rattle.std.proofs.lemmas.Bool.{lt-ltb, le-ltb}
use Rattle.stamp_order.specs.InOrder.{put_in_order}
use Rattle.host_shard.specs.declared.content.HotRecord.{HotRecord}
use Rattle.host_shard.specs.Content.{Content}
use Rattle.protection_moves.specs.Places.{replaced_at}
use Rattle.protection_moves.specs.Stage.{is_hot_at, replaced}

-- one record comes before another
abbrev pub before : HotRecord → HotRecord → Bool
before a b = nat_lt a.key b.key

-- behind those that come before it, a record is put further back
pub put_step : (new : HotRecord) (records : List HotRecord) (i : ℕ) (d : HotRecord) → i < length records → (get_or records i d).key < new.key
    → put_in_order before new records ≡ take i records ++ put_in_order before new (drop i records)
    → put_in_order before new records ≡ take (suc i) records ++ put_in_order before new (drop (suc i) records)
put_step new records i d within less so_far = so_far ∙ move records i within less
  where
    move : (rest : List HotRecord) (k : ℕ) → k < length rest → (get_or rest k d).key < new.key
        → take k rest ++ put_in_order before new (drop k rest) ≡ take (suc k) rest ++ put_in_order before new (drop (suc k) rest)
    move [] k inside below = absurd (omega (arith, inside))
    move (first ∷ rest) zero inside below =
        ap (λ (b : Bool). cond b (first ∷ put_in_order before new rest) (new ∷ first ∷ rest)) (lt-ltb first.key new.key below)
    move (first ∷ rest) (suc k) inside below = ap (λ (xs : List HotRecord). first ∷ xs) (move rest k (omega (arith, inside)) below)

-- at the end, or in front of one that doesn't come before it, it stands
pub put_end : (new : HotRecord) (records : List HotRecord) (i : ℕ) → length records ≤ i
    → put_in_order before new records ≡ take i records ++ put_in_order before new (drop i records)
    → put_in_order before new records ≡ take i records ++ new ∷ drop i records
put_end new records i over so_far = so_far ∙ stands records i over
  where
    stands : (rest : List HotRecord) (k : ℕ) → length rest ≤ k → take k rest ++ put_in_order before new (drop k rest) ≡ take k rest ++ new ∷ drop k rest
    stands [] zero outside = refl
    stands [] (suc k) outside = refl
    stands (first ∷ rest) zero outside = absurd (omega (arith, outside))
    stands (first ∷ rest) (suc k) outside = ap (λ (xs : List HotRecord). first ∷ xs) (stands rest k (omega (arith, outside)))

pub put_here : (new : HotRecord) (records : List HotRecord) (i : ℕ) (d : HotRecord) → i < length records → new.key ≤ (get_or records i d).key
    → put_in_order before new records ≡ take i records ++ put_in_order before new (drop i records)
    → put_in_order before new records ≡ take i records ++ new ∷ drop i records
put_here new records i d within more so_far = so_far ∙ stands records i within more
  where
    stands : (rest : List HotRecord) (k : ℕ) → k < length rest → new.key ≤ (get_or rest k d).key
        → take k rest ++ put_in_order before new (drop k rest) ≡ take k rest ++ new ∷ drop k rest
    stands [] k inside above = absurd (omega (arith, inside))
    stands (first ∷ rest) zero inside above =
        ap (λ (b : Bool). cond b (first ∷ put_in_order before new rest) (new ∷ first ∷ rest)) (le-ltb first.key new.key above)
    stands (first ∷ rest) (suc k) inside above = ap (λ (xs : List HotRecord). first ∷ xs) (stands rest k (omega (arith, inside)) above)

-- so many places are looked at
abbrev pub replaced_front : ℕ → ℕ → Content → List Content → List Content
replaced_front zero key now places = places
replaced_front (suc i) key now [] = []
replaced_front (suc i) key now (content ∷ places) = (if is_hot_at key content then now else content) ∷ replaced_front i key now places

pub replaced_none_yet : (key : ℕ) (now : Content) (places : List Content) → places ≡ replaced_front 0 key now places
replaced_none_yet key now places = refl

pub replaced_all : (i key : ℕ) (now : Content) (places : List Content) → length places ≤ i → replaced_front i key now places ≡ replaced key now places
replaced_all zero key now [] over = refl
replaced_all zero key now (content ∷ places) over = absurd (omega (arith, over))
replaced_all (suc i) key now [] over = refl
replaced_all (suc i) key now (content ∷ places) over =
    ap (λ (rest : List Content). (if is_hot_at key content then now else content) ∷ rest) (replaced_all i key now places (omega (arith, over)))

-- the next place
pub replaced_next : (i key : ℕ) (now d : Content) (places : List Content) → i < length places
    → set (replaced_front i key now places) i (if is_hot_at key (get_or places i d) then now else get_or places i d) ≡ replaced_front (suc i) key now places
replaced_next i key now d [] within = absurd (omega (arith, within))
replaced_next zero key now d (content ∷ places) within = refl
replaced_next (suc i) key now d (content ∷ places) within =
    ap (λ (rest : List Content). (if is_hot_at key content then now else content) ∷ rest) (replaced_next i key now d places (omega (arith, within)))

front_get : (i key : ℕ) (now d : Content) (places : List Content) → get_or (replaced_front i key now places) i d ≡ get_or places i d
front_get zero key now d places = refl
front_get (suc i) key now d [] = refl
front_get (suc i) key now d (content ∷ places) = front_get i key now d places

pub map_set : {A B : Type 0} (f : A → B) (xs : List A) (i : ℕ) (x : A) → map f (set xs i x) ≡ set (map f xs) i (f x)
map_set f [] i x = refl
map_set f (y ∷ xs) zero x = refl
map_set f (y ∷ xs) (suc i) x = ap (λ rest. f y ∷ rest) (map_set f xs i x)

map_get : {A B : Type 0} (f : A → B) (xs : List A) (i : ℕ) (d : A) → get_or (map f xs) i (f d) ≡ f (get_or xs i d)
map_get f [] i d = refl
map_get f (x ∷ xs) zero d = refl
map_get f (x ∷ xs) (suc i) d = map_get f xs i d

length_map : {A B : Type 0} (f : A → B) (xs : List A) → length (map f xs) ≡ length xs
length_map f [] = refl
length_map f (x ∷ xs) = ap (λ (n : ℕ). suc n) (length_map f xs)

length_front : (i key : ℕ) (now : Content) (places : List Content) → length (replaced_front i key now places) ≡ length places
length_front zero key now places = refl
length_front (suc i) key now [] = refl
length_front (suc i) key now (content ∷ places) = ap (λ (n : ℕ). suc n) (length_front i key now places)

pub set_same : {A : Type 0} (xs : List A) (i : ℕ) (d : A) → set xs i (get_or xs i d) ≡ xs
set_same [] i d = refl
set_same (x ∷ xs) zero d = refl
set_same (x ∷ xs) (suc i) d = ap (λ rest. x ∷ rest) (set_same xs i d)

module _ {A : Type 0} (f : A → Content) (key : ℕ) (now : Content) where
  -- the next place is written, or left
  pub replaced_step : (i : ℕ) (places old : List A) (d new : A) → map f places ≡ replaced_front i key now (map f old) → i < length places
      → f new ≡ replaced_at key now (f (get_or places i d)) → map f (set places i new) ≡ replaced_front (suc i) key now (map f old)
  replaced_step i places old d new so_far within same =
      map_set f places i new
      ∙ ap (λ (xs : List Content). set xs i (f new)) so_far
      ∙ ap (λ (x : Content). set (replaced_front i key now (map f old)) i x) (same ∙ ap (replaced_at key now) there)
      ∙ replaced_next i key now (f d) (map f old) inside
    where
      there : f (get_or places i d) ≡ get_or (map f old) i (f d)
      there = sym (map_get f places i d) ∙ ap (λ (xs : List Content). get_or xs i (f d)) so_far ∙ front_get i key now (f d) (map f old)

      inside : i < length (map f old)
      inside = omega (arith, within, length_front i key now (map f old), ap (λ (xs : List Content). length xs) so_far, length_map f places)

  pub replaced_end : (i : ℕ) (places old : List A) → map f places ≡ replaced_front i key now (map f old) → length old ≤ i → map f places ≡ replaced key now (map f old)
  replaced_end i places old so_far over = so_far ∙ replaced_all i key now (map f old) (omega (arith, over, length_map f old))

-- Which keys are promotable, gathered from the lowest on among the paths that were touched.
use Rattle.std.proofs.Common.{◌≡◌, ◌⊎◌, ℕ, ◌<◌, ◌≤◌, ◌^◌, ◌||◌, Bool, true, false, List, [], ◌∷◌, ◌++◌, length, take, nat_lt, Option, Some, None, IfSome, if◌then◌else◌, IsSome, refl, sym, ◌∙◌, ap, subst, inl, inr, arith, append_assoc, append-nil}
use Rattle.std.proofs.lemmas.Bool.{false≢true, ltb-false, ltb-true}
use Rattle.std.proofs.lemmas.List.{take_all}
use Rattle.std.proofs.lemmas.List.Folds.{list_any-append}
use Rattle.std.proofs.Math.Seq.{take-append_seam}
use Rattle.std.specs.List.{AllByRecursion, IsAmong, list_any}
use Rattle.std.specs.Option.{option_map_or}
use Rattle.tree_keys.specs.Path.{key_bits, key_path, same_path, side, tree_of}
use Rattle.tree_keys.proofs.PathLaws.{same_path-true}
use Rattle.host_shard.specs.declared.record.Record.{Record}
use Rattle.host_shard.specs.Content.{Content}
use Rattle.host_shard.specs.Mirrors.{IsKeyOf}
use Rattle.host_shard.specs.Records.{Listed, AreInOrder, record_at, touches_in}
use Rattle.host_shard.specs.Shard.{key_path_in, wide_in, Shard}
use Rattle.host_shard.specs.Touched.{AreAmong}
use Rattle.protection_moves.specs.Promotable.{is_hot, lower_of, promotable_key, promotable_among, AreRising, IsAbove, IsAt, IsLowest}
use Rattle.protection_moves.proofs.PromotableLemmas.{among_head, among_tail, among_cases, found, touched_among, promotable_at, is_promotable_at, promotable_rising, promotable_own, promotable_in_range, all_front, rising_front}

-- ---- the key of one path

-- a record's touches, none where there is none
abbrev touches_at : Option Record → ℕ
touches_at kept = option_map_or (λ r. r.touches) kept 0

-- a promotable key is one of the promotable
pub key_own : (least : ℕ) (frontier : List Bool) (places : List Content) (listed : Listed) (path : List Bool) (kept : Record) (key : Option ℕ)
    → 0 < least → Some kept ≡ record_at listed path → key ≡ promotable_key least frontier places path kept
    → IfSome key (λ k. IsAmong (promotable_among least frontier places listed) k)
key_own least frontier places listed path kept None some at is = tt
key_own least frontier places listed path kept (Some key) some at is =
    let own = promotable_at least frontier places path kept key (sym is) in
    touched_among least frontier places listed key some
    (subst (λ (q : List Bool). least ≤ touches_in (record_at listed) q) own.own (subst (λ (o : Option Record). least ≤ touches_at o) at own.often))
    (subst (λ (q : List Bool). IsSome (side frontier q)) own.own own.below)
    (subst (λ (q : List Bool). is_hot q places ≡ false) own.own own.cold')
    own.fits

-- and of a path with a record it is the only one
pub key_there : (least : ℕ) (frontier : List Bool) (places : List Content) (listed : Listed) (path : List Bool) (kept : Record) (key : ℕ)
    → AreInOrder listed → Some kept ≡ record_at listed path → IsAmong (promotable_among least frontier places listed) key
    → same_path (key_path (tree_of frontier) key) path ≡ true → promotable_key least frontier places path kept ≡ Some key
key_there least frontier places listed path kept key order at among same =
    let is = found least frontier places listed key order among in
    let one : key_path (tree_of frontier) key ≡ path = same_path-true (key_path (tree_of frontier) key) path same in
    is_promotable_at least frontier places path kept key (record {
      often = subst (λ (o : Option Record). least ≤ touches_at o) (sym at) (subst (λ (q : List Bool). least ≤ touches_in (record_at listed) q) one is.often);
      below = subst (λ (q : List Bool). IsSome (side frontier q)) one is.below;
      cold' = subst (λ (q : List Bool). is_hot q places ≡ false) one is.cold';
      own = sym one;
      fits = is.fits;
    })

-- a path without a record has none
pub key_nowhere : (least : ℕ) (frontier : List Bool) (places : List Content) (listed : Listed) (path : List Bool) (key : ℕ)
    → 0 < least → AreInOrder listed → None ≡ record_at listed path → IsAmong (promotable_among least frontier places listed) key
    → same_path (key_path (tree_of frontier) key) path ≡ true → ⊥
key_nowhere least frontier places listed path key some order at among same =
    let is = found least frontier places listed key order among in
    let one : key_path (tree_of frontier) key ≡ path = same_path-true (key_path (tree_of frontier) key) path same in
    let often : least ≤ 0 = subst (λ (o : Option Record). least ≤ touches_at o) (sym at) (subst (λ (q : List Bool). least ≤ touches_in (record_at listed) q) one is.often) in
    omega (arith, some, often)

-- each promotable key was touched
pub key_touched : (least : ℕ) (frontier : List Bool) (places : List Content) (listed : Listed) (paths : List (List Bool)) (key : ℕ)
    → 0 < least → AreInOrder listed → AreAmong paths listed → IsAmong (promotable_among least frontier places listed) key → IsAt (tree_of frontier) paths key
key_touched least frontier places listed paths key some order touched among =
    let is = found least frontier places listed key order among in
    touched (key_path (tree_of frontier) key) (omega (arith, some, is.often))

-- ---- the lowest so far

at_more : (wide : Bool) (seen : List (List Bool)) (p : List Bool) (key : ℕ) → IsAt wide (seen ++ p ∷ []) key → IsAt wide seen key ⊎ (same_path (key_path wide key) p ≡ true)
at_more wide seen p key at =
    either (list_any (same_path (key_path wide key)) seen) (same_path (key_path wide key) p) (sym (list_any-append (same_path (key_path wide key)) seen (p ∷ [])) ∙ at)
  where
    either : (a b : Bool) → (a || (b || false)) ≡ true → (a ≡ true) ⊎ (b ≡ true)
    either true b is = inl refl
    either false true is = inr refl
    either false false is = absurd (false≢true is)

-- a path of which no key counts
pub lowest_stays : (keys : List ℕ) (wide : Bool) (above : Option ℕ) (seen : List (List Bool)) (p : List Bool) (lowest : Option ℕ) → IsLowest keys wide above seen lowest
    → ((key : ℕ) → IsAmong keys key → same_path (key_path wide key) p ≡ true → IsAbove above key → ⊥) → IsLowest keys wide above (seen ++ p ∷ []) lowest
lowest_stays keys wide above seen p None is none = λ key among up at. go key among up (at_more wide seen p key at)
  where
    go : (key : ℕ) → IsAmong keys key → IsAbove above key → IsAt wide seen key ⊎ (same_path (key_path wide key) p ≡ true) → ⊥
    go key among up (inl before) = is key among up before
    go key among up (inr same) = none key among same up
lowest_stays keys wide above seen p (Some lowest) is none = (is.0, is.1, λ key among up at. go key among up (at_more wide seen p key at))
  where
    go : (key : ℕ) → IsAmong keys key → IsAbove above key → IsAt wide seen key ⊎ (same_path (key_path wide key) p ≡ true) → lowest ≤ key
    go key among up (inl before) = is.2 key among up before
    go key among up (inr same) = absurd (none key among same up)

-- a path whose key counts
pub lowest_or : (keys : List ℕ) (wide : Bool) (above : Option ℕ) (seen : List (List Bool)) (p : List Bool) (lowest : Option ℕ) (own : ℕ) → IsLowest keys wide above seen lowest
    → IsAmong keys own → IsAbove above own → ((key : ℕ) → IsAmong keys key → same_path (key_path wide key) p ≡ true → own ≡ key)
    → IsLowest keys wide above (seen ++ p ∷ []) (lower_of lowest own)
lowest_or keys wide above seen p None own is among up only = (among, up, λ key among' up' at. go key among' up' (at_more wide seen p key at))
  where
    go : (key : ℕ) → IsAmong keys key → IsAbove above key → IsAt wide seen key ⊎ (same_path (key_path wide key) p ≡ true) → own ≤ key
    go key among' up' (inl before) = absurd (is key among' up' before)
    go key among' up' (inr same) = omega (arith, only key among' same)
lowest_or keys wide above seen p (Some lowest) own is among up only = go (nat_lt own lowest) refl
  where
    below : (key : ℕ) (n : ℕ) → n ≤ lowest → n ≤ own → IsAmong keys key → IsAbove above key → IsAt wide seen key ⊎ (same_path (key_path wide key) p ≡ true) → n ≤ key
    below key n low high among' up' (inl before) = omega (arith, low, is.2 key among' up' before)
    below key n low high among' up' (inr same) = omega (arith, high, only key among' same)

    go : (b : Bool) → nat_lt own lowest ≡ b → IsLowest keys wide above (seen ++ p ∷ []) (if b then Some own else Some lowest)
    go true less = (among, up, λ key among' up' at. below key own (omega (arith, ltb-true own lowest less)) (omega arith) among' up' (at_more wide seen p key at))
    go false more = (is.0, is.1, λ key among' up' at. below key lowest (omega arith) (ltb-false own lowest more) among' up' (at_more wide seen p key at))

-- ---- the keys so far

among_right : (xs ys : List ℕ) (v : ℕ) → IsAmong ys v → IsAmong (xs ++ ys) v
among_right [] ys v among = among
among_right (x ∷ xs) ys v among = among_tail x v (xs ++ ys) (among_right xs ys v among)

among_either : (xs ys : List ℕ) (v : ℕ) → IsAmong (xs ++ ys) v → IsAmong xs v ⊎ IsAmong ys v
among_either [] ys v among = inr among
among_either (x ∷ xs) ys v among = go (among_cases x v (xs ++ ys) among) (among_either xs ys v)
  where
    later : IsAmong xs v ⊎ IsAmong ys v → IsAmong (x ∷ xs) v ⊎ IsAmong ys v
    later (inl one) = inl (among_tail x v xs one)
    later (inr other) = inr other

    go : (v ≡ x) ⊎ IsAmong (xs ++ ys) v → (IsAmong (xs ++ ys) v → IsAmong xs v ⊎ IsAmong ys v) → IsAmong (x ∷ xs) v ⊎ IsAmong ys v
    go (inl same) more = inl (subst (IsAmong (x ∷ xs)) (sym same) (among_head x xs))
    go (inr rest) more = later (more rest)

among_none : (v : ℕ) → IsAmong [] v → ⊥
among_none v is = absurd (omega (arith, is.1.0))

rising_behind : (xs ys : List ℕ) → AreRising (xs ++ ys) → AreRising ys
rising_behind [] ys rising = rising
rising_behind (x ∷ xs) ys rising = rising_behind xs ys rising.1

all_among : (P : ℕ → Type 0) (xs : List ℕ) (v : ℕ) → AllByRecursion P xs → IsAmong xs v → P v
all_among P [] v all among = absurd (among_none v among)
all_among P (x ∷ xs) v all among = go (among_cases x v xs among) (all_among P xs v all.1)
  where
    go : (v ≡ x) ⊎ IsAmong xs v → (IsAmong xs v → P v) → P v
    go (inl same) more = subst P (sym same) all.0
    go (inr rest) more = more rest

-- These keys are the first of all, up to the last of them.
pub record IsFront (all keys : List ℕ) (last : Option ℕ) : Type 0 where
  pub rest : List ℕ
  pub joined : all ≡ keys ++ rest
  pub done : (key : ℕ) → IsAmong keys key → IsAbove last key → ⊥
  pub left : AllByRecursion (IsAbove last) rest

pub front_none : (all : List ℕ) → IsFront all [] None
front_none all = record { rest = all; joined = refl; done = λ key among up. among_none key among; left = each all }
  where
    each : (xs : List ℕ) → AllByRecursion (IsAbove None) xs
    each [] = tt
    each (x ∷ xs) = (tt, each xs)

above_trans : (last : Option ℕ) (low high : ℕ) → IsAbove last low → low < high → IsAbove last high
above_trans None low high up less = tt
above_trans (Some other) low high up less = omega (arith, up, less)

front_key : (all keys rest : List ℕ) (last : Option ℕ) (key : ℕ) → AreRising all → all ≡ keys ++ rest → ((v : ℕ) → IsAmong keys v → IsAbove last v → ⊥) → AllByRecursion (IsAbove last) rest
    → IsAmong all key → IsAbove last key → ((v : ℕ) → IsAmong all v → IsAbove last v → key ≤ v) → IsFront all (keys ++ key ∷ []) (Some key)
front_key all keys [] last key rising joined done left among up lowest = absurd (go (among_either keys [] key (subst (λ (xs : List ℕ). IsAmong xs key) joined among)))
  where
    go : IsAmong keys key ⊎ IsAmong [] key → ⊥
    go (inl before) = done key before up
    go (inr none) = among_none key none
front_key all keys (next ∷ rest) last key rising joined done left among up lowest =
    record {
      rest = rest;
      joined = joined ∙ ap (λ (n : ℕ). keys ++ n ∷ rest) (sym same) ∙ sym (append_assoc keys (key ∷ []) rest);
      done = λ v among' above. before v above (among_either keys (key ∷ []) v among');
      left = subst (λ (n : ℕ). AllByRecursion (λ v. n < v) rest) (sym same) behind.0;
    }
  where
    behind : AreRising (next ∷ rest)
    behind = rising_behind keys (next ∷ rest) (subst AreRising joined rising)

    at_most : key ≤ next
    at_most = lowest next (subst (λ (xs : List ℕ). IsAmong xs next) (sym joined) (among_right keys (next ∷ rest) next (among_head next rest))) left.0

    same_or : IsAmong keys key ⊎ IsAmong (next ∷ rest) key → key ≡ next
    same_or (inl earlier) = absurd (done key earlier up)
    same_or (inr later) = or (among_cases next key rest later)
      where
        or : (key ≡ next) ⊎ IsAmong rest key → key ≡ next
        or (inl one) = one
        or (inr more) = absurd (omega (arith, at_most, all_among (λ v. next < v) rest key behind.0 more))

    same : key ≡ next
    same = same_or (among_either keys (next ∷ rest) key (subst (λ (xs : List ℕ). IsAmong xs key) joined among))

    before : (v : ℕ) → key < v → IsAmong keys v ⊎ IsAmong (key ∷ []) v → ⊥
    before v above (inl earlier) = done v earlier (above_trans last key v up above)
    before v above (inr own) = or (among_cases key v [] own)
      where
        or : (v ≡ key) ⊎ IsAmong [] v → ⊥
        or (inl one) = omega (arith, above, one)
        or (inr none) = among_none v none

-- the lowest above the last is the next
pub front_next : (all keys : List ℕ) (last : Option ℕ) (wide : Bool) (paths : List (List Bool)) (key : ℕ) → AreRising all → IsFront all keys last
    → IsLowest all wide last paths (Some key) → ((v : ℕ) → IsAmong all v → IsAt wide paths v) → IsFront all (keys ++ key ∷ []) (Some key)
front_next all keys last wide paths key rising front lowest at =
    front_key all keys front.rest last key rising front.joined front.done front.left lowest.0 lowest.1 (λ v among up. lowest.2 v among up (at v among))

-- and where there is none these are all
pub front_whole : (all keys : List ℕ) (last : Option ℕ) (wide : Bool) (paths : List (List Bool)) → IsFront all keys last
    → IsLowest all wide last paths None → ((v : ℕ) → IsAmong all v → IsAt wide paths v) → keys ≡ all
front_whole all keys last wide paths front none at = go front.rest front.joined front.left
  where
    go : (rest : List ℕ) → all ≡ keys ++ rest → AllByRecursion (IsAbove last) rest → keys ≡ all
    go [] joined left = sym (append-nil keys) ∙ sym joined
    go (next ∷ rest) joined left =
        let among : IsAmong all next = subst (λ (xs : List ℕ). IsAmong xs next) (sym joined) (among_right keys (next ∷ rest) next (among_head next rest)) in
        absurd (none next among left.0 (at next among))

pub whole_room : (room : ℕ) (all keys : List ℕ) → keys ≡ all → length keys ≤ room → keys ≡ take room all
whole_room room all keys same few = same ∙ sym (take_all room all (subst (λ (xs : List ℕ). length xs ≤ room) same few))

pub front_room : (room : ℕ) (all keys : List ℕ) (last : Option ℕ) → IsFront all keys last → length keys ≡ room → keys ≡ take room all
front_room room all keys last front full =
    sym (take-append_seam keys front.rest) ∙ ap (λ (n : ℕ). take n (keys ++ front.rest)) full ∙ ap (take room) (sym front.joined)

-- what holds of each promotable key, of the first of them
pub first_own : (least : ℕ) (shard : Shard) (places : List Content) (listed : Listed) (room : ℕ) (keys : List ℕ)
    → keys ≡ take room (promotable_among least shard.frontier places listed) → AllByRecursion (λ key. IsKeyOf shard (key_path_in shard key)) keys
first_own least shard places listed room keys is =
    subst (AllByRecursion (λ key. IsKeyOf shard (key_path_in shard key))) (sym is) (all_front _ room _ (promotable_own least shard.frontier places shard listed refl))

pub first_in_range : (least : ℕ) (shard : Shard) (places : List Content) (listed : Listed) (room : ℕ) (keys : List ℕ)
    → keys ≡ take room (promotable_among least shard.frontier places listed) → AllByRecursion (λ key. key < 2 ^ key_bits (wide_in shard)) keys
first_in_range least shard places listed room keys is =
    subst (AllByRecursion (λ key. key < 2 ^ key_bits (wide_in shard))) (sym is) (all_front _ room _ (promotable_in_range least shard.frontier places listed))

pub first_rising : (least : ℕ) (frontier : List Bool) (places : List Content) (listed : Listed) (room : ℕ) (keys : List ℕ) → AreInOrder listed
    → keys ≡ take room (promotable_among least frontier places listed) → AreRising keys
first_rising least frontier places listed room keys order is = subst AreRising (sym is) (rising_front room _ (promotable_rising least frontier places listed order))

-- The places of a shard: which one a request is served at, what waits at them, and which paths are the shard's.
use Rattle.std.proofs.Common.{◌≡◌, ◌⊎◌, ℕ, zero, suc, ◌<◌, ◌≤◌, Bool, true, false, List, [], ◌∷◌, length, take, replicate, get_or, Option, Some, None, IsSome, is_some, nat_lt, if◌then◌else◌, refl, sym, ◌∙◌, ap, subst, inl, inr, arith}
use Rattle.std.specs.Prelude.{◌&&◌}
use Rattle.std.specs.List.{AllByRecursion, flat_map}
use Rattle.std.proofs.lemmas.List.{length-take}
use Rattle.std.proofs.lemmas.Bool.{false≢true, ltb-true}
use Rattle.std.proofs.lemmas.Bool.Decides.{nat_tests}
use Rattle.std.proofs.lemmas.Option.{none-some, same_Some}
use Rattle.tree_keys.specs.Bits.{bits_of, number_of}
use Rattle.tree_keys.specs.Path.{tree_of, IsIn, key_of, same_bit, side, IsBelow}
use Rattle.tree_keys.proofs.BitsLaws.{bits_of-number_of}
use Rattle.tree_keys.proofs.PathLaws.{is_prefix-take, is_prefix-true}
use Rattle.tree_keys.proofs.SideLaws.{prefix_cases, prefix_of_side}
use Rattle.tree_keys.proofs.TreeLaws.{length-in, tree-in, in-below}
use Rattle.record_text.proofs.SameTestLaws.{same_bit-true, same_bit-self}
use Rattle.merkle_records.proofs.KindLaws.{length-side}
use Rattle.record_text.specs.Longest.{longest_of}
use Rattle.record_text.specs.Tree.{wide_of}
use Rattle.merkle_records.specs.Merkle.{Digest}
use Rattle.host_shard.specs.Shard.{wide_in}
use Rattle.host_shard.specs.Content.{Content, cold, hot, vacant, wide_at, pending}
use Rattle.host_shard.specs.Mirrors.{HasKeyOf}
use Rattle.host_plan.specs.Plan.{Owns}
use Rattle.host_laws.specs.Served.{waiting}
use Rattle.host_core.specs.Host.{Done}
use Rattle.protection_moves.specs.Stage.{hot_records}
use Rattle.move_laws.proofs.PlaceLaws.{one_of-all}
use Rattle.shipped_host.specs.Seated.{IsHotPlace, SeatsMirror}
use Rattle.shipped_host.proofs.PlaceLaws.{hot_there, place_there}
use Rattle.host_fits.specs.Mirroring.{frontier_in}
use Rattle.host_fits.proofs.Keeping.{Setting, PlacesMirror, home_of}

-- what is said of each is said of each so
pub all-each : {A : Type 0} (P Q : A → Type 0) → ((x : A) → P x → Q x) → (xs : List A) → AllByRecursion P xs → AllByRecursion Q xs
all-each P Q step [] all = tt
all-each P Q step (x ∷ xs) all = (step x all.0, all-each P Q step xs all.1)

-- both of two tests
pub both : (a b : Bool) → (a && b) ≡ true → (a ≡ true) × (b ≡ true)
both true b is = (refl, is)
both false b is = absurd (false≢true is)

-- what is done where no counter passes the end
pub done_within : {X : Type 0} (end counter : ℕ) (done found : Done X) → (if nat_lt end counter then None else Some done) ≡ Some found
    → (done ≡ found) × (counter ≤ end)
done_within end counter done found is = go (nat_lt end counter) refl is
  where
    go : (b : Bool) → nat_lt end counter ≡ b → (if b then None else Some done) ≡ Some found → (done ≡ found) × (counter ≤ end)
    go true past is = absurd (none-some found is)
    go false within is = (same_Some done found is, grind (arith, nat_tests))

-- and where one does
pub none_past : {X : Type 0} (end counter : ℕ) (done : Done X) → (if nat_lt end counter then None else Some done) ≡ None → end < counter
none_past end counter done is = go (nat_lt end counter) refl is
  where
    go : (b : Bool) → nat_lt end counter ≡ b → (if b then None else Some done) ≡ None → end < counter
    go true past none = grind (arith, nat_tests)
    go false within none = absurd (none-some done (sym none))

pub past_none : {X : Type 0} (end counter : ℕ) (done : Done X) → end < counter → (if nat_lt end counter then None else Some done) ≡ None
past_none end counter done past =
    let test : nat_lt end counter ≡ true = grind (arith, nat_tests) in
    ap (λ (b : Bool). if b then None else Some done) test

pub within_some : {X : Type 0} (end counter : ℕ) (done : Done X) → counter ≤ end → (if nat_lt end counter then None else Some done) ≡ Some done
within_some end counter done within =
    let test : nat_lt end counter ≡ false = grind (arith, nat_tests) in
    ap (λ (b : Bool). if b then None else Some done) test

-- a place behind the first is vacant
pub vacant_behind : (seats j : ℕ) → get_or (replicate seats vacant) j vacant ≡ vacant
vacant_behind zero zero = refl
vacant_behind zero (suc j) = refl
vacant_behind (suc seats) zero = refl
vacant_behind (suc seats) (suc j) = vacant_behind seats j

-- and nothing waits there
pub waiting_behind : (seats : ℕ) → flat_map (λ content. waiting (pending content)) (replicate seats vacant) ≡ []
waiting_behind zero = refl
waiting_behind (suc seats) = waiting_behind seats

-- ---- the tree of a shard

-- it is the header's
pub shard_tree : (setting : Setting) (s : ℕ) (contents : List Content) → PlacesMirror setting s contents
    → (mirrors : SeatsMirror (longest_of setting.settings.header) setting.functions.digest contents) → wide_in mirrors.shard ≡ wide_of setting.settings.header
shard_tree setting s contents places mirrors =
    tree-in (wide_of setting.settings.header) mirrors.shard.frontier
    (subst (λ (cs : List Content). IsIn (wide_of setting.settings.header) (frontier_in cs)) mirrors.is places.tree)

-- and so is that of each content of its places that owns a key
pub owner_tree : (longest : ℕ) (digest : Digest) (contents : List Content) (mirrors : SeatsMirror longest digest contents) (seat key : ℕ)
    → Owns longest (get_or contents seat vacant) key → wide_at (get_or contents seat vacant) ≡ wide_in mirrors.shard
owner_tree longest digest contents mirrors seat key own =
    subst (λ (cs : List Content). wide_at (get_or cs seat vacant) ≡ wide_in mirrors.shard) (sym mirrors.is)
    (go seat (subst (λ (cs : List Content). Owns longest (get_or cs seat vacant) key) mirrors.is own))
  where
    at_place : (k : ℕ) (content : Content) → get_or mirrors.places k vacant ≡ content → IsHotPlace content → Owns longest content key → wide_at content ≡ wide_in mirrors.shard
    at_place k (cold shard) there alone own = absurd alone
    at_place k (hot found) there alone own =
        (one_of-all (HasKeyOf mirrors.shard) (hot_records mirrors.places) found mirrors.in_range (hot_there mirrors.places k found there)).tree
    at_place k vacant there alone own = absurd own

    go : (seat : ℕ) → Owns longest (get_or (cold mirrors.shard ∷ mirrors.places) seat vacant) key
        → wide_at (get_or (cold mirrors.shard ∷ mirrors.places) seat vacant) ≡ wide_in mirrors.shard
    go zero own = refl
    go (suc k) own = at_place k (get_or mirrors.places k vacant) refl (place_there mirrors.places k mirrors.hot_alone) own

-- ---- the paths of a shard

-- a path below a frontier is its shard's
pub home-below : (wide : Bool) (frontier path : List Bool) (bits s : ℕ) → IsIn wide frontier → length frontier ≡ bits → key_of frontier ≡ s → IsBelow frontier path
    → home_of wide bits path ≡ Some s
home-below wide frontier path bits s within levels number below = go (side frontier path) refl below
  where
    go : (o : Option Bool) → side frontier path ≡ o → IsSome o → home_of wide bits path ≡ Some s
    go None is some = absurd (false≢true some)
    go (Some on) is some =
        let longer = length-side frontier path on is in
        let test : nat_lt bits (length path) ≡ true = grind (arith, nat_tests) in
        let tree : tree_of path ≡ wide = tree-in wide path (in-below wide frontier path on within is) in
        let front : take bits path ≡ frontier =
        subst (λ (n : ℕ). take n path ≡ frontier) levels (is_prefix-true frontier path (prefix_of_side frontier path on is)) in
        ap (λ (b : Bool). if same_bit b wide && nat_lt bits (length path) then Some (key_of (take bits path)) else None) tree
        ∙ (ap (λ (b : Bool). if b && nat_lt bits (length path) then Some (key_of (take bits path)) else None) (same_bit-self wide)
        ∙ (ap (λ (b : Bool). if b then Some (key_of (take bits path)) else None) test
        ∙ ap (λ (n : ℕ). Some n) (ap key_of front ∙ number)))

-- a path that is a shard's is longer than a frontier, and of its tree
pub home_tests : (wide : Bool) (path : List Bool) (bits s : ℕ) → home_of wide bits path ≡ Some s
    → (tree_of path ≡ wide) × (nat_lt bits (length path) ≡ true) × (key_of (take bits path) ≡ s)
home_tests wide path bits s is = go (same_bit (tree_of path) wide && nat_lt bits (length path)) refl is
  where
    go : (b : Bool) → (same_bit (tree_of path) wide && nat_lt bits (length path)) ≡ b → (if b then Some (key_of (take bits path)) else None) ≡ Some s
        → (tree_of path ≡ wide) × (nat_lt bits (length path) ≡ true) × (key_of (take bits path) ≡ s)
    go true tests is =
        let each = both (same_bit (tree_of path) wide) (nat_lt bits (length path)) tests in
        (same_bit-true (tree_of path) wide each.0, each.1, same_Some (key_of (take bits path)) s is)
    go false short is = absurd (none-some s is)

pub home_longer : (wide : Bool) (path : List Bool) (bits s : ℕ) → home_of wide bits path ≡ Some s → bits < length path
home_longer wide path bits s is = ltb-true bits (length path) (home_tests wide path bits s is).1

-- and no other path is
pub below-home : (wide : Bool) (frontier path : List Bool) (bits s : ℕ) → IsIn wide frontier → length frontier ≡ bits → key_of frontier ≡ s
    → home_of wide bits path ≡ Some s → IsBelow frontier path
below-home wide frontier path bits s within levels number is =
    behind (prefix_cases frontier path (is_prefix-take frontier path (sym one)))
  where
    tests : (tree_of path ≡ wide) × (nat_lt bits (length path) ≡ true) × (key_of (take bits path) ≡ s)
    tests = home_tests wide path bits s is

    longer : bits < length path
    longer = home_longer wide path bits s is

    -- the first bits of a path of a tree are a path of it
    of_tree : (p : List Bool) (n : ℕ) → tree_of p ≡ wide → 0 < n → tree_of (take n p) ≡ wide
    of_tree [] zero tree some = tree
    of_tree [] (suc n) tree some = tree
    of_tree (first ∷ p) zero tree some = absurd (omega (arith, some))
    of_tree (first ∷ p) (suc n) tree some = tree

    -- paths of one tree that have as many bits, and whose bits spell the same number, are one
    one_path : (p k : List Bool) → IsIn wide p → tree_of k ≡ wide → length p ≡ length k → key_of p ≡ key_of k → p ≡ k
    one_path [] k in_tree tree count same = absurd in_tree
    one_path (first ∷ p) [] in_tree tree count same = absurd (omega (arith, count))
    one_path (first ∷ p) (second ∷ k) in_tree tree count same =
        ap (λ (b : Bool). b ∷ p) (in_tree ∙ sym tree)
        ∙ ap (λ (bits : List Bool). second ∷ bits)
        (sym (bits_of-number_of p)
        ∙ (ap (λ (n : ℕ). bits_of n (number_of p)) (omega (arith, count))
        ∙ (ap (λ (n : ℕ). bits_of (length k) n) same ∙ bits_of-number_of k)))

    one : frontier ≡ take (length frontier) path
    one =
        subst (λ (n : ℕ). frontier ≡ take n path) (sym levels)
        (one_path frontier (take bits path) within (of_tree path bits tests.0 (omega (arith, levels, length-in wide frontier within)))
        (omega (arith, levels, length-take bits path, longer)) (number ∙ sym tests.2))

    behind : (frontier ≡ path) ⊎ ((on : Bool) × (side frontier path ≡ Some on)) → IsBelow frontier path
    behind (inl whole) = absurd (omega (arith, ap (λ (p : List Bool). length p) whole, levels, longer))
    behind (inr under) = ap (λ (o : Option Bool). is_some o) under.1

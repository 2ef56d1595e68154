-- Which keys are promotable, read off records that stand in the order of their paths.
use Rattle.std.proofs.Common.{◌≡◌, ◌≢◌, ◌⊎◌, ℕ, zero, suc, ◌+◌, ◌-◌, ◌<◌, ◌≤◌, ◌^◌, Bool, true, false, List, [], ◌∷◌, ◌++◌, length, take, nat_lt, Option, Some, None, IsSome, IfSome, IfNone, is_none, if◌then◌else◌, refl, sym, ◌∙◌, ap, subst, inl, inr, arith, append_assoc, append-nil, length-append}
use Rattle.std.proofs.Math.Bool.{beq}
use Rattle.std.proofs.Math.Nat.{div-add-mod}
use Rattle.std.proofs.lemmas.Bool.{false≢true, true≢false, le-ltb, ltb-false, eqb-true, eq-eqb}
use Rattle.std.specs.Prelude.{◌==◌, ◌&&◌, ◌||◌, slice_index_or, AllPairs}
use Rattle.std.specs.List.{AllByRecursion, IsAmong}
use Rattle.std.specs.Map.{lookup}
use Rattle.std.specs.Option.{option_map_or}
use Rattle.tree_keys.specs.Bits.{bits_of, number_of}
use Rattle.tree_keys.specs.BitsLaws.{length-bits_of, number_back}
use Rattle.tree_keys.specs.Path.{key_bits, tree_of, IsNodePath, key_path, key_of, same_bit, side, same_path}
use Rattle.tree_keys.proofs.BitsLaws.{bits_of-number_of, number_of-lt}
use Rattle.tree_keys.proofs.PathLaws.{same_path-self, same_path-true, same_path-apart}
use Rattle.tree_keys.proofs.TreeLaws.{node-is, key_path-data}
use Rattle.host_shard.specs.declared.record.Record.{Record}
use Rattle.host_shard.specs.Content.{hot_path, Content, cold, hot, vacant}
use Rattle.host_shard.specs.Shard.{key_path_in, wide_in, Shard}
use Rattle.host_shard.specs.Mirrors.{IsKeyOf}
use Rattle.host_shard.specs.Records.{Listed, numbers_of, IsLower, IsBefore, AreInOrder, record_at, touches_in}
use Rattle.protection_moves.specs.Stage.{Stage, hot_paths}
use Rattle.protection_moves.specs.Transfer.{ArePromotable}
use Rattle.protection_moves.specs.Promotable.{is_hot, key_in, promotable_key, listed_key, promotable_among, AreRising}

-- ---- lists and tests

pub none≢some : {X : Type 0} (x : X) → None ≡ Some x → ⊥
none≢some {X} x is = false≢true (ap there is)
  where
    there : Option X → Bool
    there None = false
    there (Some y) = true

pub some_of : {X : Type 0} (x y : X) → Some x ≡ Some y → x ≡ y
some_of {X} x y is = ap (or x) is
  where
    or : X → Option X → X
    or d None = d
    or d (Some z) = z

pub among_head : (x : ℕ) (xs : List ℕ) → IsAmong (x ∷ xs) x
among_head x xs = (0, (omega arith, refl))

pub among_tail : (x v : ℕ) (xs : List ℕ) → IsAmong xs v → IsAmong (x ∷ xs) v
among_tail x v xs is = (suc is.0, (omega (arith, is.1.0), is.1.1))

pub among_cases : (x v : ℕ) (xs : List ℕ) → IsAmong (x ∷ xs) v → (v ≡ x) ⊎ IsAmong xs v
among_cases x v xs (zero, is) = inl is.1
among_cases x v xs (suc i, is) = inr (i, (omega (arith, is.0), is.1))

among_none : (v : ℕ) → IsAmong [] v → ⊥
among_none v is = absurd (omega (arith, is.1.0))

-- what holds of each of a list
all_at : (P : ℕ → Type 0) (xs : List ℕ) (i d : ℕ) → AllByRecursion P xs → i < length xs → P (slice_index_or xs i d)
all_at P [] i d all within = absurd (omega (arith, within))
all_at P (x ∷ xs) zero d all within = all.0
all_at P (x ∷ xs) (suc i) d all within = all_at P xs i d all.1 (omega (arith, within))

pub rising_pairs : (xs : List ℕ) → AreRising xs → AllPairs (λ a b. a < b) xs
rising_pairs [] rising i j d before within = absurd (omega (arith, within))
rising_pairs (x ∷ xs) rising zero zero d before within = absurd (omega (arith, before))
rising_pairs (x ∷ xs) rising zero (suc j) d before within = all_at (λ b. x < b) xs j d rising.0 (omega (arith, within))
rising_pairs (x ∷ xs) rising (suc i) zero d before within = absurd (omega (arith, before))
rising_pairs (x ∷ xs) rising (suc i) (suc j) d before within = rising_pairs xs rising.1 i j d (omega (arith, before)) (omega (arith, within))

pub all_front : {X : Type 0} (P : X → Type 0) (n : ℕ) (xs : List X) → AllByRecursion P xs → AllByRecursion P (take n xs)
all_front P zero xs all = tt
all_front P (suc n) [] all = tt
all_front P (suc n) (x ∷ xs) all = (all.0, all_front P n xs all.1)

pub rising_front : (n : ℕ) (xs : List ℕ) → AreRising xs → AreRising (take n xs)
rising_front zero xs rising = tt
rising_front (suc n) [] rising = tt
rising_front (suc n) (x ∷ xs) rising = (all_front (λ b. x < b) n xs rising.0, rising_front n xs rising.1)

-- ---- hot keys

hot_among : (path : List Bool) (places : List Content) → is_hot path places ≡ false → IsAmong (hot_paths places) path → ⊥
hot_among path [] is among = absurd (omega (arith, among.1.0))
hot_among path (cold shard ∷ places) is among = hot_among path places is among
hot_among path (vacant ∷ places) is among = hot_among path places is among
hot_among path (hot found ∷ places) is (zero, among) =
    true≢false (sym (ap (λ (b : Bool). b || is_hot path places) (ap (λ (p : List Bool). same_path p path) (sym among.1) ∙ same_path-self path)) ∙ is)
hot_among path (hot found ∷ places) is (suc i, among) = hot_among path places (second (same_path (hot_path found) path) (is_hot path places) is) (i, (omega (arith, among.0), among.1))
  where
    second : (a b : Bool) → (a || b) ≡ false → b ≡ false
    second true b h = absurd (true≢false h)
    second false b h = h

not_hot : (path : List Bool) (places : List Content) → (IsAmong (hot_paths places) path → ⊥) → is_hot path places ≡ false
not_hot path [] apart = refl
not_hot path (cold shard ∷ places) apart = not_hot path places apart
not_hot path (vacant ∷ places) apart = not_hot path places apart
not_hot path (hot found ∷ places) apart =
    go (same_path (hot_path found) path) refl (not_hot path places (λ among. apart (suc among.0, (omega (arith, among.1.0), among.1.1))))
  where
    go : (b : Bool) → same_path (hot_path found) path ≡ b → is_hot path places ≡ false → (b || is_hot path places) ≡ false
    go true same rest = absurd (apart (0, (omega arith, sym (same_path-true (hot_path found) path same))))
    go false other rest = rest

-- ---- one record

-- what it says that a record's key is promotable
pub record IsPromotableAt (least : ℕ) (frontier : List Bool) (places : List Content) (path : List Bool) (kept : Record) (key : ℕ) : Type 0 where
  pub often : least ≤ kept.touches
  pub below : IsSome (side frontier path)
  pub cold' : is_hot path places ≡ false
  pub own : path ≡ key_path (tree_of frontier) key
  pub fits : key < 2 ^ key_bits (tree_of frontier)

-- the key of bits, where they are as many as a key has
whole_key : (wide : Bool) (bits : List Bool) (key : ℕ) → (if length bits == key_bits wide then Some (number_of bits) else None) ≡ Some key
    → (wide ∷ bits ≡ key_path wide key) × (key < 2 ^ key_bits wide)
whole_key wide bits key is = go (length bits == key_bits wide) refl is
  where
    go : (whole : Bool) → (length bits == key_bits wide) ≡ whole → (if whole then Some (number_of bits) else None) ≡ Some key
        → (wide ∷ bits ≡ key_path wide key) × (key < 2 ^ key_bits wide)
    go false is found = absurd (none≢some key found)
    go true is found =
        let long : length bits ≡ key_bits wide = eqb-true (length bits) (key_bits wide) is in
        let number : number_of bits ≡ key = some_of (number_of bits) key found in (
          ap (λ (more : List Bool). wide ∷ more)
              (sym (ap (bits_of (key_bits wide)) (sym number) ∙ ap (λ (n : ℕ). bits_of n (number_of bits)) (sym long) ∙ bits_of-number_of bits)),
          subst (λ (n : ℕ). n < 2 ^ key_bits wide) number (subst (λ (n : ℕ). number_of bits < 2 ^ n) long (number_of-lt bits)),
        )

-- the key of a path, where it has one
key_in_path : (wide : Bool) (path : List Bool) (key : ℕ) → key_in wide path ≡ Some key → (path ≡ key_path wide key) × (key < 2 ^ key_bits wide)
key_in_path true [] key is = absurd (none≢some key is)
key_in_path false [] key is = absurd (none≢some key is)
key_in_path true (false ∷ bits) key is = absurd (none≢some key is)
key_in_path false (true ∷ bits) key is = absurd (none≢some key is)
key_in_path true (true ∷ bits) key is = whole_key true bits key is
key_in_path false (false ∷ bits) key is = whole_key false bits key is

its_whole_key : (bits key : ℕ) → key < 2 ^ bits → (if length (bits_of bits key) == bits then Some (number_of (bits_of bits key)) else None) ≡ Some key
its_whole_key bits key fits =
    ap (λ (whole : Bool). if whole then Some (number_of (bits_of bits key)) else None) (eq-eqb (length (bits_of bits key)) bits (length-bits_of bits key))
    ∙ ap Some (number_back bits key fits)

key_in_its_path : (wide : Bool) (key : ℕ) → key < 2 ^ key_bits wide → key_in wide (key_path wide key) ≡ Some key
key_in_its_path false key fits = its_whole_key 64 key fits
key_in_its_path true key fits = its_whole_key 128 key fits

key_in_node : (wide : Bool) (path : List Bool) → IsNodePath path → key_in wide path ≡ None
key_in_node wide path short =
    ap (λ (whole : Bool). if same_bit (tree_of path) wide && whole then Some (key_of path) else None) (node-is path short)
    ∙ never (same_bit (tree_of path) wide)
  where
    never : (b : Bool) → (if b && false then Some (key_of path) else None) ≡ None
    never true = refl
    never false = refl

module _ (least : ℕ) (frontier : List Bool) (places : List Content) where
  abbrev pub chosen : Bool → Bool → Option ℕ → Option ℕ
  chosen few out key = if few then None else if out then None else key

  opened : (path : List Bool) (kept : Record) (key : ℕ) (few none is : Bool)
      → nat_lt kept.touches least ≡ few → is_none (side frontier path) ≡ none → is_hot path places ≡ is
      → chosen few (none || is) (key_in (tree_of frontier) path) ≡ Some key → IsPromotableAt least frontier places path kept key
  opened path kept key true none is a b c e = absurd (none≢some key e)
  opened path kept key false true is a b c e = absurd (none≢some key e)
  opened path kept key false false true a b c e = absurd (none≢some key e)
  opened path kept key false false false a b c e = record {
    often = ltb-false kept.touches least a;
    below = some (side frontier path) b;
    cold' = c;
    own = (key_in_path (tree_of frontier) path key e).0;
    fits = (key_in_path (tree_of frontier) path key e).1;
  }
    where
      some : (o : Option Bool) → is_none o ≡ false → IsSome o
      some None h = absurd (true≢false h)
      some (Some x) h = refl

  pub promotable_at : (path : List Bool) (kept : Record) (key : ℕ) → promotable_key least frontier places path kept ≡ Some key → IsPromotableAt least frontier places path kept key
  promotable_at path kept key is = opened path kept key (nat_lt kept.touches least) (is_none (side frontier path)) (is_hot path places) refl refl refl is

  pub is_promotable_at : (path : List Bool) (kept : Record) (key : ℕ) → IsPromotableAt least frontier places path kept key → promotable_key least frontier places path kept ≡ Some key
  is_promotable_at path kept key promotable =
      ap (λ (b : Bool). chosen b (is_none (side frontier path) || is_hot path places) (key_in (tree_of frontier) path)) (le-ltb kept.touches least promotable.often)
      ∙ ap (λ (b : Bool). chosen false (b || is_hot path places) (key_in (tree_of frontier) path)) (there (side frontier path) promotable.below)
      ∙ ap (λ (b : Bool). chosen false b (key_in (tree_of frontier) path)) promotable.cold'
      ∙ ap (key_in (tree_of frontier)) promotable.own
      ∙ key_in_its_path (tree_of frontier) key promotable.fits
    where
      there : (o : Option Bool) → IsSome o → is_none o ≡ false
      there None h = absurd (false≢true h)
      there (Some x) h = refl

  -- the path of a promotable key
  own_path : (path : List Bool) (kept : Record) (key : ℕ) → IsPromotableAt least frontier places path kept key → key_path (tree_of frontier) key ≡ path
  own_path path kept key promotable = sym promotable.own

  -- ---- keys among the records

  -- what is known of a promotable key of these records
  pub record IsFound (listed : Listed) (key : ℕ) : Type 0 where
    pub often : least ≤ touches_in (record_at listed) (key_path (tree_of frontier) key)
    pub below : IsSome (side frontier (key_path (tree_of frontier) key))
    pub cold' : is_hot (key_path (tree_of frontier) key) places ≡ false
    pub fits : key < 2 ^ key_bits (tree_of frontier)
    pub behind : (path : List Bool) → AllByRecursion (λ (e : List Bool × Record). IsBefore path e.0) listed → IsBefore path (key_path (tree_of frontier) key)

  before_apart : (p k : List Bool) → IsBefore p k → p ≢ k
  before_apart p k (inl shorter) same = absurd (omega (arith, shorter, ap (λ (q : List Bool). (numbers_of q).0) same))
  before_apart p k (inr lower) same = absurd (not_lower (numbers_of k).1 (numbers_of k).2
      (subst (λ (q : List Bool). IsLower (numbers_of q).1 (numbers_of q).2 (numbers_of k).1 (numbers_of k).2) same lower.1))
    where
      not_lower : (tree : Bool) (number : ℕ) → IsLower tree number tree number → ⊥
      not_lower true number is = omega (arith, is)
      not_lower false number is = omega (arith, is)

  found_head : (e : List Bool × Record) (listed : Listed) (key : ℕ) → IsPromotableAt least frontier places e.0 e.1 key → IsFound (e ∷ listed) key
  found_head e listed key promotable =
      let path : key_path (tree_of frontier) key ≡ e.0 = own_path e.0 e.1 key promotable in
      record {
        often = subst (λ (b : Bool). least ≤ option_map_or (λ (r : Record). r.touches) (if b then Some e.1 else lookup (same_path (key_path (tree_of frontier) key)) listed) 0)
            (sym (ap (λ (p : List Bool). same_path p e.0) path ∙ same_path-self e.0)) promotable.often;
        below = subst (λ (p : List Bool). IsSome (side frontier p)) (sym path) promotable.below;
        cold' = ap (λ (p : List Bool). is_hot p places) path ∙ promotable.cold';
        fits = promotable.fits;
        behind = λ p all. subst (IsBefore p) (sym path) all.0;
      }

  found_tail : (e : List Bool × Record) (listed : Listed) (key : ℕ) → AllByRecursion (λ (o : List Bool × Record). IsBefore e.0 o.0) listed → IsFound listed key → IsFound (e ∷ listed) key
  found_tail e listed key order found = record {
    often = subst (λ (b : Bool). least ≤ option_map_or (λ (r : Record). r.touches) (if b then Some e.1 else lookup (same_path (key_path (tree_of frontier) key)) listed) 0)
        (sym (same_path-apart (key_path (tree_of frontier) key) e.0 (λ same. before_apart e.0 (key_path (tree_of frontier) key) (found.behind e.0 order) (sym same)))) found.often;
    below = found.below;
    cold' = found.cold';
    fits = found.fits;
    behind = λ p all. found.behind p all.1;
  }

  found_step : (e : List Bool × Record) (listed : Listed) (key : ℕ) (o : Option ℕ) → promotable_key least frontier places e.0 e.1 ≡ o
      → AllByRecursion (λ (o' : List Bool × Record). IsBefore e.0 o'.0) listed → (IsAmong (promotable_among least frontier places listed) key → IsFound listed key)
      → IsAmong (listed_key o ++ promotable_among least frontier places listed) key → IsFound (e ∷ listed) key
  found_step e listed key None is order later among = found_tail e listed key order (later among)
  found_step e listed key (Some k) is order later among = go (among_cases k key (promotable_among least frontier places listed) among)
    where
      go : (key ≡ k) ⊎ IsAmong (promotable_among least frontier places listed) key → IsFound (e ∷ listed) key
      go (inl same) = found_head e listed key (promotable_at e.0 e.1 key (is ∙ ap Some (sym same)))
      go (inr rest) = found_tail e listed key order (later rest)

  pub found : (listed : Listed) (key : ℕ) → AreInOrder listed → IsAmong (promotable_among least frontier places listed) key → IsFound listed key
  found [] key order among = absurd (among_none key among)
  found (e ∷ listed) key order among =
      found_step e listed key (promotable_key least frontier places e.0 e.1) refl order.0 (found listed key order.1) among

  -- a key that was touched so often is among them
  among_behind : (o : Option ℕ) (keys : List ℕ) (key : ℕ) → IsAmong keys key → IsAmong (listed_key o ++ keys) key
  among_behind None keys key among = among
  among_behind (Some k) keys key among = among_tail k key keys among

  among_first : (o : Option ℕ) (keys : List ℕ) (key : ℕ) → o ≡ Some key → IsAmong (listed_key o ++ keys) key
  among_first None keys key is = absurd (none≢some key is)
  among_first (Some k) keys key is = subst (λ (j : ℕ). IsAmong (k ∷ keys) j) (some_of k key is) (among_head k keys)

  touched_step : (e : List Bool × Record) (listed : Listed) (key : ℕ) (b : Bool) → same_path (key_path (tree_of frontier) key) e.0 ≡ b
      → least ≤ option_map_or (λ (r : Record). r.touches) (if b then Some e.1 else lookup (same_path (key_path (tree_of frontier) key)) listed) 0
      → IsSome (side frontier (key_path (tree_of frontier) key)) → is_hot (key_path (tree_of frontier) key) places ≡ false → key < 2 ^ key_bits (tree_of frontier)
      → (least ≤ touches_in (record_at listed) (key_path (tree_of frontier) key) → IsAmong (promotable_among least frontier places listed) key)
      → IsAmong (promotable_among least frontier places (e ∷ listed)) key
  touched_step e listed key true same often below apart fits later =
      let path : key_path (tree_of frontier) key ≡ e.0 = same_path-true (key_path (tree_of frontier) key) e.0 same in
      among_first (promotable_key least frontier places e.0 e.1) (promotable_among least frontier places listed) key (is_promotable_at e.0 e.1 key (record {
        often = often;
        below = subst (λ (p : List Bool). IsSome (side frontier p)) path below;
        cold' = ap (λ (p : List Bool). is_hot p places) (sym path) ∙ apart;
        own = sym path;
        fits = fits;
      }))
  touched_step e listed key false other often below apart fits later =
      among_behind (promotable_key least frontier places e.0 e.1) (promotable_among least frontier places listed) key (later often)

  pub touched_among : (listed : Listed) (key : ℕ) → 0 < least → least ≤ touches_in (record_at listed) (key_path (tree_of frontier) key)
      → IsSome (side frontier (key_path (tree_of frontier) key)) → is_hot (key_path (tree_of frontier) key) places ≡ false → key < 2 ^ key_bits (tree_of frontier) → IsAmong (promotable_among least frontier places listed) key
  touched_among [] key some often below apart fits = absurd (omega (arith, some, often))
  touched_among (e ∷ listed) key some often below apart fits =
      touched_step e listed key (same_path (key_path (tree_of frontier) key) e.0) refl often below apart fits
      (λ more. touched_among listed key some more below apart fits)

  -- ---- their order, and whose they are

  -- of two whole keys of a tree that of the first path is below the other
  both_whole : (p k : List Bool) (key other : ℕ) → IsBefore p k → p ≡ key_path (tree_of frontier) key → k ≡ key_path (tree_of frontier) other
      → key < 2 ^ key_bits (tree_of frontier) → other < 2 ^ key_bits (tree_of frontier) → key < other
  both_whole p k key other before a b low high =
      go (tree_of frontier) low high (subst (IsBefore (key_path (tree_of frontier) key)) b (subst (λ (q : List Bool). IsBefore q k) a before))
    where
      spelled : (wide : Bool) (n : ℕ) → n < 2 ^ key_bits wide → (numbers_of (key_path wide n)).2 ≡ n
      spelled wide n fits = omega (arith, div-add-mod (number_of (bits_of (key_bits wide) n)) (2 ^ 64), number_back (key_bits wide) n fits)

      lower : (wide : Bool) (m n : ℕ) → IsLower wide m wide n → m < n
      lower true m n is = is
      lower false m n is = is

      go : (wide : Bool) → key < 2 ^ key_bits wide → other < 2 ^ key_bits wide → IsBefore (key_path wide key) (key_path wide other) → key < other
      go wide low high (inl shorter) = absurd (omega (arith, shorter, length-bits_of (key_bits wide) key, length-bits_of (key_bits wide) other))
      go wide low high (inr is) = omega (arith, lower wide _ _ is.1, spelled wide key low, spelled wide other high)

  above_step : (e o : List Bool × Record) (key : ℕ) (found' : Option ℕ) (keys : List ℕ) → IsPromotableAt least frontier places e.0 e.1 key → promotable_key least frontier places o.0 o.1 ≡ found'
      → IsBefore e.0 o.0 → AllByRecursion (λ other. key < other) keys → AllByRecursion (λ other. key < other) (listed_key found' ++ keys)
  above_step e o key None keys promotable is before all = all
  above_step e o key (Some k) keys promotable is before all =
      let next = promotable_at o.0 o.1 k is in (both_whole e.0 o.0 key k before promotable.own next.own promotable.fits next.fits, all)

  above : (e : List Bool × Record) (key : ℕ) (listed : Listed) → IsPromotableAt least frontier places e.0 e.1 key → AllByRecursion (λ (o : List Bool × Record). IsBefore e.0 o.0) listed
      → AllByRecursion (λ other. key < other) (promotable_among least frontier places listed)
  above e key [] promotable order = tt
  above e key (o ∷ listed) promotable order =
      above_step e o key (promotable_key least frontier places o.0 o.1) (promotable_among least frontier places listed) promotable refl order.0 (above e key listed promotable order.1)

  rising_step : (e : List Bool × Record) (listed : Listed) (o : Option ℕ) → promotable_key least frontier places e.0 e.1 ≡ o → AllByRecursion (λ (o' : List Bool × Record). IsBefore e.0 o'.0) listed
      → AreRising (promotable_among least frontier places listed) → AreRising (listed_key o ++ promotable_among least frontier places listed)
  rising_step e listed None is order rising = rising
  rising_step e listed (Some k) is order rising = (above e k listed (promotable_at e.0 e.1 k is) order, rising)

  pub promotable_rising : (listed : Listed) → AreInOrder listed → AreRising (promotable_among least frontier places listed)
  promotable_rising [] order = tt
  promotable_rising (e ∷ listed) order = rising_step e listed (promotable_key least frontier places e.0 e.1) refl order.0 (promotable_rising listed order.1)

  own_step : (shard : Shard) (e : List Bool × Record) (keys : List ℕ) (o : Option ℕ) → shard.frontier ≡ frontier → promotable_key least frontier places e.0 e.1 ≡ o
      → AllByRecursion (λ key. IsKeyOf shard (key_path_in shard key)) keys → AllByRecursion (λ key. IsKeyOf shard (key_path_in shard key)) (listed_key o ++ keys)
  own_step shard e keys None same is all = all
  own_step shard e keys (Some k) same is all =
      let promotable = promotable_at e.0 e.1 k is in (
        record {
          whole = key_path-data (wide_in shard) k;
          below = subst (λ (f : List Bool). IsSome (side f (key_path (tree_of f) k))) (sym same)
              (subst (λ (p : List Bool). IsSome (side frontier p)) (sym (own_path e.0 e.1 k promotable)) promotable.below);
        },
        all,
      )

  pub promotable_own : (shard : Shard) (listed : Listed) → shard.frontier ≡ frontier
      → AllByRecursion (λ key. IsKeyOf shard (key_path_in shard key)) (promotable_among least frontier places listed)
  promotable_own shard [] same = tt
  promotable_own shard (e ∷ listed) same = own_step shard e (promotable_among least frontier places listed) (promotable_key least frontier places e.0 e.1) same refl (promotable_own shard listed same)

  ranged_step : (e : List Bool × Record) (keys : List ℕ) (o : Option ℕ) → promotable_key least frontier places e.0 e.1 ≡ o
      → AllByRecursion (λ key. key < 2 ^ key_bits (tree_of frontier)) keys → AllByRecursion (λ key. key < 2 ^ key_bits (tree_of frontier)) (listed_key o ++ keys)
  ranged_step e keys None is all = all
  ranged_step e keys (Some k) is all = ((promotable_at e.0 e.1 k is).fits, all)

  pub promotable_in_range : (listed : Listed) → AllByRecursion (λ key. key < 2 ^ key_bits (tree_of frontier)) (promotable_among least frontier places listed)
  promotable_in_range [] = tt
  promotable_in_range (e ∷ listed) = ranged_step e (promotable_among least frontier places listed) (promotable_key least frontier places e.0 e.1) refl (promotable_in_range listed)

-- The keys that are promotable in a stage are those of its records.
pub are_promotable : (stage : Stage) (listed : Listed) (least : ℕ) → 0 < least → AreInOrder listed → stage.shard.touches ≡ touches_in (record_at listed)
    → ArePromotable stage (Some least) (promotable_among least stage.shard.frontier stage.places listed)
are_promotable stage listed least some order touches = record {
  rising = rising_pairs _ (promotable_rising least stage.shard.frontier stage.places listed order);
  promotable = λ key. (
    (λ among. let is = found least stage.shard.frontier stage.places listed key order among in record {
      in_range = is.fits;
      own = record { whole = key_path-data (wide_in stage.shard) key; below = is.below };
      cold = hot_among (key_path_in stage.shard key) stage.places is.cold';
      often = subst (λ (t : List Bool → ℕ). least ≤ t (key_path_in stage.shard key)) (sym touches) is.often;
    }),
    (λ is. touched_among least stage.shard.frontier stage.places listed key some (subst (λ (t : List Bool → ℕ). least ≤ t (key_path_in stage.shard key)) touches is.often)
        is.own.below (not_hot (key_path_in stage.shard key) stage.places is.cold) is.in_range),
  );
}

-- what the code works out of one path
pub own_key : (wide own : Bool) (path : List Bool) (found' : Option ℕ) → beq own wide ≡ true → own ≡ tree_of path → IfNone found' (IsNodePath path)
    → IfSome found' (λ key. path ≡ key_path (tree_of path) key) → IfSome found' (λ key. key < 2 ^ key_bits (tree_of path)) → found' ≡ key_in wide path
own_key wide own path None same is short spelled fits = sym (key_in_node wide path short)
own_key wide own path (Some key) same is short spelled fits =
    let whole : path ≡ key_path wide key = spelled ∙ ap (λ (t : Bool). key_path t key) (sym is ∙ both own wide same) in
    sym (ap (key_in wide) whole ∙ key_in_its_path wide key (subst (λ (t : Bool). key < 2 ^ key_bits t) (sym is ∙ both own wide same) fits))
  where
    both : (a b : Bool) → beq a b ≡ true → a ≡ b
    both true true h = refl
    both true false h = absurd (false≢true h)
    both false true h = absurd (false≢true h)
    both false false h = refl

-- and of one record
pub key_found : (least : ℕ) (frontier path : List Bool) (places : List Content) (kept : Record) (few none is : Bool) (found' : Option ℕ)
    → nat_lt kept.touches least ≡ few → few ≡ false → is_none (side frontier path) ≡ none → none ≡ false → is_hot path places ≡ is → is ≡ false
    → found' ≡ key_in (tree_of frontier) path
    → found' ≡ promotable_key least frontier places path kept
key_found least frontier path places kept few none is found' a a' b b' c c' own =
    sym (ap (λ (f : Bool). chosen least frontier places f (is_none (side frontier path) || is_hot path places) (key_in (tree_of frontier) path)) (a ∙ a')
    ∙ ap (λ (f : Bool). chosen least frontier places false (f || is_hot path places) (key_in (tree_of frontier) path)) (b ∙ b')
    ∙ ap (λ (f : Bool). chosen least frontier places false f (key_in (tree_of frontier) path)) (c ∙ c')
    ∙ sym own)

-- ---- the first keys, as they are gathered

-- where the room is full, no more are taken
pub front_full : (room : ℕ) (all keys rest : List ℕ) → take room all ≡ keys ++ take (room - length keys) rest → length keys ≡ room → keys ≡ take room all
front_full room all keys rest so_far full =
    let none' : room - length keys ≡ 0 = omega (arith, full) in
    sym (so_far ∙ ap (λ (n : ℕ). keys ++ take n rest) none' ∙ append-nil keys)

-- where there are no more, these are all
pub front_all : (room : ℕ) (all keys rest : List ℕ) → take room all ≡ keys ++ take (room - length keys) rest → rest ≡ [] → keys ≡ take room all
front_all room all keys rest so_far none' =
    sym (so_far ∙ ap (λ (xs : List ℕ). keys ++ take (room - length keys) xs) none' ∙ ap (λ (xs : List ℕ). keys ++ xs) (nothing (room - length keys)) ∙ append-nil keys)
  where
    nothing : (n : ℕ) → take {A = ℕ} n [] ≡ []
    nothing zero = refl
    nothing (suc n) = refl

-- one more is taken
pub front_more : (room key : ℕ) (all keys more rest : List ℕ) → take room all ≡ keys ++ take (room - length keys) (key ∷ rest) → length keys ≤ room → (length keys ≡ room → ⊥)
    → more ≡ keys ++ key ∷ [] → (take room all ≡ more ++ take (room - length more) rest) × (length more ≤ room)
front_more room key all keys more rest so_far few apart is =
    let longer : length more ≡ length keys + 1 = ap length is ∙ length-append keys (key ∷ []) in
    let within : length keys < room = omega (arith, few, apart) in
    let left : room - length keys ≡ suc (room - length more) = omega (arith, longer, within) in (
      so_far
          ∙ ap (λ (n : ℕ). keys ++ take n (key ∷ rest)) left
          ∙ sym (append_assoc keys (key ∷ []) (take (room - length more) rest))
          ∙ ap (λ (xs : List ℕ). xs ++ take (room - length more) rest) (sym is),
      omega (arith, longer, within),
    )

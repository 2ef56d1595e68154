-- Records of which it is listed that they were touched.
use Rattle.std.proofs.Common.{◌≡◌, ℕ, zero, suc, ◌<◌, ◌||◌, nat_eq, Bool, true, false, List, [], ◌∷◌, ◌++◌, Option, Some, None, if◌then◌else◌, refl, sym, ◌∙◌, ap, subst, arith}
use Rattle.std.proofs.Math.Path.{fun_ext}
use Rattle.std.proofs.lemmas.Bool.{true≢false}
use Rattle.std.proofs.lemmas.List.Folds.{list_any-append}
use Rattle.std.specs.BTreeMap.{is_at}
use Rattle.std.specs.List.{list_any}
use Rattle.std.specs.Map.{lookup}
use Rattle.std.specs.Option.{option_map, option_map_or}
use Rattle.tree_keys.specs.Path.{same_path}
use Rattle.tree_keys.proofs.PathLaws.{same_path-self, same_path-true}
use Rattle.record_text.specs.declared.value.Value.{Value}
use Rattle.host_shard.specs.declared.record.Record.{Record}
use Rattle.host_shard.specs.declared.touched.Touched.{Touched}
use Rattle.host_shard.specs.Records.{Listed, Kept, record_at, with_kept, untouched, touches_of}
use Rattle.host_shard.specs.Touched.{Lists, AreNoted, AreAmong, untouched_at}
use Rattle.host_shard.proofs.ForgetLemmas.{forgotten}
use Rattle.host_shard.proofs.RecordLemmas.{get_by-record}
use Rattle.tree_keys.specs.contracts.path.PathOrd.TheImpl as block

-- how often a record was touched, none if there is none
abbrev touches_at : Option Record → ℕ
touches_at found = option_map_or (λ r. r.touches) found 0

-- ---- what is forgotten

is_none : (n : ℕ) → (0 < n → ⊥) → n ≡ 0
is_none n none = omega (arith, none)

-- what was not touched is as it would be untouched
own : (found : Option Record) → (0 < touches_at found → ⊥) → found ≡ option_map forgotten found
own None none = refl
own (Some r) none = ap (λ (n : ℕ). Some (record { value = r.value; touches = n })) (is_none r.touches none)

twice : (b : Bool) (found : Option Record) → option_map forgotten (if b then option_map forgotten found else found) ≡ option_map forgotten found
twice true None = refl
twice true (Some r) = refl
twice false found = refl

-- where all that were touched are among these paths, none is touched any more
pub all_untouched : (listed : Listed) (paths : List (List Bool)) → AreAmong paths listed → untouched_at paths (record_at listed) ≡ untouched (record_at listed)
all_untouched listed paths among = fun_ext each
  where
    at : (k : List Bool) (b : Bool) → list_any (same_path k) paths ≡ b → (if b then option_map forgotten (record_at listed k) else record_at listed k) ≡ option_map forgotten (record_at listed k)
    at k true is = refl
    at k false apart = own (record_at listed k) (λ some. true≢false (sym (among k some) ∙ apart))

    each : (k : List Bool) → untouched_at paths (record_at listed) k ≡ untouched (record_at listed) k
    each k = at k (list_any (same_path k) paths) refl

-- one path more
pub untouched_step : (kept : Kept) (seen : List (List Bool)) (p : List Bool)
    → with_kept (untouched_at seen kept) p (option_map forgotten (untouched_at seen kept p)) ≡ untouched_at (seen ++ p ∷ []) kept
untouched_step kept seen p = fun_ext each
  where
    step : (q : List Bool) (b : Bool) → same_path q p ≡ b → (s : Bool) → list_any (same_path q) seen ≡ s
        → (if b then option_map forgotten (untouched_at seen kept p) else (if s then option_map forgotten (kept q) else kept q))
        ≡ (if s || (b || false) then option_map forgotten (kept q) else kept q)
    step q true same true is = twice (list_any (same_path p) seen) (kept p) ∙ sym (ap (λ (k : List Bool). option_map forgotten (kept k)) (same_path-true q p same))
    step q true same false is = twice (list_any (same_path p) seen) (kept p) ∙ sym (ap (λ (k : List Bool). option_map forgotten (kept k)) (same_path-true q p same))
    step q false apart true is = refl
    step q false apart false is = refl

    each : (q : List Bool) → with_kept (untouched_at seen kept) p (option_map forgotten (untouched_at seen kept p)) q ≡ untouched_at (seen ++ p ∷ []) kept q
    each q =
        step q (same_path q p) refl (list_any (same_path q) seen) refl
        ∙ sym (ap (λ (b : Bool). if b then option_map forgotten (kept q) else kept q) (list_any-append (same_path q) seen (p ∷ [])))

-- ---- what is listed

-- the last path of a list
pub is_last : (paths : List (List Bool)) (p : List Bool) → list_any (same_path p) (paths ++ p ∷ []) ≡ true
is_last paths p =
    list_any-append (same_path p) paths (p ∷ [])
    ∙ ap (λ (b : Bool). list_any (same_path p) paths || (b || false)) (same_path-self p)
    ∙ either (list_any (same_path p) paths)
  where
    either : (b : Bool) → (b || (true || false)) ≡ true
    either true = refl
    either false = refl

-- what a map keeps of a path, where one path's record changed
kept_at : (old new : Listed) (p : List Bool) (now : Option Record) (k : List Bool) (b : Bool) → record_at new ≡ with_kept (record_at old) p now → same_path k p ≡ b
    → touches_of new k ≡ touches_at (if b then now else record_at old k)
kept_at old new p now k b is same =
    ap (λ (kept : Kept). touches_at (kept k)) is ∙ ap (λ (c : Bool). touches_at (if c then now else record_at old k)) same

-- a record that is touched now only where it was before
pub noted_same : (t : Touched) (old new : Listed) (p : List Bool) (now : Option Record) → AreNoted t old → record_at new ≡ with_kept (record_at old) p now
    → (0 < touches_of new p → 0 < touches_of old p) → AreNoted t new
noted_same t old new p now noted is fewer k some = go (same_path k p) refl
  where
    go : (b : Bool) → same_path k p ≡ b → Lists t k
    go true same =
        let one : k ≡ p = same_path-true k p same in
        noted k (subst (λ (q : List Bool). 0 < touches_of old q) (sym one) (fewer (subst (λ (q : List Bool). 0 < touches_of new q) one some)))
    go false apart = noted k (subst (λ (n : ℕ). 0 < n) (kept_at old new p now k false is apart) some)

-- the same by what is kept of it
pub noted_kept : (t : Touched) (old new : Listed) (p : List Bool) (now : Option Record) → AreNoted t old → record_at new ≡ with_kept (record_at old) p now
    → (0 < touches_at now → 0 < touches_of old p) → AreNoted t new
noted_kept t old new p now noted is fewer =
    noted_same t old new p now noted is (λ some. fewer (subst (λ (n : ℕ). 0 < n) (kept_at old new p now p true is (same_path-self p)) some))

-- a record with another value
pub same_touches : (found : Option Record) (value : Value) → 0 < touches_at (option_map (λ (r : Record). record { value = value; touches = r.touches }) found) → 0 < touches_at found
same_touches None value some = some
same_touches (Some r) value some = some

-- a record that is listed now
pub noted_more : (t later : Touched) (old new : Listed) (p : List Bool) (now : Option Record) → AreNoted t old → record_at new ≡ with_kept (record_at old) p now
    → Lists later p → ((k : List Bool) → Lists t k → Lists later k) → AreNoted later new
noted_more t later old new p now noted is one others k some = go (same_path k p) refl
  where
    go : (b : Bool) → same_path k p ≡ b → Lists later k
    go true same = subst (Lists later) (sym (same_path-true k p same)) one
    go false apart = others k (noted k (subst (λ (n : ℕ). 0 < n) (kept_at old new p now k false is apart) some))

none_touched : (found : Option Record) → 0 < touches_at (option_map forgotten found) → ⊥
none_touched None some = omega (arith, some)
none_touched (Some r) some = omega (arith, some)

-- where none is touched any list will do
pub noted_none : (t : Touched) (new : Listed) (kept : Kept) → record_at new ≡ untouched kept → AreNoted t new
noted_none t new kept is k some = absurd (none_touched (kept k) (subst (λ (n : ℕ). 0 < n) (ap (λ (f : Kept). touches_at (f k)) is) some))

-- ---- a first touch

-- a record whose touches are not 0 is touched
pub is_touched : (listed : Listed) (p : List Bool) (kept : Record) → Some kept ≡ lookup (is_at (block.ghosts.cmp p)) listed → nat_eq kept.touches 0 ≡ false → 0 < touches_of listed p
is_touched listed p kept is some =
    let found : record_at listed p ≡ Some kept = sym (get_by-record listed p) ∙ sym is in
    let not_0 : 0 < kept.touches = more kept.touches some in
    subst (λ (o : Option Record). 0 < touches_at o) (sym found) not_0
  where
    more : (n : ℕ) → nat_eq n 0 ≡ false → 0 < n
    more zero is = absurd (true≢false is)
    more (suc n) is = omega arith

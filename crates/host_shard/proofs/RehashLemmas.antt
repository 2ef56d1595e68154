-- What rehashing a chain does to records, one path after another.
use Rattle.std.proofs.Common.{◌≡◌, Bool, true, false, List, [], ◌∷◌, Option, Some, None, IsSome, is_some, unwrap_or, not, if◌then◌else◌, refl, sym, ◌∙◌, ap, subst}
use Rattle.std.proofs.Math.Path.{fun_ext}
use Rattle.std.proofs.lemmas.Bool.{false≢true, true≢false}
use Rattle.std.specs.Option.{option_map, option_map_or}
use Rattle.tree_keys.specs.Path.{same_path}
use Rattle.tree_keys.proofs.PathLaws.{same_path-self, same_path-true}
use Rattle.record_text.specs.declared.value.Value.{Value}
use Rattle.merkle_records.specs.Merkle.{Digest}
use Rattle.host_shard.specs.declared.link.Link.{Link}
use Rattle.host_shard.specs.declared.record.Record.{Record}
use Rattle.host_shard.specs.Tree.{Tree, with_record}
use Rattle.host_shard.specs.Chain.{closed_value, closed_records}
use Rattle.host_shard.specs.Records.{Kept, with_kept, new_record, values_in, touches_in}
use Rattle.host_shard.proofs.RecordLemmas.{kept_same, there}

-- the record of a path, or a new one
abbrev pub opened : Kept → List Bool → Kept
opened kept p = with_kept kept p (Some (unwrap_or (kept p) (new_record p)))

-- records with another value at a path
abbrev pub valued : Kept → List Bool → Value → Kept
valued kept p value = with_kept kept p (option_map (λ r. record { value = value; touches = r.touches }) (kept p))

-- ---- opening a path

opened_there : (kept : Kept) (p : List Bool) → IsSome (values_in (opened kept p) p)
opened_there kept p =
    subst (λ (b : Bool). IsSome (option_map (λ r. r.value) (if b then Some (unwrap_or (kept p) (new_record p)) else kept p))) (sym (same_path-self p)) refl

opened_else : (kept : Kept) (p k : List Bool) → same_path k p ≡ false → values_in (opened kept p) k ≡ values_in kept k
opened_else kept p k apart = ap (λ (b : Bool). option_map (λ (r : Record). r.value) (if b then Some (unwrap_or (kept p) (new_record p)) else kept k)) apart

opened_touches : (kept : Kept) (p : List Bool) → touches_in (opened kept p) ≡ touches_in kept
opened_touches kept p = fun_ext each
  where
    own : (found : Option Record) → option_map_or (λ (r : Record). r.touches) (Some (unwrap_or found (new_record p))) 0 ≡ option_map_or (λ (r : Record). r.touches) found 0
    own None = refl
    own (Some r) = refl

    at : (k : List Bool) (b : Bool) → same_path k p ≡ b → option_map_or (λ (r : Record). r.touches) (if b then Some (unwrap_or (kept p) (new_record p)) else kept k) 0 ≡ touches_in kept k
    at k true same = own (kept p) ∙ sym (ap (touches_in kept) (same_path-true k p same))
    at k false apart = refl

    each : (k : List Bool) → touches_in (opened kept p) k ≡ touches_in kept k
    each k = at k (same_path k p) refl

-- opening is undone where the path is removed, if it had no record; else nothing was done
pub reopened : (kept : Kept) (p : List Bool) → is_some (kept p) ≡ true → opened kept p ≡ kept
reopened kept p some = sym (kept_same kept p _ (there (kept p) (new_record p) some))

pub undone : (kept : Kept) (p : List Bool) → is_some (kept p) ≡ false → with_kept (opened kept p) p None ≡ kept
undone kept p none = fun_ext each
  where
    absent : (o : Option Record) → is_some o ≡ false → None ≡ o
    absent None is = refl
    absent (Some r) is = absurd (true≢false is)

    at : (k : List Bool) (b : Bool) → same_path k p ≡ b → (if b then None else (if b then Some (unwrap_or (kept p) (new_record p)) else kept k)) ≡ kept k
    at k true same = absent (kept p) none ∙ sym (ap kept (same_path-true k p same))
    at k false apart = refl

    each : (k : List Bool) → with_kept (opened kept p) p None k ≡ kept k
    each k = at k (same_path k p) refl

-- ---- setting the value of a path

valued_touches : (kept : Kept) (p : List Bool) (value : Value) → touches_in (valued kept p value) ≡ touches_in kept
valued_touches kept p value = fun_ext each
  where
    own : (found : Option Record) → option_map_or (λ (r : Record). r.touches) (option_map (λ (r : Record). record { value = value; touches = r.touches }) found) 0 ≡ option_map_or (λ (r : Record). r.touches) found 0
    own None = refl
    own (Some r) = refl

    at : (k : List Bool) (b : Bool) → same_path k p ≡ b
        → option_map_or (λ (r : Record). r.touches) (if b then option_map (λ (r : Record). record { value = value; touches = r.touches }) (kept p) else kept k) 0 ≡ touches_in kept k
    at k true same = own (kept p) ∙ sym (ap (touches_in kept) (same_path-true k p same))
    at k false apart = refl

    each : (k : List Bool) → touches_in (valued kept p value) k ≡ touches_in kept k
    each k = at k (same_path k p) refl

valued_values : (kept : Kept) (p : List Bool) (value : Value) → IsSome (values_in kept p) → values_in (valued kept p value) ≡ with_record (values_in kept) p value
valued_values kept p value some = fun_ext each
  where
    own : (found : Option Record) → IsSome (option_map (λ (r : Record). r.value) found)
        → option_map (λ (r : Record). r.value) (option_map (λ (r : Record). record { value = value; touches = r.touches }) found) ≡ Some value
    own None is = absurd (false≢true is)
    own (Some r) is = refl

    at : (k : List Bool) (b : Bool) → same_path k p ≡ b
        → option_map (λ (r : Record). r.value) (if b then option_map (λ (r : Record). record { value = value; touches = r.touches }) (kept p) else kept k) ≡ (if b then Some value else values_in kept k)
    at k true same = own (kept p) some
    at k false apart = refl

    each : (k : List Bool) → values_in (valued kept p value) k ≡ with_record (values_in kept) p value k
    each k = at k (same_path k p) refl

-- ---- closing a chain

one_of : (b : Bool) (value : Value) (o : Option Value) → IsSome o → IsSome (if b then Some value else o)
one_of true value o some = refl
one_of false value o some = some

-- what has a record keeps one
pub closed_there : (digest : Digest) (lent : Bool) (tree : Tree) (links : List Link) (last : Value) (k : List Bool)
    → IsSome (tree k) → IsSome (closed_records digest lent tree links last k)
closed_there digest lent tree [] last k some = some
closed_there digest lent tree (link ∷ links) last k some =
    one_of (same_path k link.path) (closed_value digest lent link.path link.taken links last) (closed_records digest lent tree links last k)
    (closed_there digest lent tree links last k some)

-- what is changed at one path is changed at no other
closed_else : (digest : Digest) (lent : Bool) (tree other : Tree) (links : List Link) (last : Value) (k : List Bool) → tree k ≡ other k
    → closed_records digest lent tree links last k ≡ closed_records digest lent other links last k
closed_else digest lent tree other [] last k same = same
closed_else digest lent tree other (link ∷ links) last k same =
    ap (λ (o : Option Value). if same_path k link.path then Some (closed_value digest lent link.path link.taken links last) else o)
    (closed_else digest lent tree other links last k same)

closed_one : (digest : Digest) (kept : Kept) (link : Link) (links : List Link) (last value : Value)
    → with_record (closed_records digest false (values_in (opened kept link.path)) links last) link.path value
    ≡ with_record (closed_records digest false (values_in kept) links last) link.path value
closed_one digest kept link links last value = fun_ext each
  where
    at : (k : List Bool) (b : Bool) → same_path k link.path ≡ b
        → (if b then Some value else closed_records digest false (values_in (opened kept link.path)) links last k)
        ≡ (if b then Some value else closed_records digest false (values_in kept) links last k)
    at k true same = refl
    at k false apart = closed_else digest false _ _ links last k (opened_else kept link.path k apart)

    each : (k : List Bool) → with_record (closed_records digest false (values_in (opened kept link.path)) links last) link.path value k
        ≡ with_record (closed_records digest false (values_in kept) links last) link.path value k
    each k = at k (same_path k link.path) refl

-- A link opened, what is below it rehashed, and its value set: the records are closed from that link on.
pub rehashed_values : (digest : Digest) (kept mid : Kept) (link : Link) (links : List Link) (last value : Value)
    → values_in mid ≡ closed_records digest false (values_in (opened kept link.path)) links last
    → value ≡ closed_value digest false link.path link.taken links last
    → values_in (valued mid link.path value) ≡ closed_records digest false (values_in kept) (link ∷ links) last
rehashed_values digest kept mid link links last value below is =
    valued_values mid link.path value
    (subst (λ (t : Tree). IsSome (t link.path)) (sym below) (closed_there digest false _ links last link.path (opened_there kept link.path)))
    ∙ ap (λ (t : Tree). with_record t link.path value) below
    ∙ closed_one digest kept link links last value
    ∙ ap (with_record (closed_records digest false (values_in kept) links last) link.path) is

pub rehashed_touches : (kept mid : Kept) (p : List Bool) (value : Value) → touches_in mid ≡ touches_in (opened kept p)
    → touches_in (valued mid p value) ≡ touches_in kept
rehashed_touches kept mid p value same = valued_touches mid p value ∙ same ∙ opened_touches kept p

-- ---- for want of memory

not_not : (b c : Bool) → b ≡ not c → c ≡ not b
not_not b true is = ap not (sym is)
not_not b false is = ap not (sym is)

-- a path that was opened anew is removed again
pub undone_if_new : (kept mid : Kept) (p : List Bool) (new : Bool) → mid ≡ opened kept p → new ≡ not (is_some (kept p)) → new ≡ true → with_kept mid p None ≡ kept
undone_if_new kept mid p new same is was =
    ap (λ (m : Kept). with_kept m p None) same ∙ undone kept p (not_not new (is_some (kept p)) is ∙ ap not was)

-- a path that had a record was not changed
pub unless_new : (kept mid : Kept) (p : List Bool) (new : Bool) → mid ≡ opened kept p → new ≡ not (is_some (kept p)) → new ≡ false → mid ≡ kept
unless_new kept mid p new same is was = same ∙ reopened kept p (not_not new (is_some (kept p)) is ∙ ap not was)

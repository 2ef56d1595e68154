-- What is kept of a shard, and a shard that is as before again.
use Rattle.std.proofs.Common.{◌≡◌, ℕ, Bool, true, false, List, [], ◌∷◌, Option, Some, None, IsSome, unwrap_or, if◌then◌else◌, refl, sym, ◌∙◌, ap, subst}
use Rattle.std.proofs.lemmas.Bool.{false≢true, true≢false}
use Rattle.std.proofs.Math.Path.{fun_ext}
use Rattle.std.specs.List.{AllByRecursion}
use Rattle.std.specs.Option.{option_map, option_map_or}
use Rattle.tree_keys.specs.Path.{same_path}
use Rattle.tree_keys.proofs.PathLaws.{same_path-true, same_path-self}
use Rattle.record_text.specs.declared.value.Value.{Value}
use Rattle.merkle_records.specs.Merkle.{Digest}
use Rattle.host_shard.specs.declared.record.Record.{Record}
use Rattle.host_shard.specs.declared.link.Link.{Link}
use Rattle.host_shard.specs.Records.{Kept, with_kept, values_in, touches_in}
use Rattle.host_shard.specs.Tree.{Tree, with_record}
use Rattle.host_shard.specs.Chain.{closed_value, closed_records}
use Rattle.protection_moves.specs.declared.saving.SavedRecord.{SavedRecord}
use Rattle.protection_moves.specs.Saving.{saved_along, with_value, IsElsewhere, CanRestore}

-- ---- one path

-- a record's value is set
pub set_values : (kept new : Kept) (path : List Bool) (value : Value)
    → new ≡ with_kept kept path (option_map (λ (r : Record). record { value = value; touches = r.touches }) (kept path))
    → IsSome (values_in kept path) → values_in new ≡ with_value (values_in kept) path (Some value)
set_values kept new path value is some = ap values_in is ∙ fun_ext each
  where
    own : (found : Option Record) → IsSome (option_map (λ (r : Record). r.value) found)
        → option_map (λ (r : Record). r.value) (option_map (λ (r : Record). record { value = value; touches = r.touches }) found) ≡ Some value
    own None none = absurd (false≢true none)
    own (Some r) there = refl

    at : (k : List Bool) (b : Bool)
        → option_map (λ (r : Record). r.value) (if b then option_map (λ (r : Record). record { value = value; touches = r.touches }) (kept path) else kept k)
        ≡ (if b then Some value else values_in kept k)
    at k true = own (kept path) some
    at k false = refl

    each : (k : List Bool) → values_in (with_kept kept path (option_map (λ (r : Record). record { value = value; touches = r.touches }) (kept path))) k
        ≡ with_value (values_in kept) path (Some value) k
    each k = at k (same_path k path)

pub set_touches : (kept new : Kept) (path : List Bool) (value : Value)
    → new ≡ with_kept kept path (option_map (λ (r : Record). record { value = value; touches = r.touches }) (kept path))
    → touches_in new ≡ touches_in kept
set_touches kept new path value is = ap touches_in is ∙ fun_ext each
  where
    own : (found : Option Record)
        → option_map_or (λ (r : Record). r.touches) (option_map (λ (r : Record). record { value = value; touches = r.touches }) found) 0 ≡ option_map_or (λ (r : Record). r.touches) found 0
    own None = refl
    own (Some r) = refl

    at : (k : List Bool) (b : Bool) → same_path k path ≡ b
        → option_map_or (λ (r : Record). r.touches) (if b then option_map (λ (r : Record). record { value = value; touches = r.touches }) (kept path) else kept k) 0 ≡ touches_in kept k
    at k true same = own (kept path) ∙ sym (ap (touches_in kept) (same_path-true k path same))
    at k false apart = refl

    each : (k : List Bool) → touches_in (with_kept kept path (option_map (λ (r : Record). record { value = value; touches = r.touches }) (kept path))) k ≡ touches_in kept k
    each k = at k (same_path k path) refl

-- a record is dropped
pub dropped_values : (kept new : Kept) (path : List Bool) → new ≡ with_kept kept path None → values_in new ≡ with_value (values_in kept) path None
dropped_values kept new path is = ap values_in is ∙ fun_ext each
  where
    at : (k : List Bool) (b : Bool) → option_map (λ (r : Record). r.value) (if b then None else kept k) ≡ (if b then None else values_in kept k)
    at k true = refl
    at k false = refl

    each : (k : List Bool) → values_in (with_kept kept path None) k ≡ with_value (values_in kept) path None k
    each k = at k (same_path k path)

pub dropped_touches : (kept new : Kept) (path : List Bool) → new ≡ with_kept kept path None → touches_in kept path ≡ 0 → touches_in new ≡ touches_in kept
dropped_touches kept new path is none = ap touches_in is ∙ fun_ext each
  where
    at : (k : List Bool) (b : Bool) → same_path k path ≡ b → option_map_or (λ (r : Record). r.touches) (if b then None else kept k) 0 ≡ touches_in kept k
    at k true same = sym none ∙ sym (ap (touches_in kept) (same_path-true k path same))
    at k false apart = refl

    each : (k : List Bool) → touches_in (with_kept kept path None) k ≡ touches_in kept k
    each k = at k (same_path k path) refl

-- a path without a record has no touches
pub no_touches : (kept : Kept) (path : List Bool) → values_in kept path ≡ None → touches_in kept path ≡ 0
no_touches kept path none = own (kept path) none
  where
    own : (found : Option Record) → option_map (λ (r : Record). r.value) found ≡ None → option_map_or (λ (r : Record). r.touches) found 0 ≡ 0
    own None is = refl
    own (Some r) is = absurd (true≢false (ap is_some' is))
      where
        is_some' : Option Value → Bool
        is_some' None = false
        is_some' (Some v) = true

-- ---- several paths

-- the first of what was saved can be restored
pub first_there : (was now : Tree) (touches : List Bool → ℕ) (first : SavedRecord) (rest : List SavedRecord) → CanRestore was touches (first ∷ rest) now
    → IsSome first.value → IsSome (now first.path)
first_there was now touches first rest can some = can.kept first.path (subst IsSome can.values.0 some)

pub first_quiet : (was now : Tree) (touches : List Bool → ℕ) (first : SavedRecord) (rest : List SavedRecord) → CanRestore was touches (first ∷ rest) now
    → first.value ≡ None → touches first.path ≡ 0
first_quiet was now touches first rest can none = can.quiet first.path (sym can.values.0 ∙ none)

-- and then the others
pub rest_can : (was now then' : Tree) (touches now_touches : List Bool → ℕ) (first : SavedRecord) (rest : List SavedRecord) → CanRestore was touches (first ∷ rest) now
    → then' ≡ with_value now first.path first.value → now_touches ≡ touches → CanRestore was now_touches rest then'
rest_can was now then' touches now_touches first rest can is same = record {
  values = can.values.1;
  others = λ path apart. ap (λ (t : Tree). t path) is ∙ other path (same_path path first.path) refl apart;
  kept = λ path some. subst (λ (t : Tree). IsSome (t path)) (sym is) (stays path (same_path path first.path) refl some);
  quiet = λ path none. ap (λ (t : List Bool → ℕ). t path) same ∙ can.quiet path none;
}
  where
    other : (path : List Bool) (b : Bool) → same_path path first.path ≡ b → IsElsewhere rest path → (if b then first.value else now path) ≡ was path
    other path true here apart = can.values.0 ∙ sym (ap was (same_path-true path first.path here))
    other path false there apart = can.others path (there, apart)

    stays : (path : List Bool) (b : Bool) → same_path path first.path ≡ b → IsSome (was path) → IsSome (if b then first.value else now path)
    stays path true here some = subst IsSome (ap was (same_path-true path first.path here) ∙ sym can.values.0) some
    stays path false there some = can.kept path some

-- ---- a shard whose chain was rehashed

one_of : (b : Bool) (value : Value) (o : Option Value) → IsSome o → IsSome (if b then Some value else o)
one_of true value o some = refl
one_of false value o some = some

-- what has a record keeps one
pub closed_there : (digest : Digest) (lent : Bool) (tree : Tree) (links : List Link) (last : Value) (k : List Bool)
    → IsSome (tree k) → IsSome (closed_records digest lent tree links last k)
closed_there digest lent tree [] last k some = some
closed_there digest lent tree (link ∷ links) last k some =
    one_of (same_path k link.path) (closed_value digest lent link.path link.taken links last) (closed_records digest lent tree links last k)
    (closed_there digest lent tree links last k some)

-- the paths of other links are as they were
pub closed_elsewhere : (digest : Digest) (lent : Bool) (tree : Tree) (links : List Link) (last : Value) (k : List Bool)
    → AllByRecursion (λ (link : Link). same_path k link.path ≡ false) links → closed_records digest lent tree links last k ≡ tree k
closed_elsewhere digest lent tree [] last k apart = refl
closed_elsewhere digest lent tree (link ∷ links) last k apart =
    ap (λ (b : Bool). if b then Some (closed_value digest lent link.path link.taken links last) else closed_records digest lent tree links last k) apart.0
    ∙ closed_elsewhere digest lent tree links last k apart.1

-- what was saved along links was there
pub saved_was : (tree : Tree) (links : List Link) → AllByRecursion (λ (kept : SavedRecord). kept.value ≡ tree kept.path) (saved_along tree links)
saved_was tree [] = tt
saved_was tree (link ∷ links) = (refl, saved_was tree links)

pub elsewhere_links : (tree : Tree) (links : List Link) (k : List Bool) → IsElsewhere (saved_along tree links) k → AllByRecursion (λ (link : Link). same_path k link.path ≡ false) links
elsewhere_links tree [] k apart = tt
elsewhere_links tree (link ∷ links) k apart = (apart.0, elsewhere_links tree links k apart.1)

-- ---- a record that has a place for a while

-- a path is opened, and then its value is set
pub opened_values : (kept mid new : Kept) (path : List Bool) (fresh : Record) (value : Value)
    → mid ≡ with_kept kept path (Some (unwrap_or (kept path) fresh))
    → new ≡ with_kept mid path (option_map (λ (r : Record). record { value = value; touches = r.touches }) (mid path))
    → values_in new ≡ with_record (values_in kept) path value
opened_values kept mid new path fresh value opened set =
    set_values mid new path value set (subst (λ (k : Kept). IsSome (values_in k path)) (sym opened) (there (same_path path path) (same_path-self path)))
    ∙ fun_ext each
  where
    there : (b : Bool) → b ≡ true → IsSome (option_map (λ (r : Record). r.value) (if b then Some (unwrap_or (kept path) fresh) else kept path))
    there true is = refl
    there false is = absurd (false≢true is)

    at : (k : List Bool) (b : Bool) → same_path k path ≡ b → (if b then Some value else values_in mid k) ≡ (if b then Some value else values_in kept k)
    at k true here = refl
    at k false apart = ap (λ (m : Kept). values_in m k) opened
        ∙ ap (λ (b : Bool). option_map (λ (r : Record). r.value) (if b then Some (unwrap_or (kept path) fresh) else kept k)) apart

    each : (k : List Bool) → with_value (values_in mid) path (Some value) k ≡ with_record (values_in kept) path value k
    each k = at k (same_path k path) refl

pub opened_touches : (kept mid new : Kept) (path : List Bool) (fresh : Record) (value : Value) → fresh.touches ≡ 0
    → mid ≡ with_kept kept path (Some (unwrap_or (kept path) fresh))
    → new ≡ with_kept mid path (option_map (λ (r : Record). record { value = value; touches = r.touches }) (mid path))
    → touches_in new ≡ touches_in kept
opened_touches kept mid new path fresh value none' opened set = set_touches mid new path value set ∙ ap touches_in opened ∙ fun_ext each
  where
    own : (found : Option Record) → option_map_or (λ (r : Record). r.touches) (Some (unwrap_or found fresh)) 0 ≡ option_map_or (λ (r : Record). r.touches) found 0
    own None = none'
    own (Some r) = refl

    at : (k : List Bool) (b : Bool) → same_path k path ≡ b → option_map_or (λ (r : Record). r.touches) (if b then Some (unwrap_or (kept path) fresh) else kept k) 0 ≡ touches_in kept k
    at k true here = own (kept path) ∙ sym (ap (touches_in kept) (same_path-true k path here))
    at k false apart = refl

    each : (k : List Bool) → touches_in (with_kept kept path (Some (unwrap_or (kept path) fresh))) k ≡ touches_in kept k
    each k = at k (same_path k path) refl

-- its path has again what it had
pub taken_away : (was now then' : Tree) (path : List Bool) (value : Value) (found : Option Value) → now ≡ with_record was path value → found ≡ was path
    → ((IsSome found → IsSome (now path)) → then' ≡ with_value now path found) → then' ≡ was
taken_away was now then' path value found is same restored =
    restored (λ some. subst (λ (t : Tree). IsSome (t path)) (sym is) (there (same_path path path) (same_path-self path)))
    ∙ ap (λ (t : Tree). with_value t path found) is
    ∙ fun_ext each
  where
    there : (b : Bool) → b ≡ true → IsSome (if b then Some value else was path)
    there true here = refl
    there false here = absurd (false≢true here)

    at : (k : List Bool) (b : Bool) → same_path k path ≡ b → (if b then found else if b then Some value else was k) ≡ was k
    at k true here = same ∙ sym (ap was (same_path-true k path here))
    at k false apart = refl

    each : (k : List Bool) → with_value (with_record was path value) path found k ≡ was k
    each k = at k (same_path k path) refl

-- What a touch does to what a shard shows.
use Rattle.std.proofs.Common.{◌≡◌, Bool, true, false, List, Option, Some, None, IsSome, if◌then◌else◌, refl, sym, ◌∙◌, ap}
use Rattle.std.proofs.Math.Path.{fun_ext}
use Rattle.std.proofs.lemmas.Bool.{false≢true}
use Rattle.std.specs.Option.{option_map, option_map_or}
use Rattle.tree_keys.specs.Path.{same_path}
use Rattle.tree_keys.proofs.PathLaws.{same_path-true}
use Rattle.host_shard.specs.declared.record.Record.{Record}
use Rattle.host_shard.specs.Records.{Kept, with_kept, values_in, touches_in}
use Rattle.host_shard.specs.Shard.{one_more, touched}

-- records with one touch more of a path
abbrev pub counted : Kept → List Bool → Kept
counted kept p = with_kept kept p (option_map (λ r. record { value = r.value; touches = one_more r.touches }) (kept p))

-- their values are the same
pub counted_values : (kept : Kept) (p : List Bool) → values_in (counted kept p) ≡ values_in kept
counted_values kept p = fun_ext each
  where
    own : (found : Option Record) → option_map (λ (r : Record). r.value) (option_map (λ (r : Record). record { value = r.value; touches = one_more r.touches }) found) ≡ option_map (λ (r : Record). r.value) found
    own None = refl
    own (Some r) = refl

    at : (k : List Bool) (b : Bool) → same_path k p ≡ b
        → option_map (λ (r : Record). r.value) (if b then option_map (λ (r : Record). record { value = r.value; touches = one_more r.touches }) (kept p) else kept k) ≡ values_in kept k
    at k true same = own (kept p) ∙ sym (ap (values_in kept) (same_path-true k p same))
    at k false apart = refl

    each : (k : List Bool) → values_in (counted kept p) k ≡ values_in kept k
    each k = at k (same_path k p) refl

-- the path has one touch more
pub counted_touches : (kept : Kept) (p : List Bool) → IsSome (values_in kept p) → touches_in (counted kept p) ≡ touched (touches_in kept) p
counted_touches kept p some = fun_ext each
  where
    own : (found : Option Record) → IsSome (option_map (λ (r : Record). r.value) found)
        → option_map_or (λ (r : Record). r.touches) (option_map (λ (r : Record). record { value = r.value; touches = one_more r.touches }) found) 0 ≡ one_more (option_map_or (λ (r : Record). r.touches) found 0)
    own None is = absurd (false≢true is)
    own (Some r) is = refl

    at : (k : List Bool) (b : Bool) → same_path k p ≡ b
        → option_map_or (λ (r : Record). r.touches) (if b then option_map (λ (r : Record). record { value = r.value; touches = one_more r.touches }) (kept p) else kept k) 0
        ≡ (if b then one_more (touches_in kept k) else touches_in kept k)
    at k true same = own (kept p) some ∙ sym (ap (λ (j : List Bool). one_more (touches_in kept j)) (same_path-true k p same))
    at k false apart = refl

    each : (k : List Bool) → touches_in (counted kept p) k ≡ touched (touches_in kept) p k
    each k = at k (same_path k p) refl

-- Records of which the touches are forgotten.
use Rattle.std.proofs.Common.{◌≡◌, Bool, true, false, List, [], ◌∷◌, map, Option, Some, None, cond, refl}
use Rattle.std.proofs.Math.Path.{fun_ext}
use Rattle.std.specs.Map.{lookup}
use Rattle.std.specs.Option.{option_map, option_map_or}
use Rattle.tree_keys.specs.Path.{same_path}
use Rattle.host_shard.specs.declared.record.Record.{Record}
use Rattle.host_shard.specs.Records.{Listed, Kept, record_at, untouched, values_in, touches_in}

-- a record without its touches
abbrev pub forgotten : Record → Record
forgotten r = record { value = r.value; touches = 0 }

-- the list with each record changed
pub record_at-forgotten : (listed : Listed) → record_at (map (λ (e : List Bool × Record). (e.0, forgotten e.1)) listed) ≡ untouched (record_at listed)
record_at-forgotten listed = fun_ext (λ path. each path listed)
  where
    each : (path : List Bool) (some : Listed) → lookup (same_path path) (map (λ (e : List Bool × Record). (e.0, forgotten e.1)) some) ≡ option_map forgotten (lookup (same_path path) some)
    each path [] = refl
    each path (e ∷ more) =
        elim (same_path path e.0) as (λ b. cond b (Some (forgotten e.1)) (lookup (same_path path) (map (λ (o : List Bool × Record). (o.0, forgotten o.1)) more))
        ≡ option_map forgotten (cond b (Some e.1) (lookup (same_path path) more))) [
          | true ↦ refl
          | false ↦ each path more
        ]

-- their values are the same
pub untouched_values : (kept : Kept) → values_in (untouched kept) ≡ values_in kept
untouched_values kept = fun_ext (λ path. own (kept path))
  where
    own : (found : Option Record) → option_map (λ (r : Record). r.value) (option_map forgotten found) ≡ option_map (λ (r : Record). r.value) found
    own None = refl
    own (Some r) = refl

-- and no path has touches
pub untouched_touches : (kept : Kept) → touches_in (untouched kept) ≡ (λ path. 0)
untouched_touches kept = fun_ext (λ path. own (kept path))
  where
    own : (found : Option Record) → option_map_or (λ (r : Record). r.touches) (option_map forgotten found) 0 ≡ 0
    own None = refl
    own (Some r) = refl

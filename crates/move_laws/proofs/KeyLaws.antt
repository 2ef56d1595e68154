-- Hot records whose keys are of one shard's tree: their paths tell their keys apart, and their keys their paths.
use Rattle.std.proofs.Common.{◌≡◌, ℕ, ◌<◌, ◌^◌, Bool, List, [], ◌∷◌, map, refl, sym, ◌∙◌, ap, subst}
use Rattle.std.specs.List.{AllByRecursion}
use Rattle.tree_keys.specs.Path as paths
use Rattle.tree_keys.specs.Path.{key_bits, key_path}
use Rattle.tree_keys.proofs.TreeLaws.{key_path-injective}
use Rattle.host_shard.specs.declared.content.HotRecord.{HotRecord}
use Rattle.host_shard.specs.Content.{hot_path}
use Rattle.host_shard.specs.Mirrors.{HasKeyOf}
use Rattle.host_shard.specs.Shard.{Shard, wide_in, key_path_in}
use Rattle.move_laws.proofs.PlaceLaws.{all-map}

-- the key's path is the one in the shard's tree
pub path_in : (shard : Shard) (found : HotRecord) → HasKeyOf shard found → hot_path found ≡ key_path_in shard found.key
path_in shard found has = ap (λ (wide : Bool). key_path wide found.key) has.tree

-- and the key in that tree's range
pub range_in : (shard : Shard) (found : HotRecord) → HasKeyOf shard found → found.key < 2 ^ key_bits (wide_in shard)
range_in shard found has = subst (λ (wide : Bool). found.key < 2 ^ key_bits wide) has.tree has.range

-- records of one key have one path
pub same_path_of : (shard : Shard) (a b : HotRecord) → HasKeyOf shard a → HasKeyOf shard b → a.key ≡ b.key → hot_path a ≡ hot_path b
same_path_of shard a b one other same =
    path_in shard a one ∙ (ap (λ (key : ℕ). key_path_in shard key) same ∙ sym (path_in shard b other))

-- and records of one path one key
pub same_key_of : (shard : Shard) (a b : HotRecord) → HasKeyOf shard a → HasKeyOf shard b → hot_path a ≡ hot_path b → a.key ≡ b.key
same_key_of shard a b one other same =
    key_path-injective (wide_in shard) a.key b.key (range_in shard a one) (range_in shard b other)
    (sym (path_in shard a one) ∙ (same ∙ path_in shard b other))

-- the paths of records, read off their keys
pub paths_in : (shard : Shard) (records : List HotRecord) → AllByRecursion (HasKeyOf shard) records
    → map hot_path records ≡ map (λ (r : HotRecord). key_path_in shard r.key) records
paths_in shard [] all = refl
paths_in shard (found ∷ records) all =
    ap (λ (path : List Bool). path ∷ map hot_path records) (path_in shard found all.0)
    ∙ ap (λ (rest : List (List Bool)). key_path_in shard found.key ∷ rest) (paths_in shard records all.1)

-- where the frontier stays, keys of the shard are so still
pub has_key-on : (old new : Shard) → new.frontier ≡ old.frontier → (found : HotRecord) → HasKeyOf old found → HasKeyOf new found
has_key-on old new same found has = record {
  tree = has.tree ∙ ap (λ (frontier : List Bool). paths.tree_of frontier) (sym same);
  range = has.range;
}

pub have_keys-on : (old new : Shard) → new.frontier ≡ old.frontier → (records : List HotRecord) → AllByRecursion (HasKeyOf old) records
    → AllByRecursion (HasKeyOf new) records
have_keys-on old new same records all = all-map (HasKeyOf old) (HasKeyOf new) (has_key-on old new same) records all
